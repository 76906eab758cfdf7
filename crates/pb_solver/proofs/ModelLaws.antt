-- Where all constraints rest and each variable has a value, the values satisfy.
use Rattle.std.proofs.Common.{ℕ, ◌<◌, ◌≤◌, Bool, true, false, not, cond, List, [], ◌∷◌, ◌++◌, length, get_or, Option, Some, None, IsSome, All, subst, arith}
use Rattle.std.proofs.lemmas.Bool.{false≢true}
use Rattle.std.proofs.lemmas.List.{get_or_append_left, length-append}
use Rattle.std.proofs.lemmas.List.Elements.{All-head, All-tail}
use Rattle.std.proofs.lemmas.List.Sums.{sum_by-cons}
use Rattle.pb_core.specs.AtLeast.{AtLeast}
use Rattle.pb_core.specs.KeptView.{IsKeepable}
use Rattle.pb_core.specs.Literal.{holds}
use Rattle.pb_core.specs.Propagates.{IsAtRest}
use Rattle.pb_core.specs.Satisfied.{true_sum, SatisfiesAll}
use Rattle.pb_core.specs.Slack.{reachable}
use Rattle.pb_core.specs.Values.{value_of, has_truth, is_false}
use Rattle.pb_core.specs.declared.literal.Term.{Term}
use Rattle.pb_solver.specs.Values.{AreAssigned, truths}

share-le : (o : Option Bool) (p : Bool) (n : ℕ) → IsSome o → cond (has_truth o (not p)) 0 n ≤ cond (cond p (has_truth o true) (not (has_truth o true))) n 0
share-le None p n e = absurd (false≢true e)
share-le (Some true) true n e = omega arith
share-le (Some true) false n e = omega arith
share-le (Some false) true n e = omega arith
share-le (Some false) false n e = omega arith

abbrev HasValue : List (Option Bool) → Term → Type 0
HasValue values t = IsSome (value_of values t.lit.variable)

reachable-le-true_sum : (values : List (Option Bool)) (terms : List Term) → All (HasValue values) terms → reachable values terms ≤ true_sum (truths values) terms
reachable-le-true_sum values [] all = omega arith
reachable-le-true_sum values (t ∷ terms) all =
    let one = sum_by-cons (λ (u : Term). cond (is_false values u.lit) 0 u.coef) t terms in
    let two = sum_by-cons (λ (u : Term). cond (holds (truths values) u.lit) u.coef 0) t terms in
    let here = share-le (value_of values t.lit.variable) t.lit.positive t.coef (All-head (HasValue values) t terms all) in
    let rest = reachable-le-true_sum values terms (All-tail (HasValue values) t terms all) in
    omega (arith, one, two, here, rest)

pub rest_satisfies : (values : List (Option Bool)) (cs : List AtLeast) → IsAtRest cs values → All (IsKeepable (length values)) cs → AreAssigned values → SatisfiesAll (truths values) cs
rest_satisfies values cs rest keepable assigned k d h =
    let among = (keepable k d h).among in
    let reach = reachable-le-true_sum values (get_or cs k d).terms (λ j t lt. assigned (get_or (get_or cs k d).terms j t).lit.variable (among j t lt).0 (among j t lt).1) in
    not_below (get_or cs k d).degree (reachable values (get_or cs k d).terms) (true_sum (truths values) (get_or cs k d).terms) (rest k d h).0 reach
  where
    not_below : (degree reach sum : ℕ) → (reach < degree → ⊥) → reach ≤ sum → degree ≤ sum
    not_below degree reach sum reaches h = omega (arith, reaches)

pub All-first : (P : AtLeast → Type 0) (xs ys : List AtLeast) → All P (xs ++ ys) → All P xs
All-first P xs ys all k d h =
    subst P (get_or_append_left xs ys d k h) (all k d (omega (arith, h, length-append xs ys)))
