-- What a constraint under some values says of the full assignments that complete them.
use Rattle.std.proofs.Common.{◌≡◌, ℕ, ◌+◌, ◌≤◌, Bool, true, false, cond, List, [], ◌∷◌, ◌++◌, Option, ◌||◌, refl, sym, arith}
use Rattle.std.specs.List.{list_any}
use Rattle.std.proofs.lemmas.Bool.{false≢true}
use Rattle.std.proofs.lemmas.List.Sums.{sum_by-cons, sum_by-le-sum_by}
use Rattle.std.proofs.lemmas.List.Elements.{All-push}
use Rattle.pb_core.specs.AtLeast.{AtLeast, clause}
use Rattle.pb_core.specs.Literal.{holds}
use Rattle.pb_core.specs.Satisfied.{true_sum, IsSatisfied, MakesTrue, Follows}
use Rattle.pb_core.specs.Slack.{reachable, IsViolated, Forces}
use Rattle.pb_core.specs.Values.{is_false, Completes}
use Rattle.pb_core.specs.declared.literal.Lit.{Lit}
use Rattle.pb_core.specs.declared.literal.Term.{Term}
use Rattle.pb_core.proofs.SumLaws.{sum_by-less}
use Rattle.pb_core.proofs.ValueLaws.{is_false-fails, open_not_false}

-- the share of a term that is true is none of a false one
share_le : (true_one false_one : Bool) (coef : ℕ) → (false_one ≡ true → true_one ≡ false) → cond true_one coef 0 ≤ cond false_one 0 coef
share_le true true coef e = absurd (false≢true (sym (e refl)))
share_le true false coef e = omega arith
share_le false true coef e = omega arith
share_le false false coef e = omega arith

pub term_share_le : (full : ℕ → Bool) (values : List (Option Bool)) → Completes full values → (t : Term) → cond (holds full t.lit) t.coef 0 ≤ cond (is_false values t.lit) 0 t.coef
term_share_le full values completes t = share_le (holds full t.lit) (is_false values t.lit) t.coef (is_false-fails full values t.lit completes)

pub true_sum-le-reachable : (full : ℕ → Bool) (values : List (Option Bool)) (terms : List Term) → Completes full values → true_sum full terms ≤ reachable values terms
true_sum-le-reachable full values terms completes = sum_by-le-sum_by (λ t. cond (holds full t.lit) t.coef 0) (λ t. cond (is_false values t.lit) 0 t.coef) terms (term_share_le full values completes)

pub violated_has_no_completion : (full : ℕ → Bool) (values : List (Option Bool)) (c : AtLeast) → IsViolated values c → Completes full values → IsSatisfied full c → ⊥
violated_has_no_completion full values c violated completes satisfied =
    omega (arith, true_sum-le-reachable full values c.terms completes)

at_open : (true_one false_one : Bool) (coef : ℕ) → true_one ≡ false → false_one ≡ false → cond true_one coef 0 + coef ≤ cond false_one 0 coef
at_open true false_one coef e f = cc
at_open false true coef e f = cc
at_open false false coef e f = omega arith

pub forced_holds : (full : ℕ → Bool) (values : List (Option Bool)) (c : AtLeast) (lit : Lit) → Forces values c lit → Completes full values → IsSatisfied full c → holds full lit ≡ true
forced_holds full values c lit forces completes satisfied = by (holds full lit) refl
  where
    by : (h : Bool) → holds full lit ≡ h → h ≡ true
    by true e = refl
    by false e =
        let place = forces.stands in
        let less = sum_by-less (λ (t : Term). cond (holds full t.lit) t.coef 0) (λ (t : Term). cond (is_false values t.lit) 0 t.coef) c.terms place.0 (record { coef = forces.coef; lit = lit }) forces.coef place.1 (term_share_le full values completes)
        (rw place.2 (at_open (holds full lit) (is_false values lit) forces.coef e (open_not_false _ _ forces.open_literal))) in
        absurd (omega (arith, less, forces.above_slack))

-- ---- clauses

or_sum : (h r : Bool) (n : ℕ) → (r ≡ true → 1 ≤ n) → (h || r) ≡ true → 1 ≤ cond h 1 0 + n
or_sum true r n e h = omega arith
or_sum false r n e h = omega (arith, e h)

or_any : (h r : Bool) (n : ℕ) → (1 ≤ n → r ≡ true) → 1 ≤ cond h 1 0 + n → (h || r) ≡ true
or_any true r n e h = refl
or_any false r n e h = e (omega arith)

pub clause_from_true : (full : ℕ → Bool) (lits : List Lit) → MakesTrue full lits → IsSatisfied full (clause lits)
clause_from_true full [] h = absurd (false≢true h)
clause_from_true full (lit ∷ lits) h =
    let cons = sum_by-cons (λ (t : Term). cond (holds full t.lit) t.coef 0) (record { coef = 1; lit = lit }) (clause lits).terms in
    rw cons (or_sum (holds full lit) (list_any (holds full) lits) (true_sum full (clause lits).terms) (clause_from_true full lits) h)

pub true_from_clause : (full : ℕ → Bool) (lits : List Lit) → IsSatisfied full (clause lits) → MakesTrue full lits
true_from_clause full [] h = absurd (omega arith)
true_from_clause full (lit ∷ lits) h =
    let cons = sum_by-cons (λ (t : Term). cond (holds full t.lit) t.coef 0) (record { coef = 1; lit = lit }) (clause lits).terms in
    or_any (holds full lit) (list_any (holds full) lits) (true_sum full (clause lits).terms) (true_from_clause full lits) (rw cons at h)

-- what follows from constraints and a clause that follows from them follows from them
pub Follows-through : (constraints : List AtLeast) (lits more : List Lit) → Follows constraints lits → Follows (constraints ++ clause lits ∷ []) more → Follows constraints more
Follows-through constraints lits more first second full satisfied =
    second full (All-push (IsSatisfied full) constraints (clause lits) satisfied (clause_from_true full lits (first full satisfied)))
