-- Constraints that rest, and go on to rest while no literal of theirs becomes false.
use Rattle.std.proofs.Common.{◌≡◌, ◌≢◌, ℕ, zero, suc, ◌+◌, ◌-◌, ◌<◌, ◌≤◌, Bool, true, false, not, cond, ltb, eqb, ◌&&◌, List, [], ◌∷◌, ◌++◌, length, get_or, Option, Some, All, AllPairs, refl, sym, ap, subst, ◌∙◌, ⊎_elim, arith}
use Rattle.std.proofs.lemmas.Bool.{cases_lt}
use Rattle.std.proofs.lemmas.Bool.Decides.{nat_tests}
use Rattle.std.proofs.lemmas.List.{get_or_default, get_or-append-add, length-append}
use Rattle.std.proofs.lemmas.List.Elements.{All-head, All-tail}
use Rattle.std.proofs.lemmas.List.Sums.{sum_by-cons}
use Rattle.pb_core.specs.AtLeast.{AtLeast}
use Rattle.pb_core.specs.Literal.{complement, same_literal, same_truth}
use Rattle.pb_core.specs.Occurrences.{coefficient, holds_literal, own_occurrence, occurrences_from}
use Rattle.pb_core.specs.Slack.{reachable}
use Rattle.pb_core.specs.Values.{make_true, is_open}
use Rattle.pb_core.specs.declared.literal.Lit.{Lit}
use Rattle.pb_core.specs.declared.literal.Term.{Term}
use Rattle.pb_core.specs.declared.occurrences.Occurrence.{Occurrence}
use Rattle.pb_core.proofs.KeptChanges.{open_none}
use Rattle.pb_core.proofs.KeptLaws.{reachable_change}
use Rattle.pb_core.proofs.ValueLaws.{value_of-set_here, value_of-set_elsewhere, Includes-grown}
use Rattle.pb_trail.specs.Along.{values_along, values_before}
use Rattle.pb_trail.specs.Growth.{Extends}
use Rattle.pb_trail.specs.Rest.{Rests, IsUntouched, AreTermsQuiet}
use Rattle.pb_trail.specs.Trail.{AreSteps, IsTrail}
use Rattle.pb_trail.specs.declared.trail.Entry.{Entry}
use Rattle.pb_trail.specs.declared.trail.Trail.{Trail}
use Rattle.pb_trail.proofs.AlongLaws.{no_entry, along-more, before_all, Includes-open}

-- ---- a literal that the constraint doesn't have the complement of

none_held : (lit : Lit) (c : AtLeast) → holds_literal lit c ≡ false → coefficient lit c.terms ≡ 0
none_held lit c e = grind (arith, nat_tests)

pub reachable_same : (values : List (Option Bool)) (lit : Lit) (terms : List Term) → is_open values lit ≡ true → 0 < lit.variable → lit.variable ≤ length values → coefficient (complement lit) terms ≡ 0 → reachable (make_true values lit) terms ≡ reachable values terms
reachable_same values lit terms unset some most none =
    let change = reachable_change values (make_true values lit) lit (open_none _ unset) (value_of-set_here values lit.variable (Some lit.positive) some most) (λ u apart. value_of-set_elsewhere values lit.variable u (Some lit.positive) apart) terms in
    omega arith

pub rest_stays : (values : List (Option Bool)) (lit : Lit) (c : AtLeast) → is_open values lit ≡ true → 0 < lit.variable → lit.variable ≤ length values → holds_literal (complement lit) c ≡ false → Rests values c → Rests (make_true values lit) c
rest_stays values lit c unset some most quiet rests = (
  λ violated. rests.0 (omega (arith, same, violated)),
  λ l forces. rests.1 l (record {
    coef = forces.coef;
    stands = forces.stands;
    open_literal = Includes-open values (make_true values lit) l (Includes-grown values lit unset) forces.open_literal;
    above_slack = omega (arith, same, forces.above_slack);
  }),
)
  where
    same : reachable (make_true values lit) c.terms ≡ reachable values c.terms
    same = reachable_same values lit c.terms unset some most (none_held (complement lit) c quiet)

rests_by : (cs : List AtLeast) (n : ℕ) (es : List Entry) → AreSteps cs n es → (c : AtLeast) (i : ℕ) → IsUntouched es i c → Rests (values_before n es i) c → (gap : ℕ) → i + gap ≤ length es → Rests (values_before n es (i + gap)) c
rests_by cs n es are c i quiet rests zero h =
    let none : i + 0 ≡ i = omega arith in
    let same : values_before n es (i + 0) ≡ values_before n es i = ap (values_before n es) none in
    subst (λ (vs : List (Option Bool)). Rests vs c) (sym same) rests
rests_by cs n es are c i quiet rests (suc gap) h =
    let within : i + gap < length es = omega arith in
    let step = are (i + gap) no_entry within in
    let next : i + suc gap ≡ i + gap + 1 = omega arith in
    let now : values_before n es (i + suc gap) ≡ make_true (values_before n es (i + gap)) (get_or es (i + gap) no_entry).lit = ap (values_before n es) next ∙ along-more n es (i + gap) no_entry within in
    subst (λ (vs : List (Option Bool)). Rests vs c) (sym now)
    (rest_stays (values_before n es (i + gap)) (get_or es (i + gap) no_entry).lit c step.was_open step.from_one step.within (quiet (i + gap) no_entry (omega arith) within) (rests_by cs n es are c i quiet rests gap (omega arith)))

-- what rests under the values before a place rests under all of them, where no entry from there on touched it
pub rests_along : (cs : List AtLeast) (n : ℕ) (es : List Entry) → AreSteps cs n es → (c : AtLeast) (i : ℕ) → i ≤ length es → IsUntouched es i c → Rests (values_before n es i) c → Rests (values_along n es) c
rests_along cs n es are c i h quiet rests =
    let back : i + (length es - i) ≡ length es = omega arith in
    let same : values_before n es (i + (length es - i)) ≡ values_along n es = ap (values_before n es) back ∙ before_all n es in
    subst (λ (vs : List (Option Bool)). Rests vs c) same (rests_by cs n es are c i quiet rests (length es - i) (omega arith))

-- the values of a trail are those that a longer one had
pub values_earlier : (before after : Trail) → IsTrail before → Extends before after → before.kept.values ≡ values_before (length after.kept.values) after.entries.items (length before.entries.items)
values_earlier before after good extends =
    good.along ∙ (ap (λ (m : ℕ). values_along m before.entries.items) (sym extends.variables) ∙ ap (values_along (length after.kept.values)) (sym extends.same))

pub rests_grown : (before after : Trail) (c : AtLeast) → IsTrail before → IsTrail after → Extends before after → IsUntouched after.entries.items (length before.entries.items) c → Rests before.kept.values c → Rests after.kept.values c
rests_grown before after c good longer extends quiet rests =
    subst (λ (vs : List (Option Bool)). Rests vs c) (sym longer.along)
    (rests_along after.kept.constraints (length after.kept.values) after.entries.items longer.are_steps c (length before.entries.items) extends.longer quiet
    (subst (λ (vs : List (Option Bool)). Rests vs c) (values_earlier before after good extends) rests))

-- ---- the terms of one constraint

pub coefficient_none : (lit : Lit) (terms : List Term) → All (λ t. same_literal t.lit lit ≡ false) terms → coefficient lit terms ≡ 0
coefficient_none lit [] none = refl
coefficient_none lit (t ∷ terms) none =
    let here : same_literal t.lit lit ≡ false = All-head (λ (u : Term). same_literal u.lit lit ≡ false) t terms none in
    let rest = coefficient_none lit terms (All-tail (λ (u : Term). same_literal u.lit lit ≡ false) t terms none) in
    sum_by-cons (λ (u : Term). cond (same_literal u.lit lit) u.coef 0) t terms ∙ rw (here, rest) refl

opposite : (b : Bool) → same_truth b (not b) ≡ false
opposite true = refl
opposite false = refl

and_false : (b : Bool) → (b && false) ≡ false
and_false true = refl
and_false false = refl

not_complement : (lit : Lit) → same_literal lit (complement lit) ≡ false
not_complement lit = rw (opposite lit.positive) (and_false (eqb lit.variable lit.variable))

other_literal : (a b : Lit) → a.variable ≢ b.variable → same_literal a (complement b) ≡ false
other_literal a b apart =
    let test : eqb a.variable b.variable ≡ false = grind (arith, nat_tests) in
    rw test refl

-- a constraint doesn't have the complement of its own literal
pub own_complement : (terms : List Term) (i : ℕ) (d : Term) → AllPairs (λ t u. t.lit.variable ≢ u.lit.variable) terms → i < length terms → coefficient (complement (get_or terms i d).lit) terms ≡ 0
own_complement terms i d distinct within = coefficient_none (complement (get_or terms i d).lit) terms each
  where
    each : All (λ t. same_literal t.lit (complement (get_or terms i d).lit) ≡ false) terms
    each k e h = ⊎_elim below (λ ge. ⊎_elim above same (cases_lt i k)) (cases_lt k i)
      where
        at : get_or terms i d ≡ get_or terms i e
        at = get_or_default terms i d e within

        below : k < i → same_literal (get_or terms k e).lit (complement (get_or terms i d).lit) ≡ false
        below lt = rw at (other_literal (get_or terms k e).lit (get_or terms i e).lit (distinct k i e lt within))

        above : i < k → same_literal (get_or terms k e).lit (complement (get_or terms i d).lit) ≡ false
        above lt = rw at (other_literal (get_or terms k e).lit (get_or terms i e).lit (λ s. distinct i k e lt h (sym s)))

        same : k ≤ i → same_literal (get_or terms k e).lit (complement (get_or terms i d).lit) ≡ false
        same le = ⊎_elim below (λ ge. let here : k ≡ i = omega arith in rw (at, here) (not_complement (get_or terms i e).lit)) (cases_lt k i)

-- where no term is open with a coefficient above the room, the constraint rests
pub rests_quiet : (values : List (Option Bool)) (c : AtLeast) (room : ℕ) → room + c.degree ≡ reachable values c.terms → AreTermsQuiet values c.terms room (length c.terms) → Rests values c
rests_quiet values c room is quiet = (
  λ violated. absurd (omega (arith, is, violated)),
  λ lit forces. let place = forces.stands in let here = place.2 in let bound = quiet place.0 (record { coef = forces.coef; lit = lit }) place.1 place.1 (rw here forces.open_literal) in let coef : forces.coef ≤ room = rw here at bound in absurd (omega (arith, is, coef, forces.above_slack)),
)

-- ---- where a literal occurs

own_first : (number : ℕ) (lit : Lit) (terms : List Term) → ltb 0 (coefficient lit terms) ≡ true → own_occurrence number lit terms ≡ record { number = number; coef = coefficient lit terms } ∷ []
own_first number lit terms e = rw e refl

-- the occurrences from a number on have that of a constraint that holds the literal
pub record OccursIn (occurrences : List Occurrence) (number : ℕ) : Type 0 where
  pub place : ℕ
  pub within : place < length occurrences
  pub is : (d : Occurrence) → (get_or occurrences place d).number ≡ number

occurs_first : (occurrences : List Occurrence) (o : Occurrence) (rest : List Occurrence) (number : ℕ) → occurrences ≡ o ∷ [] → o.number ≡ number → OccursIn (occurrences ++ rest) number
occurs_first occurrences o rest number e f = rw e (record { place = 0; within = omega arith; is = λ d. f })

occurs_later : (own rest : List Occurrence) (number : ℕ) → OccursIn rest number → OccursIn (own ++ rest) number
occurs_later own rest number found = record {
  place = length own + found.place;
  within = rw (length-append own rest) (omega (arith, found.within));
  is = λ d. ap (λ (o : Occurrence). o.number) (get_or-append-add own rest found.place d) ∙ found.is d;
}

pub occurs : (number : ℕ) (lit : Lit) (cs : List AtLeast) (k : ℕ) (d : AtLeast) → k < length cs → holds_literal lit (get_or cs k d) ≡ true → OccursIn (occurrences_from number lit cs) (number + k)
occurs number lit [] k d within e = absurd (omega arith)
occurs number lit (c ∷ cs) zero d within e =
    occurs_first (own_occurrence number lit c.terms) (record { number = number; coef = coefficient lit c.terms }) (occurrences_from (number + 1) lit cs) (number + 0) (own_first number lit c.terms e) (omega arith)
occurs number lit (c ∷ cs) (suc k) d within e =
    let same : number + 1 + k ≡ number + suc k = omega arith in
    occurs_later (own_occurrence number lit c.terms) (occurrences_from (number + 1) lit cs) (number + suc k) (subst (λ (m : ℕ). OccursIn (occurrences_from (number + 1) lit cs) m) same (occurs (number + 1) lit cs k d (omega arith) e))
