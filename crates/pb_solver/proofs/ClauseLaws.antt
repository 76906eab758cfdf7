-- A learned clause at the levels that stay.
use Rattle.std.proofs.Common.{◌≡◌, ℕ, ◌-◌, ◌<◌, ◌≤◌, Bool, true, cond, List, [], ◌∷◌, length, get_or, map, Option, Contains, refl, sym, ap, ◌∙◌, arith}
use Rattle.std.proofs.lemmas.List.{get_or-map, length-map}
use Rattle.std.proofs.lemmas.List.Sums.{sum_by-cons, get_or-le-sum_by}
use Rattle.pb_core.specs.AtLeast.{clause}
use Rattle.pb_core.specs.Slack.{reachable}
use Rattle.pb_core.specs.Values.{value_of, is_false, is_open}
use Rattle.pb_core.specs.declared.literal.Lit.{Lit}
use Rattle.pb_core.specs.declared.literal.Term.{Term}
use Rattle.pb_core.proofs.ValueLaws.{open_not_false}
use Rattle.pb_trail.specs.Rest.{Rests}
use Rattle.pb_trail.specs.Trail.{IsTrail}
use Rattle.pb_trail.specs.declared.trail.Trail.{Trail}
use Rattle.pb_trail.proofs.AlongLaws.{Includes-open, before-Includes}
use Rattle.clause_learning.specs.Asserting.{IsAsserting, IsAssertingBy}
use Rattle.pb_solver.specs.Levels.{values_at}

abbrev term : Lit → Term
term lit = record { coef = 1; lit = lit }

abbrev share : List (Option Bool) → Term → ℕ
share values t = cond (is_false values t.lit) 0 t.coef

open_share : (values : List (Option Bool)) (lit : Lit) → is_open values lit ≡ true → share values (term lit) ≡ 1
open_share values lit e = rw (open_not_false (value_of values lit.variable) lit.positive e) refl

-- two open literals leave the clause nothing to force
reaches_two : (values : List (Option Bool)) (first : Lit) (others : List Lit) (j : ℕ) (d : Lit) → is_open values first ≡ true → j < length others → is_open values (get_or others j d) ≡ true → 2 ≤ reachable values (clause (first ∷ others)).terms
reaches_two values first others j d one within two =
    let head = sum_by-cons (share values) (term first) (map term others) in
    let some = get_or-le-sum_by (share values) (map term others) j (term d) (omega (arith, within, length-map others term)) in
    let at : share values (get_or (map term others) j (term d)) ≡ 1 = ap (share values) (get_or-map term others j d (term d) within) ∙ open_share values (get_or others j d) two in
    let here = open_share values first one in
    omega (arith, head, some, at, here)

coef_one : (lits : List Lit) (coef : ℕ) (lit : Lit) → Contains (map term lits) (record { coef = coef; lit = lit }) → coef ≡ 1
coef_one lits coef lit found =
    sym (ap (λ (t : Term). t.coef) found.2) ∙ ap (λ (t : Term). t.coef) (get_or-map term lits found.0 lit (record { coef = coef; lit = lit }) (omega (arith, found.1, length-map lits term)))

pub two_open_rest : (values : List (Option Bool)) (first : Lit) (others : List Lit) (j : ℕ) (d : Lit) → is_open values first ≡ true → j < length others → is_open values (get_or others j d) ≡ true → Rests values (clause (first ∷ others))
two_open_rest values first others j d one within two =
    let reach = reaches_two values first others j d one within two in (
      λ violated. absurd (omega (arith, reach, violated)),
      λ lit forces. absurd (omega (arith, reach, forces.above_slack, coef_one (first ∷ others) forces.coef lit forces.stands)),
    )

-- what is open before a place is open before an earlier one
open_earlier : (trail : Trail) → IsTrail trail → (s t : ℕ) → s ≤ t → t ≤ length trail.entries.items → (lit : Lit) → is_open (values_at trail t) lit ≡ true → is_open (values_at trail s) lit ≡ true
open_earlier trail good s t h within lit e =
    Includes-open (values_at trail s) (values_at trail t) lit (before-Includes trail.kept.constraints (length trail.kept.values) trail.entries.items good.are_steps s t h within) e

asserting_rests : (trail : Trail) (start floor : ℕ) (first : Lit) (others : List Lit) → IsTrail trail → start ≤ length trail.entries.items → IsAssertingBy trail start floor first others → (s : ℕ) → s < floor → Rests (values_at trail s) (clause (first ∷ others))
asserting_rests trail start floor first others good within by s h =
    let last = by.last_open (omega arith) in
    let low = by.below in
    two_open_rest (values_at trail s) first others last.0 first (open_earlier trail good s start (omega (arith, low, h)) within first by.first_open) last.1 (open_earlier trail good s (floor - 1) (omega arith) (omega (arith, low, within)) (get_or others last.0 first) (last.2 first))

-- the clause rests at each level below its floor
pub learned_rests : (trail : Trail) (start floor : ℕ) (lits : List Lit) → IsTrail trail → start ≤ length trail.entries.items → IsAsserting trail start floor lits → (s : ℕ) → s < floor → Rests (values_at trail s) (clause lits)
learned_rests trail start floor [] good within by s h = absurd by
learned_rests trail start floor (first ∷ others) good within by s h = asserting_rests trail start floor first others good within by s h
