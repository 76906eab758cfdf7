-- What one constraint forces, and what is taken back.
use Rattle.std.proofs.Common.{◌≡◌, ℕ, ◌+◌, ◌-◌, ◌<◌, ◌≤◌, Bool, true, List, [], ◌∷◌, ◌++◌, length, get_or, take, map, replicate, count_by, Option, Some, None, IsSome, is_none, All, vec_capacity, refl, sym, ap, subst, ◌∙◌, ⊎_elim, arith}
use Rattle.std.proofs.lemmas.Bool.{false≢true, cases_lt}
use Rattle.std.proofs.lemmas.List.{take_all, take-append-le, get_or_default, length-replicate, length-map, length_push}
use Rattle.std.proofs.lemmas.List.Elements.{All-map}
use Rattle.pb_core.specs.AtLeast.{AtLeast, at_least}
use Rattle.pb_core.specs.ConstraintAt.{constraint_at}
use Rattle.pb_core.specs.KeptView.{IsKeepable}
use Rattle.pb_core.specs.Literal.{complement}
use Rattle.pb_core.specs.Normal.{IsNormalOver}
use Rattle.pb_core.specs.Occurrences.{coefficient, holds_literal}
use Rattle.pb_core.specs.Slack.{reachable}
use Rattle.pb_core.specs.Values.{value_of, set_value, make_true, is_open}
use Rattle.pb_core.specs.declared.constraint.Constraint.{Constraint}
use Rattle.pb_core.specs.declared.literal.Term.{Term}
use Rattle.pb_core.proofs.KeptChanges.{keepable_normal}
use Rattle.pb_core.proofs.ValueLaws.{value_of-set_here, Includes-grown}
use Rattle.pb_trail.specs.Along.{values_along, values_before, weight}
use Rattle.pb_trail.specs.Rest.{AreTermsQuiet}
use Rattle.pb_trail.specs.Trail.{IsStep, IsTrail}
use Rattle.pb_trail.specs.declared.trail.Entry.{Entry}
use Rattle.pb_trail.specs.declared.trail.Trail.{Trail}
use Rattle.pb_trail.proofs.AlongLaws.{along-none, Includes-open, length-along, weight-push}
use Rattle.pb_trail.proofs.RestLaws.{reachable_same, own_complement}
use Rattle.pb_trail.proofs.TrailLaws.{IsTrail-cut, last_values, cleared}

-- ---- the first trail

pub IsTrail-begins : (trail : Trail) (n : ℕ) (constraints : List Constraint) → n ≤ 1000000000 → length constraints ≤ 1000000000 → All (λ c. IsNormalOver n (at_least c)) constraints → trail.kept.constraints ≡ map at_least constraints → trail.kept.values ≡ replicate n None → trail.entries.items ≡ [] → n < vec_capacity trail.entries → IsTrail trail
IsTrail-begins trail n constraints few_labels few normal cs values items capacity = record {
  along = values ∙ (sym (along-none n) ∙ (ap (values_along n) (sym items) ∙ ap (λ (m : ℕ). values_along m trail.entries.items) (sym size)));
  are_steps = λ k d h. absurd (omega (arith, ap length items, h));
  keepable = subst (λ (m : ℕ). All (IsKeepable m) trail.kept.constraints) (sym size) (subst (λ (x : List AtLeast). All (IsKeepable n) x) (sym cs) (All-map (IsKeepable n) at_least constraints (λ k d h. keepable_normal n (at_least (get_or constraints k d)) (normal k d h))));
  few_variables = omega (arith, size, few_labels);
  few = omega (arith, ap length cs, length-map constraints at_least, few);
  room = omega (arith, size, capacity);
}
  where
    size : length trail.kept.values ≡ n
    size = ap length values ∙ length-replicate {A = Option Bool} n None

-- ---- the last entry taken back

pub popped_good : (before after : Trail) (rest : List Entry) (e : Entry) → IsTrail before → before.entries.items ≡ rest ++ e ∷ [] → after.kept.constraints ≡ before.kept.constraints → after.kept.values ≡ set_value before.kept.values e.lit.variable None → after.entries.items ≡ rest → vec_capacity after.entries ≡ vec_capacity before.entries → IsTrail after
popped_good before after rest e good items constraints values left capacity =
    IsTrail-cut before after (length rest) good (omega (arith, size)) constraints now (left ∙ sym front) capacity
  where
    size : length before.entries.items ≡ length rest + 1
    size = ap length items ∙ length_push rest e

    front : take (length rest) before.entries.items ≡ rest
    front = ap (take (length rest)) items ∙ (take-append-le (length rest) rest (e ∷ []) (omega arith) ∙ take_all (length rest) rest (omega arith))

    last : (before.kept.values ≡ make_true (values_along (length before.kept.values) rest) e.lit) × IsStep before.kept.constraints (values_along (length before.kept.values) rest) e
    last = last_values before rest e good items

    now : after.kept.values ≡ values_before (length before.kept.values) before.entries.items (length rest)
    now = values ∙ (ap (λ (vs : List (Option Bool)). set_value vs e.lit.variable None) last.0 ∙ (cleared (values_along (length before.kept.values) rest) e.lit last.1.was_open ∙ ap (values_along (length before.kept.values)) (sym front)))

pub popped_value : (before : Trail) (rest : List Entry) (e : Entry) → IsTrail before → before.entries.items ≡ rest ++ e ∷ [] → value_of before.kept.values e.lit.variable ≡ Some e.lit.positive
popped_value before rest e good items =
    let last = last_values before rest e good items in
    ap (λ (vs : List (Option Bool)). value_of vs e.lit.variable) last.0 ∙ value_of-set_here (values_along (length before.kept.values) rest) e.lit.variable (Some e.lit.positive) last.1.from_one last.1.within

pub popped_among : (before : Trail) (rest : List Entry) (e : Entry) → IsTrail before → before.entries.items ≡ rest ++ e ∷ [] → (0 < e.lit.variable) × (e.lit.variable ≤ length before.kept.values)
popped_among before rest e good items =
    let last = last_values before rest e good items in
    (last.1.from_one, omega (arith, last.1.within, length-along (length before.kept.values) rest))

pub popped_steps : (cs : List AtLeast) (items rest : List Entry) (e : Entry) (first last : ℕ) → items ≡ rest ++ e ∷ [] → last ≡ first + count_by (holds_literal (complement e.lit)) cs → last + weight cs rest ≡ first + weight cs items
popped_steps cs items rest e first last is steps =
    let more = ap (weight cs) is ∙ weight-push cs rest e in
    omega (arith, more, steps)

pub some_from : (o : Option Bool) (b : Bool) → o ≡ Some b → IsSome o
some_from None b e = cc
some_from (Some x) b e = refl

-- ---- one term

pub forced_step : (trail : Trail) (number place room : ℕ) (t : Term) → IsTrail trail → 0 < number → number ≤ length trail.kept.constraints → place < length (constraint_at trail.kept.constraints number).terms → get_or (constraint_at trail.kept.constraints number).terms place t ≡ t → room + (constraint_at trail.kept.constraints number).degree ≡ reachable trail.kept.values (constraint_at trail.kept.constraints number).terms → room < t.coef → is_open trail.kept.values t.lit ≡ true → IsStep trail.kept.constraints trail.kept.values (record { lit = t.lit; reason = number })
forced_step trail number place room t good some most within is reach above unset = record {
  from_one = among.0;
  within = among.1;
  was_open = unset;
  forced = λ h. (most, record { coef = t.coef; stands = (place, within, is); open_literal = unset; above_slack = omega (arith, reach, above) });
}
  where
    keepable : IsKeepable (length trail.kept.values) (constraint_at trail.kept.constraints number)
    keepable = good.keepable (number - 1) (record { terms = []; degree = 0 }) (omega arith)

    among : (0 < t.lit.variable) × (t.lit.variable ≤ length trail.kept.values)
    among = subst (λ (u : Term). (0 < u.lit.variable) × (u.lit.variable ≤ length trail.kept.values)) is (keepable.among place t within)

pub forced_reach : (trail : Trail) (number place : ℕ) (t : Term) → IsTrail trail → 0 < number → number ≤ length trail.kept.constraints → place < length (constraint_at trail.kept.constraints number).terms → get_or (constraint_at trail.kept.constraints number).terms place t ≡ t → is_open trail.kept.values t.lit ≡ true → reachable (make_true trail.kept.values t.lit) (constraint_at trail.kept.constraints number).terms ≡ reachable trail.kept.values (constraint_at trail.kept.constraints number).terms
forced_reach trail number place t good some most within is unset =
    let keepable = good.keepable (number - 1) (record { terms = []; degree = 0 }) (omega arith) in
    let among = subst (λ (u : Term). (0 < u.lit.variable) × (u.lit.variable ≤ length trail.kept.values)) is (keepable.among place t within) in
    let none = subst (λ (u : Term). coefficient (complement u.lit) (constraint_at trail.kept.constraints number).terms ≡ 0) is (own_complement (constraint_at trail.kept.constraints number).terms place t keepable.distinct within) in
    reachable_same trail.kept.values t.lit (constraint_at trail.kept.constraints number).terms unset among.0 among.1 none

some_not_open : (o : Option Bool) (b : Bool) → o ≡ Some b → is_none o ≡ true → ⊥
some_not_open o b e f = false≢true (rw e at f)

pub quiet_more : (values : List (Option Bool)) (terms : List Term) (room place : ℕ) (t : Term) → place < length terms → get_or terms place t ≡ t → (is_open values t.lit ≡ true → t.coef ≤ room) → AreTermsQuiet values terms room place → AreTermsQuiet values terms room (place + 1)
quiet_more values terms room place t within is here before k d below h unset =
    ⊎_elim (λ lt. before k d lt h unset) (λ ge. let at : k ≡ place = omega arith in let same : get_or terms k d ≡ t = ap (λ (j : ℕ). get_or terms j d) at ∙ (get_or_default terms place d t within ∙ is) in subst (λ (u : Term). u.coef ≤ room) (sym same) (here (subst (λ (u : Term). is_open values u.lit ≡ true) same unset))) (cases_lt k place)

pub quiet_forced : (values : List (Option Bool)) (terms : List Term) (room place : ℕ) (t : Term) → place < length terms → get_or terms place t ≡ t → is_open values t.lit ≡ true → 0 < t.lit.variable → t.lit.variable ≤ length values → AreTermsQuiet values terms room place → AreTermsQuiet (make_true values t.lit) terms room (place + 1)
quiet_forced values terms room place t within is unset some most before =
    quiet_more (make_true values t.lit) terms room place t within is (λ e. absurd (some_not_open _ _ (value_of-set_here values t.lit.variable (Some t.lit.positive) some most) e)) (λ k d lt h e. before k d lt h (Includes-open values (make_true values t.lit) (get_or terms k d).lit (Includes-grown values t.lit unset) e))
