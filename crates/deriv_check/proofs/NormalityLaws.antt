-- Facts on normal constraints.
use Rattle.std.proofs.Common.{◌≡◌, ℕ, ◌+◌, ◌-◌, ◌<◌, ◌≤◌, ◌^◌, nat_lt, arith, Bool, true, false, List, length, map, get_or, take, refl, ap, ◌∙◌, All}
use Rattle.std.specs.List.Sorted.{IsStrictlyIncreasing}
use Rattle.std.proofs.lemmas.Bool.Decides.{nat_tests}
use Rattle.std.proofs.lemmas.List.{get_or_default, get_or-map, length-map}
use Rattle.std.proofs.lemmas.List.Elements.{All-weaker}
use Rattle.std.proofs.lemmas.List.Sums.{sum_by_more, sum_by-take-le}
use Rattle.pb_core.specs.Normal.{IsNormalOver}
use Rattle.pb_core.specs.Slack.{coef_sum}
use Rattle.pb_core.specs.declared.literal.Term.{Term}
use Rattle.deriv_check.specs.Terms.{IsTermOver, constraint_of}

-- variables rise up to a place
abbrev pub IsRisingTo : List Term → ℕ → Type 0
IsRisingTo terms place = (k : ℕ) (d : Term) → k + 1 < place → (get_or terms k d).lit.variable < (get_or terms (k + 1) d).lit.variable

pub rising_more : (terms : List Term) (place : ℕ) (d : Term) → 1 ≤ place → place < length terms → IsRisingTo terms place
    → (get_or terms (place - 1) d).lit.variable < (get_or terms place d).lit.variable → IsRisingTo terms (place + 1)
rising_more terms place d from within below step k e h = by (nat_lt (k + 1) place) refl
  where
    by : (t : Bool) → nat_lt (k + 1) place ≡ t → (get_or terms k e).lit.variable < (get_or terms (k + 1) e).lit.variable
    by true f = below k e (grind (arith, nat_tests))
    by false f =
        let here : k + 1 ≡ place = grind (arith, nat_tests) in
        let before : k ≡ place - 1 = omega (arith, here) in
        let a : (get_or terms k e).lit.variable ≡ (get_or terms (place - 1) d).lit.variable =
        ap (λ (t : Term). t.lit.variable) (get_or_default terms k e d (omega (arith, here)) ∙ ap (λ n. get_or terms n d) before) in
        let b : (get_or terms (k + 1) e).lit.variable ≡ (get_or terms place d).lit.variable =
        ap (λ (t : Term). t.lit.variable) (get_or_default terms (k + 1) e d (omega (arith, here)) ∙ ap (λ n. get_or terms n d) here) in
        omega (arith, a, b, step)

pub rising_all : (terms : List Term) (place : ℕ) → length terms ≤ place → IsRisingTo terms place → IsStrictlyIncreasing (map (λ t. t.lit.variable) terms)
rising_all terms place end rising k h =
    let variable = λ (t : Term). t.lit.variable in
    let d : Term = record { coef = 0; lit = record { variable = 0; positive = true } } in
    let a : get_or (map variable terms) k 0 ≡ (get_or terms k d).lit.variable = get_or-map variable terms k d 0 (omega (arith, h, length-map terms variable)) in
    let b : get_or (map variable terms) (k + 1) 0 ≡ (get_or terms (k + 1) d).lit.variable = get_or-map variable terms (k + 1) d 0 (omega (arith, h, length-map terms variable)) in
    let step = rising k d (omega (arith, h, length-map terms variable, end)) in
    omega (arith, a, b, step)

pub not_rising : (terms : List Term) (place : ℕ) (d : Term) → 1 ≤ place → place < length terms → (get_or terms place d).lit.variable ≤ (get_or terms (place - 1) d).lit.variable
    → IsStrictlyIncreasing (map (λ t. t.lit.variable) terms) → ⊥
not_rising terms place d from within falls rising =
    let variable = λ (t : Term). t.lit.variable in
    let n = length-map terms variable in
    let next : place - 1 + 1 ≡ place = omega arith in
    let a : get_or (map variable terms) (place - 1) 0 ≡ (get_or terms (place - 1) d).lit.variable = get_or-map variable terms (place - 1) d 0 (omega arith) in
    let b : get_or (map variable terms) (place - 1 + 1) 0 ≡ (get_or terms place d).lit.variable = ap (λ k. get_or (map variable terms) k 0) next ∙ get_or-map variable terms place d 0 within in
    let step = rising (place - 1) (omega (arith, n)) in
    omega (arith, a, b, step, falls)

-- a coefficient for which nothing is left
pub sum_above : (terms : List Term) (place left : ℕ) (d : Term) → place < length terms → coef_sum (take place terms) + left ≡ 2 ^ 54
    → left < (get_or terms place d).coef → coef_sum terms ≤ 2 ^ 54 → ⊥
sum_above terms place left d h sum above small =
    let more = sum_by_more (λ (s : Term). s.coef) terms place d h in
    let part = sum_by-take-le (λ (s : Term). s.coef) terms (place + 1) in
    omega (arith, more, part, sum, above, small)

pub normal_over : (terms : List Term) (degree variables : ℕ) → 0 < degree → degree ≤ 2 ^ 54 → IsStrictlyIncreasing (map (λ t. t.lit.variable) terms)
    → All (IsTermOver variables degree) terms → coef_sum terms ≤ 2 ^ 54 → IsNormalOver variables (constraint_of terms degree)
normal_over terms degree variables some small rising over sum = record {
  normal = record {
    rising = rising;
    coefs = All-weaker (IsTermOver variables degree) (λ (t : Term). (0 < t.coef) × (t.coef ≤ degree)) (λ t h. (h.some_coef, h.small_coef)) terms over;
    some_degree = some;
    small_degree = small;
    small_sum = sum;
  };
  among = All-weaker (IsTermOver variables degree) (λ (t : Term). (0 < t.lit.variable) × (t.lit.variable ≤ variables)) (λ t h. (h.from_one, h.within)) terms over;
}

pub over_normal : (terms : List Term) (degree variables : ℕ) → IsNormalOver variables (constraint_of terms degree) → All (IsTermOver variables degree) terms
over_normal terms degree variables h k d lt =
    let coef = h.normal.coefs k d lt in
    let among = h.among k d lt in
    record { some_coef = coef.0; small_coef = coef.1; from_one = among.0; within = among.1 }
