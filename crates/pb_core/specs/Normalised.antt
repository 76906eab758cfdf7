use Rattle.std.specs.Prelude.{◌≡◌, ℕ, ◌≤◌, ◌<◌, ◌^◌, ℤ, pos, ◌+ℤ◌, neg_ℤ, ◌≤ℤ◌, Bool, List, map, fold, min, All, if◌then◌else◌}
use Rattle.std.specs.List.Sorted.{IsStrictlyIncreasing}
use Rattle.pb_core.specs.AtLeast.{AtLeast}
use Rattle.pb_core.specs.Literal.{holds}
use Rattle.pb_core.specs.Satisfied.{true_sum}
use Rattle.pb_core.specs.declared.literal.SignedTerm.{SignedTerm}
use Rattle.pb_core.specs.declared.literal.Term.{Term}

-- what a term adds under a full assignment
abbrev pub signed_share : (ℕ → Bool) → SignedTerm → ℤ
signed_share full t = if holds full t.lit then t.coef else pos 0

-- the sum of the coefficients of the true literals
abbrev pub signed_sum : (ℕ → Bool) → List SignedTerm → ℤ
signed_sum full terms = fold ◌+ℤ◌ (pos 0) (map (signed_share full) terms)

abbrev pub IsSatisfiedSigned : (ℕ → Bool) → List SignedTerm → ℤ → Type 0
IsSatisfiedSigned full terms degree = degree ≤ℤ signed_sum full terms

-- between -2^40 and 2^40
abbrev pub IsModerate : ℤ → Type 0
IsModerate z = (neg_ℤ (pos (2 ^ 40)) ≤ℤ z) × (z ≤ℤ pos (2 ^ 40))

-- no coefficient above the degree
abbrev pub clipped : ℕ → List Term → List Term
clipped degree terms = map (λ t. record { coef = min t.coef degree; lit = t.lit }) terms

-- The constraint says the same of each full assignment: one term for each variable, with a coefficient above 0,
-- exceeds the degree by as much as the signed terms do. Then coefficients above the degree become the degree.
pub record IsNormalised (terms : List SignedTerm) (degree : ℤ) (c : AtLeast) : Type 0 where
  pub joined : List Term
  pub rising : IsStrictlyIncreasing (map (λ t. t.lit.variable) joined)
  pub above_none : All (λ t. 0 < t.coef) joined
  pub same_margin : (full : ℕ → Bool) → pos (true_sum full joined) +ℤ degree ≡ pos c.degree +ℤ signed_sum full terms
  pub clips : c.terms ≡ clipped c.degree joined

-- each variable is one of those from 1 to a number
abbrev pub AreSignedAmong : ℕ → List SignedTerm → Type 0
AreSignedAmong variables terms = All (λ t. (0 < t.lit.variable) × (t.lit.variable ≤ variables)) terms
