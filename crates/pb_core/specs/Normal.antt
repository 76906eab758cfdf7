use Rattle.std.specs.Prelude.{ℕ, ◌≤◌, ◌<◌, ◌^◌, List, map, All}
use Rattle.std.specs.List.Sorted.{IsStrictlyIncreasing}
use Rattle.pb_core.specs.AtLeast.{AtLeast}
use Rattle.pb_core.specs.Slack.{coef_sum}
use Rattle.pb_core.specs.declared.literal.Term.{Term}

-- each variable is one of those from 1 to a number
abbrev pub AreAmong : ℕ → List Term → Type 0
AreAmong variables terms = All (λ t. (0 < t.lit.variable) × (t.lit.variable ≤ variables)) terms

-- The normal form: variables rise, coefficients are from 1 to the degree, and all fits a slack.
pub record IsNormal (c : AtLeast) : Type 0 where
  pub rising : IsStrictlyIncreasing (map (λ t. t.lit.variable) c.terms)
  pub coefs : All (λ t. (0 < t.coef) × (t.coef ≤ c.degree)) c.terms
  pub some_degree : 0 < c.degree
  pub small_degree : c.degree ≤ 2 ^ 54
  pub small_sum : coef_sum c.terms ≤ 2 ^ 54

-- the same, over the variables from 1 to a number
pub record IsNormalOver (variables : ℕ) (c : AtLeast) : Type 0 where
  pub normal : IsNormal c
  pub among : AreAmong variables c.terms
