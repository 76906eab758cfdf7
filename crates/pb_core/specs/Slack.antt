-- Constraints under values that may leave variables open.
use Rattle.std.specs.Prelude.{ℕ, ◌+◌, ◌<◌, ℤ, pos, ◌-ℤ◌, Bool, IsTrue, List, Option, Contains, sum_by, fold, max, if◌then◌else◌}
use Rattle.pb_core.specs.AtLeast.{AtLeast}
use Rattle.pb_core.specs.Values.{is_false, is_open}
use Rattle.pb_core.specs.declared.literal.Lit.{Lit}
use Rattle.pb_core.specs.declared.literal.Term.{Term}

-- the sum of all coefficients
abbrev pub coef_sum : List Term → ℕ
coef_sum terms = sum_by (λ t. t.coef) terms

-- the greatest coefficient, or 0 where there is no term
abbrev pub greatest_coef : List Term → ℕ
greatest_coef terms = fold (λ m t. max m t.coef) 0 terms

-- the sum of the coefficients of the literals that aren't false: what the constraint can still reach
abbrev pub reachable : List (Option Bool) → List Term → ℕ
reachable values terms = sum_by (λ t. if is_false values t.lit then 0 else t.coef) terms

abbrev pub slack_of : List (Option Bool) → AtLeast → ℤ
slack_of values c = pos (reachable values c.terms) -ℤ pos c.degree

-- the slack is below 0
abbrev pub IsViolated : List (Option Bool) → AtLeast → Type 0
IsViolated values c = reachable values c.terms < c.degree

-- the literal is open, and a term of the constraint has it with a coefficient above the slack
pub record Forces (values : List (Option Bool)) (c : AtLeast) (lit : Lit) : Type 0 where
  pub coef : ℕ
  pub stands : Contains c.terms (record { coef = coef; lit = lit })
  pub open_literal : IsTrue (is_open values lit)
  pub above_slack : reachable values c.terms < c.degree + coef
