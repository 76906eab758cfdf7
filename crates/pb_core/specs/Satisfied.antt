-- Constraints under full assignments, which give each variable a truth.
use Rattle.std.specs.Prelude.{ℕ, ◌≤◌, Bool, IsTrue, List, All, sum_by, if◌then◌else◌}
use Rattle.std.specs.List.{list_any}
use Rattle.pb_core.specs.AtLeast.{AtLeast}
use Rattle.pb_core.specs.Literal.{holds}
use Rattle.pb_core.specs.declared.literal.Lit.{Lit}
use Rattle.pb_core.specs.declared.literal.Term.{Term}

-- the sum of the coefficients of the true literals
abbrev pub true_sum : (ℕ → Bool) → List Term → ℕ
true_sum full terms = sum_by (λ t. if holds full t.lit then t.coef else 0) terms

abbrev pub IsSatisfied : (ℕ → Bool) → AtLeast → Type 0
IsSatisfied full c = c.degree ≤ true_sum full c.terms

abbrev pub SatisfiesAll : (ℕ → Bool) → List AtLeast → Type 0
SatisfiesAll full constraints = All (IsSatisfied full) constraints

-- a literal of the clause is true
abbrev pub MakesTrue : (ℕ → Bool) → List Lit → Type 0
MakesTrue full lits = IsTrue (list_any (holds full) lits)

-- Every full assignment that satisfies the constraints makes a literal of the clause true.
abbrev pub Follows : List AtLeast → List Lit → Type 0
Follows constraints lits = (full : ℕ → Bool) → SatisfiesAll full constraints → MakesTrue full lits

-- No full assignment satisfies the constraints together.
abbrev pub IsUnsatisfiable : List AtLeast → Type 0
IsUnsatisfiable constraints = (full : ℕ → Bool) → ¬ (SatisfiesAll full constraints)
