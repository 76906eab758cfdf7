-- Selections of members, and what is known of a problem to select some.
use Rattle.std.specs.Prelude.{ℕ, ◌≤◌, Bool, IsTrue, List, length, map, All}
use Rattle.std.specs.List.{enumerate_from, filter}
use Rattle.ldap_filter.specs.EnvPairs.{EnvPair}
use Rattle.unit_model.specs.Applies.{filter_true}
use Rattle.unit_model.specs.Valid.{IsValid}
use Rattle.unit_model.specs.declared.name.UnitName.{UnitName}
use Rattle.unit_model.specs.declared.unit.Unit.{Unit as Package}
use Rattle.pb_core.specs.AtLeast.{at_least}
use Rattle.pb_core.specs.Normal.{IsNormalOver}
use Rattle.pb_core.specs.declared.constraint.Problem.{Problem}
use Rattle.pb_rows.specs.Members.{selected}
use Rattle.pb_rows.specs.Normalising.{HasMoreTerms}
use Rattle.pb_rows.specs.Rows.{rows}
use Rattle.pb_encode.specs.IsProblem.{IsProblem}
use Rattle.deriv_check.specs.declared.derivation.Evidence.{Evidence}
use Rattle.pb_solver.specs.Answers.{IsRefutation, IsSpent}

abbrev pub AllApply : List EnvPair → List Package → Type 0
AllApply env units = All (λ u. IsTrue (filter_true env u.filter)) units

-- those of the elements whose variables are true: the n-th has the variable n
abbrev pub picked : {X : Type 0} → (ℕ → Bool) → List X → List X
picked {X} full xs = map (λ (m : ℕ × X). m.1) (filter (λ (m : ℕ × X). full m.0) (enumerate_from 1 xs))

-- Some of the members are valid for the roots together.
abbrev pub SomeIsValid : List Package → List UnitName → List EnvPair → Type 0
SomeIsValid members roots env = (full : ℕ → Bool) × IsValid (selected full members) roots env

-- Whichever of the members are selected, they aren't valid for the roots.
abbrev pub NoneIsValid : List Package → List UnitName → List EnvPair → Type 0
NoneIsValid members roots env = (full : ℕ → Bool) → ¬ (IsValid (selected full members) roots env)

-- The problem to select members for the roots has over 4,000,000 terms.
abbrev pub IsTooLarge : List Package → List UnitName → List EnvPair → Type 0
IsTooLarge members roots env = HasMoreTerms 4000000 (rows members roots env)

-- The problem to select members for the roots, in the form that a checker of derivations asks for.
pub record IsAskedFor (members : List Package) (roots : List UnitName) (env : List EnvPair) (problem : Problem) : Type 0 where
  pub rows : IsProblem members roots env problem
  pub few : length problem.constraints ≤ 1000000000
  pub normal : All (λ c. IsNormalOver (length problem.labels) (at_least c)) problem.constraints

-- No selection of the members is valid for the roots, and the derivation refutes the problem to find one.
pub record IsRefuted (members : List Package) (roots : List UnitName) (env : List EnvPair) (budget : ℕ) (evidence : Evidence) : Type 0 where
  pub asked : IsAskedFor members roots env evidence.problem
  pub refutes : IsRefutation (length evidence.problem.labels) evidence.problem.constraints budget evidence.derivation.lines
  pub none : NoneIsValid members roots env

-- The derivation has the budget's lines over the problem to find a selection for the roots, each of which checks and was
-- fresh when it came, and plain propagation over the problem and them violates nothing.
pub record IsSpentFor (members : List Package) (roots : List UnitName) (env : List EnvPair) (budget : ℕ) (evidence : Evidence) : Type 0 where
  pub asked : IsAskedFor members roots env evidence.problem
  pub spent : IsSpent (length evidence.problem.labels) evidence.problem.constraints budget evidence.derivation.lines
