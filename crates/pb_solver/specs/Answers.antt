-- What an answer shows.
use Rattle.std.specs.Prelude.{◌≡◌, ℕ, ◌+◌, ◌<◌, ◌≤◌, Bool, List, Option, Some, None, Ok, length, map, replicate, sum_by, take, slice_index_or}
use Rattle.pb_core.specs.AtLeast.{at_least}
use Rattle.pb_core.specs.Fresh.{Fresh}
use Rattle.pb_core.specs.Propagates.{ReachesViolation}
use Rattle.pb_core.specs.Satisfied.{SatisfiesAll}
use Rattle.pb_core.specs.Values.{value_of}
use Rattle.pb_core.specs.declared.constraint.Constraint.{Constraint}
use Rattle.deriv_check.specs.Answers.{IsAnswer as IsCheckAnswer}
use Rattle.deriv_check.specs.Database.{database}
use Rattle.deriv_check.specs.Verdict.{CheckUpTo}
use Rattle.deriv_check.specs.declared.derivation.Line.{Line}
use Rattle.deriv_check.specs.declared.derivation.Verdict.TheVariants as verdict
use Rattle.pb_solver.specs.Values.{AreAssigned, truths}
use Rattle.pb_solver.specs.declared.answer.Answer.{Answer}
use Rattle.pb_solver.specs.declared.answer.Answer.TheVariants as answer

-- Every variable has a value, and all constraints are satisfied.
pub record IsModel (variables : ℕ) (constraints : List Constraint) (values : List (Option Bool)) : Type 0 where
  pub size : length values ≡ variables
  pub assigned : AreAssigned values
  pub satisfies : SatisfiesAll (truths values) (map at_least constraints)

-- The checker answers that the lines refute the problem; before the last there are at most as many as were allowed.
pub record IsRefutation (variables : ℕ) (constraints : List Constraint) (budget : ℕ) (lines : List Line) : Type 0 where
  pub refutes : IsCheckAnswer variables constraints lines (Ok verdict.Refutes)
  pub few : length lines ≤ budget + 1

-- As many lines as were allowed: each checks and was fresh when it came, and unit propagation from no assumption, over
-- the problem and the lines, comes to no violation.
pub record IsSpent (variables : ℕ) (constraints : List Constraint) (budget : ℕ) (lines : List Line) : Type 0 where
  pub all : length lines ≡ budget
  pub check : CheckUpTo variables constraints lines (length lines)
  pub fresh : (k : ℕ) (d : Line) → k < length lines → Fresh (slice_index_or lines k d).clause (database constraints (take k lines))
  pub quiet : ¬ (ReachesViolation (database constraints lines) (replicate variables None))

abbrev pub IsAnswer : ℕ → List Constraint → ℕ → Answer → Type 0
IsAnswer variables constraints budget (answer.Model values) = IsModel variables constraints values
IsAnswer variables constraints budget (answer.Refuted derivation) = IsRefutation variables constraints budget derivation.lines
IsAnswer variables constraints budget (answer.Spent derivation) = IsSpent variables constraints budget derivation.lines

-- the model that gives each variable the value that is wanted
abbrev pub IsWanted : (ℕ → Bool) → Answer → Type 0
IsWanted wish (answer.Model values) = (variable : ℕ) → 0 < variable → variable ≤ length values → value_of values variable ≡ Some (wish variable)
IsWanted wish (answer.Refuted derivation) = ⊥
IsWanted wish (answer.Spent derivation) = ⊥

-- how many terms a problem has
abbrev pub terms_of : List Constraint → ℕ
terms_of constraints = sum_by (λ c. length c.terms) constraints
