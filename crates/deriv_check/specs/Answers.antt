use Rattle.std.specs.Prelude.{ℕ, ◌-◌, ◌<◌, ◌≤◌, List, length, take, Result, Ok, Err, ⊤, slice_index_or}
use Rattle.pb_core.specs.declared.constraint.Constraint.{Constraint}
use Rattle.deriv_check.specs.Database.{database}
use Rattle.deriv_check.specs.LineRule.{Fails}
use Rattle.deriv_check.specs.Verdict.{CheckUpTo, EndsEmpty}
use Rattle.deriv_check.specs.declared.derivation.CheckFault.{CheckFault}
use Rattle.deriv_check.specs.declared.derivation.CheckFault.TheVariants as fault
use Rattle.deriv_check.specs.declared.derivation.Line.{Line}
use Rattle.deriv_check.specs.declared.derivation.Verdict.{Verdict}
use Rattle.deriv_check.specs.declared.derivation.Verdict.TheVariants as verdict
use Rattle.deriv_check.specs.declared.derivation.Why.{Why}

-- the lines before this one check, and it fails for this reason
pub record IsFirstBad (variables : ℕ) (constraints : List Constraint) (lines : List Line) (line : ℕ) (why : Why) : Type 0 where
  pub from_one : 0 < line
  pub within : line ≤ length lines
  pub before : CheckUpTo variables constraints lines (line - 1)
  pub fails : (d : Line) → Fails variables (database constraints (take (line - 1) lines)) (slice_index_or lines (line - 1) d) why

-- What is answered for a derivation. Want of memory has no cause.
abbrev pub IsAnswer : ℕ → List Constraint → List Line → Result Verdict CheckFault → Type 0
IsAnswer variables constraints lines (Ok verdict.Refutes) = CheckUpTo variables constraints lines (length lines) × EndsEmpty lines
IsAnswer variables constraints lines (Ok verdict.Follows) = CheckUpTo variables constraints lines (length lines) × ¬ (EndsEmpty lines)
IsAnswer variables constraints lines (Err (fault.Bad line why)) = IsFirstBad variables constraints lines line why
IsAnswer variables constraints lines (Err fault.NoMemory) = ⊤
