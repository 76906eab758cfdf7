use Rattle.std.specs.Prelude.{ℕ, ◌<◌, List, length, map, slice_index_or}
use Rattle.pb_core.specs.AtLeast.{at_least}
use Rattle.pb_core.specs.Satisfied.{Follows, IsUnsatisfiable}
use Rattle.pb_core.specs.declared.constraint.Constraint.{Constraint}
use Rattle.deriv_check.specs.Verdict.{CheckUpTo, EndsEmpty}
use Rattle.deriv_check.specs.declared.derivation.Line.{Line}

-- each line's clause follows from the problem
abbrev pub AllFollow : List Constraint → List Line → Type 0
AllFollow constraints lines = (k : ℕ) (d : Line) → k < length lines → Follows (map at_least constraints) (slice_index_or lines k d).clause

-- what lines that check show
abbrev pub AreSound : ℕ → List Constraint → List Line → Type 0
AreSound variables constraints lines =
    CheckUpTo variables constraints lines (length lines) → AllFollow constraints lines × (EndsEmpty lines → IsUnsatisfiable (map at_least constraints))
