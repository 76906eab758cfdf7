use Rattle.std.specs.Prelude.{◌≡◌, ℕ, ◌-◌, ◌<◌, List, [], length, take, slice_index_or}
use Rattle.pb_core.specs.declared.constraint.Constraint.{Constraint}
use Rattle.deriv_check.specs.Database.{database}
use Rattle.deriv_check.specs.LineRule.{Checks}
use Rattle.deriv_check.specs.declared.derivation.Line.{Line}

-- the first lines check, each over the constraints and the lines before it
abbrev pub CheckUpTo : ℕ → List Constraint → List Line → ℕ → Type 0
CheckUpTo variables constraints lines count =
    (k : ℕ) (d : Line) → k < count → Checks variables (database constraints (take k lines)) (slice_index_or lines k d)

-- there is a line, and the clause of the last is empty
abbrev pub EndsEmpty : List Line → Type 0
EndsEmpty lines = (0 < length lines) × ((d : Line) → (slice_index_or lines (length lines - 1) d).clause ≡ [])
