-- Lines behind the constraints of a problem.
use Rattle.std.specs.Prelude.{ℕ, ◌<◌, List, ◌++◌, length, map, take, slice_index_or}
use Rattle.pb_core.specs.AtLeast.{AtLeast}
use Rattle.pb_core.specs.Fresh.{Fresh}
use Rattle.deriv_check.specs.Database.{line_seen}
use Rattle.deriv_check.specs.LineRule.{Checks}
use Rattle.deriv_check.specs.declared.derivation.Line.{Line}

-- the constraints, and behind them the clauses of the lines before a place
abbrev pub before_line : List AtLeast → List Line → ℕ → List AtLeast
before_line constraints lines place = constraints ++ map line_seen (take place lines)

-- Each line checks, and was fresh when it came.
pub record AreLearned (variables : ℕ) (constraints : List AtLeast) (lines : List Line) : Type 0 where
  pub check : (k : ℕ) (d : Line) → k < length lines → Checks variables (before_line constraints lines k) (slice_index_or lines k d)
  pub fresh : (k : ℕ) (d : Line) → k < length lines → Fresh (slice_index_or lines k d).clause (before_line constraints lines k)
