-- What a derivation uses of a problem.
use Rattle.std.specs.Prelude.{ℕ, ◌+◌, ◌<◌, ◌≤◌, List, length, All, Contains, slice_index_or}
use Rattle.deriv_check.specs.declared.derivation.Line.{Line}

-- The last line is reached, and so is each hint of a line that is. Lines are numbered behind the constraints.
pub data IsReached (constraints : ℕ) (lines : List Line) : ℕ → Type 0 where
  last : IsReached constraints lines (constraints + length lines)
  hint : (place number : ℕ) (d : Line) → place < length lines → IsReached constraints lines (constraints + place + 1)
      → Contains (slice_index_or lines place d).hints number → IsReached constraints lines number

-- the number of a constraint that is reached
pub record IsUsed (constraints : ℕ) (lines : List Line) (number : ℕ) : Type 0 where
  pub of_problem : number ≤ constraints
  pub reached : IsReached constraints lines number

-- each hint is the number of a constraint or of an earlier line
abbrev pub HaveEarlierHints : ℕ → List Line → Type 0
HaveEarlierHints constraints lines =
    (place : ℕ) (d : Line) → place < length lines → All (λ h. (0 < h) × (h ≤ constraints + place)) (slice_index_or lines place d).hints
