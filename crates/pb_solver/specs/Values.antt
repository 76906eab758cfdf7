-- Which variables have values.
use Rattle.std.specs.Prelude.{ℕ, ◌<◌, ◌≤◌, Bool, true, IsTrue, List, Option, IsSome, is_none, length}
use Rattle.pb_core.specs.Values.{value_of, has_truth}

pub record IsUnassigned (values : List (Option Bool)) (variable : ℕ) : Type 0 where
  pub from_one : 0 < variable
  pub within : variable ≤ length values
  pub is_open : IsTrue (is_none (value_of values variable))

-- each variable has a value
abbrev pub AreAssigned : List (Option Bool) → Type 0
AreAssigned values = (variable : ℕ) → 0 < variable → variable ≤ length values → IsSome (value_of values variable)

-- the full assignment under which exactly the variables are true that have the value true
abbrev pub truths : List (Option Bool) → ℕ → Bool
truths values variable = has_truth (value_of values variable) true
