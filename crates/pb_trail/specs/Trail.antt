-- What holds of a trail.
use Rattle.std.specs.Prelude.{◌≡◌, ℕ, ◌+◌, ◌<◌, ◌≤◌, Bool, IsTrue, List, Option, length, All, slice_index_or, vec_capacity}
use Rattle.pb_core.specs.AtLeast.{AtLeast}
use Rattle.pb_core.specs.ConstraintAt.{constraint_at}
use Rattle.pb_core.specs.KeptView.{IsKeepable}
use Rattle.pb_core.specs.Slack.{Forces}
use Rattle.pb_core.specs.Values.{is_open}
use Rattle.pb_trail.specs.Along.{values_along, values_before, weight}
use Rattle.pb_trail.specs.declared.trail.Entry.{Entry}
use Rattle.pb_trail.specs.declared.trail.Trail.{Trail}

-- an open literal is made true, chosen or forced by the constraint with its reason's number
pub record IsStep (constraints : List AtLeast) (values : List (Option Bool)) (e : Entry) : Type 0 where
  pub from_one : 0 < e.lit.variable
  pub within : e.lit.variable ≤ length values
  pub was_open : IsTrue (is_open values e.lit)
  pub forced : 0 < e.reason → (e.reason ≤ length constraints) × Forces values (constraint_at constraints e.reason) e.lit

-- each entry was a step under the values before it
abbrev pub AreSteps : List AtLeast → ℕ → List Entry → Type 0
AreSteps constraints variables entries = (k : ℕ) (d : Entry) → k < length entries → IsStep constraints (values_before variables entries k) (slice_index_or entries k d)

-- the values are those along the entries, each of which was a step
pub record IsTrail (trail : Trail) : Type 0 where
  pub along : trail.kept.values ≡ values_along (length trail.kept.values) trail.entries.items
  pub are_steps : AreSteps trail.kept.constraints (length trail.kept.values) trail.entries.items
  pub keepable : All (IsKeepable (length trail.kept.values)) trail.kept.constraints
  pub few_variables : length trail.kept.values ≤ 1000000000
  pub few : length trail.kept.constraints ≤ 2000000000
  pub room : length trail.kept.values < vec_capacity trail.entries

-- as many steps as slacks were changed
abbrev pub Counted : Trail → Trail → ℕ → ℕ → Type 0
Counted before after first last = last + weight before.kept.constraints before.entries.items ≡ first + weight before.kept.constraints after.entries.items
