-- A trail that is cut at its decisions.
use Rattle.std.specs.Prelude.{◌≡◌, ◌≢◌, ℕ, ◌-◌, ◌<◌, ◌≤◌, Bool, List, Option, length, take, slice_index_or}
use Rattle.pb_core.specs.AtLeast.{AtLeast}
use Rattle.pb_core.specs.Propagates.{IsAtRest}
use Rattle.pb_trail.specs.Along.{values_before}
use Rattle.pb_trail.specs.Rest.{Rests}
use Rattle.pb_trail.specs.Trail.{IsTrail}
use Rattle.pb_trail.specs.declared.trail.Entry.{Entry}
use Rattle.pb_trail.specs.declared.trail.Trail.{Trail}
use Rattle.pb_solver.specs.declared.levels.Levels.{Levels}

-- the values before the entry at a place
abbrev pub values_at : Trail → ℕ → List (Option Bool)
values_at trail place = values_before (length trail.kept.values) trail.entries.items place

-- Before each decision all constraints rested, and every entry that isn't a decision was forced.
pub record AreLevels (trail : Trail) (starts : List ℕ) : Type 0 where
  pub good : IsTrail trail
  pub rising : (i j : ℕ) → i < j → j < length starts → slice_index_or starts i 0 < slice_index_or starts j 0
  pub within : (i : ℕ) → i < length starts → slice_index_or starts i 0 < length trail.entries.items
  pub at_rest : (i : ℕ) → i < length starts → IsAtRest trail.kept.constraints (values_at trail (slice_index_or starts i 0))
  pub forced : (k : ℕ) (d : Entry) → k < length trail.entries.items → ((i : ℕ) → i < length starts → slice_index_or starts i 0 ≢ k) → 0 < (slice_index_or trail.entries.items k d).reason

abbrev pub LevelsHold : Levels → Type 0
LevelsHold levels = AreLevels levels.trail levels.starts.items

-- where the last level begins
abbrev pub last_of : List ℕ → ℕ
last_of starts = slice_index_or starts (length starts - 1) 0

-- the constraint rests before each decision
abbrev pub RestsAtLevels : Trail → List ℕ → AtLeast → Type 0
RestsAtLevels trail starts c = (i : ℕ) → i < length starts → Rests (values_at trail (slice_index_or starts i 0)) c

-- Levels were taken back, down to the lowest at which the entries below the floor stand.
pub record IsBack (before after : Levels) (floor : ℕ) : Type 0 where
  pub constraints : after.trail.kept.constraints ≡ before.trail.kept.constraints
  pub variables : length after.trail.kept.values ≡ length before.trail.kept.values
  pub count : ℕ
  pub above : floor ≤ count
  pub below : count ≤ last_of before.starts.items
  pub entries : after.trail.entries.items ≡ take count before.trail.entries.items
  pub starts_below : (i : ℕ) → i < length after.starts.items → slice_index_or after.starts.items i 0 < floor
  pub at_rest : IsAtRest after.trail.kept.constraints after.trail.kept.values
