-- Trails with more entries behind.
use Rattle.std.specs.Prelude.{◌≡◌, ℕ, ◌<◌, ◌≤◌, length, take, slice_index_or}
use Rattle.pb_core.specs.declared.literal.Lit.{Lit}
use Rattle.pb_trail.specs.declared.trail.Entry.{Entry}
use Rattle.pb_trail.specs.declared.trail.Trail.{Trail}

pub record Extends (before after : Trail) : Type 0 where
  pub constraints : after.kept.constraints ≡ before.kept.constraints
  pub variables : length after.kept.values ≡ length before.kept.values
  pub longer : length before.entries.items ≤ length after.entries.items
  pub same : take (length before.entries.items) after.entries.items ≡ before.entries.items

-- each of the new entries was forced
pub record Grows (before after : Trail) : Type 0 where
  pub extends : Extends before after
  pub reasons : (k : ℕ) (d : Entry) → length before.entries.items ≤ k → k < length after.entries.items → 0 < (slice_index_or after.entries.items k d).reason

-- the first of the new entries was chosen, and the others were forced
pub record IsDecided (before after : Trail) (lit : Lit) : Type 0 where
  pub extends : Extends before after
  pub some : length before.entries.items < length after.entries.items
  pub chosen : (d : Entry) → slice_index_or after.entries.items (length before.entries.items) d ≡ record { lit = lit; reason = 0 }
  pub reasons : (k : ℕ) (d : Entry) → length before.entries.items < k → k < length after.entries.items → 0 < (slice_index_or after.entries.items k d).reason
