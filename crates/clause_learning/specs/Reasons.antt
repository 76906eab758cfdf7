use Rattle.std.specs.Prelude.{ℕ, ◌<◌, ◌≤◌, length, slice_index_or}
use Rattle.pb_trail.specs.declared.trail.Entry.{Entry}
use Rattle.pb_trail.specs.declared.trail.Trail.{Trail}

-- the entry at a place was forced
abbrev pub IsForced : Trail → ℕ → Type 0
IsForced trail place = (d : Entry) → 0 < (slice_index_or trail.entries.items place d).reason

-- the entries from a place on were forced
abbrev pub ReasonsFrom : Trail → ℕ → Type 0
ReasonsFrom trail first = (k : ℕ) (d : Entry) → first ≤ k → k < length trail.entries.items → 0 < (slice_index_or trail.entries.items k d).reason
