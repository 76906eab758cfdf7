-- Numbers that are each behind the one before.
use Rattle.std.specs.Prelude.{◌≡◌, ℕ, ◌+◌, ◌<◌, List, length, slice_index}
use Rattle.unit_model.specs.declared.unit.Unit.{Unit as Package}
use Rattle.unit_catalog.specs.Order.{IsBefore}

-- The number at the place is that of a unit, and of one behind that of the number before it.
abbrev pub IsInPlace : List Package → List ℕ → ℕ → Type 0
IsInPlace units numbers k =
    (slice_index numbers k < length units) × ((j : ℕ) → j + 1 ≡ k → IsBefore units (slice_index numbers j) (slice_index numbers k))
