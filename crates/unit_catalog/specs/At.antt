-- Units by their numbers: a unit's number is its place in the list, from 0.
use Rattle.std.specs.Prelude.{◌≡◌, ℕ, Some, List, slice_get}
use Rattle.unit_model.specs.declared.unit.Unit.{Unit as Package}

-- A unit of this number is there, and has the property.
pub record HasAt (units : List Package) (P : Package → Type 0) (n : ℕ) : Type 0 where
  pub unit : Package
  pub here : slice_get units n ≡ Some unit
  pub has : P unit
