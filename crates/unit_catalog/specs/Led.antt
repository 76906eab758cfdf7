-- How an index of capabilities follows units.
use Rattle.std.specs.Prelude.{◌≡◌, ℕ, Some, List, slice_get}
use Rattle.unit_model.specs.declared.unit.Unit.{Unit as Package}
use Rattle.unit_catalog.specs.Entered.{AreEntered}
use Rattle.unit_catalog.specs.Listed.{listed, IsRising}
use Rattle.unit_catalog.specs.declared.index.Index.{Index}

-- Each unit is led to from each capability that it provides, and the numbers at a key rise.
pub record AreLedTo (units : List Package) (provided : Index) : Type 0 where
  pub rise : (key : ℕ) → IsRising (listed provided key)
  pub lead : (n : ℕ) (u : Package) → slice_get units n ≡ Some u → AreEntered provided u.provided n
