use Rattle.std.proofs.Common.{◌≡◌, ℕ, ◌<◌}
use Rattle.std.specs.Prelude.{Some, slice_get}
use Rattle.unit_catalog.specs.Entered.{AreEntered}
use Rattle.unit_catalog.specs.Listed.{AreRising}
use Rattle.unit_model.specs.declared.unit.Unit.{Unit as Package}
use Rattle.unit_catalog.proofs.provider_index.provided_by.Given as goal

-- the units so far are led to
abbrev pub invariant-loop-place : goal.invariant-loop-place
invariant-loop-place l = record {
  rise : AreRising l.place l.index;
  lead : (n : ℕ) (u : Package) → n < l.place → slice_get l.units n ≡ Some u → AreEntered l.index u.provided n;
}
