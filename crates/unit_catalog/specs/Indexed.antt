-- How the indexes of a catalog follow its units.
use Rattle.std.specs.Prelude.{◌≡◌, ℕ, ◌+◌, ◌≤◌, Some, List, Contains, length, slice_get}
use Rattle.unit_model.specs.declared.unit.Unit.{Unit as Package}
use Rattle.unit_catalog.specs.Entered.{AreEntered}
use Rattle.unit_catalog.specs.Keys.{text_key, name_key}
use Rattle.unit_catalog.specs.Listed.{listed, AreRising, Keeps, KeepsBelow}
use Rattle.unit_catalog.specs.Named.{HasDistinctNames}
use Rattle.unit_catalog.specs.declared.indexes.Indexes.{Indexes}

pub record AllRise (top : ℕ) (indexes : Indexes) : Type 0 where
  pub names : AreRising top indexes.names
  pub ids : AreRising top indexes.ids
  pub updates : AreRising top indexes.updates
  pub provided : AreRising top indexes.provided

-- The unit's name, its id, the id that it updates and each capability that it provides lead to the number.
pub record LeadTo (indexes : Indexes) (u : Package) (n : ℕ) : Type 0 where
  pub name : Contains (listed indexes.names (name_key u.name)) n
  pub id : Contains (listed indexes.ids (text_key u.name.id)) n
  pub update : Contains (listed indexes.updates (text_key u.update.id)) n
  pub provided : AreEntered indexes.provided u.provided n

pub record AllKeep (old new : Indexes) : Type 0 where
  pub names : Keeps old.names new.names
  pub ids : Keeps old.ids new.ids
  pub updates : Keeps old.updates new.updates
  pub provided : Keeps old.provided new.provided

pub record AllKeepBelow (top : ℕ) (old new : Indexes) : Type 0 where
  pub names : KeepsBelow top old.names new.names
  pub ids : KeepsBelow top old.ids new.ids
  pub updates : KeepsBelow top old.updates new.updates
  pub provided : KeepsBelow top old.provided new.provided

-- Each unit is led to. What else an index lists lies no higher than the next number.
pub record AreIndexed (units : List Package) (indexes : Indexes) : Type 0 where
  pub rise : AllRise (length units + 1) indexes
  pub lead : (n : ℕ) (u : Package) → slice_get units n ≡ Some u → LeadTo indexes u n

pub record IsSound (units : List Package) (indexes : Indexes) : Type 0 where
  pub few : length units ≤ 65536
  pub distinct : HasDistinctNames units
  pub indexed : AreIndexed units indexes
