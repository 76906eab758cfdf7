-- The unit of a name.
use Rattle.std.specs.Prelude.{◌≡◌, ◌≢◌, ℕ, Option, Some, None, List, All, AllPairs}
use Rattle.unit_model.specs.declared.name.UnitName.{UnitName}
use Rattle.unit_model.specs.declared.unit.Unit.{Unit as Package}
use Rattle.unit_catalog.specs.At.{HasAt}

-- No unit has the name.
abbrev pub IsNew : List Package → UnitName → Type 0
IsNew units name = All (λ u. u.name ≢ name) units

-- No two units have one name.
abbrev pub HasDistinctNames : List Package → Type 0
HasDistinctNames units = AllPairs (λ u v. u.name ≢ v.name) units

-- The number of the unit of this name, or None where no unit has it.
abbrev pub IsNumberOf : List Package → UnitName → Option ℕ → Type 0
IsNumberOf units name None = IsNew units name
IsNumberOf units name (Some n) = HasAt units (λ u. u.name ≡ name) n
