-- The greatest of the units that a question asks for.
use Rattle.std.specs.Prelude.{◌≡◌, ℕ, false, Option, Some, None, IsTrue, List, All, slice_get}
use Rattle.std.specs.Ordering.{nat_cmp, ordering_then, is_gt}
use Rattle.std.specs.declared.cmp.Ordering.{Ordering}
use Rattle.std.specs.declared.cmp.Ordering.TheVariants.{Less}
use Rattle.std.specs.Cmp.Lexicographic.{slice_cmp}
use Rattle.osgi_version.specs.Holds.{Holds}
use Rattle.osgi_version.specs.VersionOrder.{version_cmp}
use Rattle.ldap_filter.specs.EnvPairs.{EnvPair}
use Rattle.unit_model.specs.Applies.{filter_true}
use Rattle.unit_model.specs.declared.name.UnitName.{UnitName}
use Rattle.unit_model.specs.declared.unit.Unit.{Unit as Package}

-- names by their versions, and then by the bytes of their ids
abbrev pub by_version : UnitName → UnitName → Ordering
by_version a b = ordering_then (version_cmp a.version b.version) (slice_cmp nat_cmp a.id b.id)

-- The first name isn't above the second in that order.
abbrev pub IsUpTo : UnitName → UnitName → Type 0
IsUpTo a b = is_gt (by_version a b) ≡ false

-- The unit has the id, and applies.
pub record IsOfId (id : List ℕ) (env : List EnvPair) (u : Package) : Type 0 where
  pub same : u.name.id ≡ id
  pub applies : IsTrue (filter_true env u.filter)

-- The unit applies, is of a greater version, and updates units of this id and this version.
pub record Updates (name : UnitName) (env : List EnvPair) (u : Package) : Type 0 where
  pub same : u.update.id ≡ name.id
  pub held : Holds u.update.range name.version
  pub above : version_cmp name.version u.name.version ≡ Less
  pub applies : IsTrue (filter_true env u.filter)

-- The unit of this number is wanted, and no wanted one is above it.
pub record IsGreatestAt (units : List Package) (Wanted : Package → Type 0) (n : ℕ) : Type 0 where
  pub unit : Package
  pub here : slice_get units n ≡ Some unit
  pub wanted : Wanted unit
  pub most : All (λ u. Wanted u → IsUpTo u.name unit.name) units

-- The number of the greatest unit that is wanted, or None where none is.
abbrev pub IsGreatest : List Package → (Package → Type 0) → Option ℕ → Type 0
IsGreatest units Wanted None = All (λ u. ¬ (Wanted u)) units
IsGreatest units Wanted (Some n) = IsGreatestAt units Wanted n
