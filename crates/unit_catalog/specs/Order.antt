-- The order in which units are listed, and lists of their numbers.
use Rattle.std.specs.Prelude.{◌≡◌, ℕ, ◌<◌, ◌≤◌, Some, List, length, All, AllPairs, slice_get}
use Rattle.std.specs.List.{filter_map}
use Rattle.std.specs.Ordering.{nat_cmp, ordering_then}
use Rattle.std.specs.declared.cmp.Ordering.{Ordering}
use Rattle.std.specs.declared.cmp.Ordering.TheVariants.{Less}
use Rattle.std.specs.Cmp.Lexicographic.{slice_cmp}
use Rattle.osgi_version.specs.VersionOrder.{version_cmp}
use Rattle.unit_model.specs.declared.name.UnitName.{UnitName}
use Rattle.unit_model.specs.declared.unit.Unit.{Unit as Package}

-- names by the bytes of their ids, and then by their versions
abbrev pub by_id : UnitName → UnitName → Ordering
by_id a b = ordering_then (slice_cmp nat_cmp a.id b.id) (version_cmp a.version b.version)

-- The units' names rise, so no two have one name.
abbrev pub AreInOrder : List Package → Type 0
AreInOrder units = AllPairs (λ u v. by_id u.name v.name ≡ Less) units

-- The unit of the first number stands before that of the second.
abbrev pub IsBefore : List Package → ℕ → ℕ → Type 0
IsBefore units m n = (u v : Package) → slice_get units m ≡ Some u → slice_get units n ≡ Some v → by_id u.name v.name ≡ Less

-- the units of these numbers, in their order
abbrev pub units_at : List Package → List ℕ → List Package
units_at units numbers = filter_map (slice_get units) numbers

-- At most 8,192 numbers of units, in the order of the units' names.
pub record AreMembers (units : List Package) (numbers : List ℕ) : Type 0 where
  pub few : length numbers ≤ 8192
  pub there : All (λ n. n < length units) numbers
  pub rising : AllPairs (IsBefore units) numbers
