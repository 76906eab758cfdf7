-- The unit that a word names.
use Rattle.std.specs.Prelude.{◌≡◌, ◌≢◌, ℕ, true, List, [], MatchOption, Contains}
use Rattle.osgi_version.specs.VersionOrder.{version_cmp}
use Rattle.std.specs.declared.cmp.Ordering.TheVariants.{Greater}
use Rattle.unit_model.specs.Applies.{filter_true}
use Rattle.unit_model.specs.declared.unit.Unit.{Unit}
use Rattle.director_words.specs.declared.root.Root.{Root}
use Rattle.director_words.specs.Root.{DenotesRoot}

-- The unit may be installed in the empty environment, which a new profile has.
abbrev pub AppliesAtFirst : Unit → Type 0
AppliesAtFirst unit = filter_true [] unit.filter ≡ true

-- The unit applies, and no other of its id that applies is greater.
pub record IsGreatest (units : List Unit) (unit : Unit) : Type 0 where
  pub applies : AppliesAtFirst unit
  pub greatest : (other : Unit) → Contains units other → other.name.id ≡ unit.name.id → AppliesAtFirst other
      → version_cmp other.name.version unit.name.version ≢ Greater

-- The root is this unit: the one of its version, or without a version the greatest that applies.
pub record IsOfRoot (root : Root) (units : List Unit) (unit : Unit) : Type 0 where
  pub there : Contains units unit
  pub id : root.id ≡ unit.name.id
  pub version : MatchOption root.version (IsGreatest units unit) (λ version. version ≡ unit.name.version)

abbrev pub Finds : List ℕ → List Unit → Unit → Type 0
Finds word units unit = (root : Root) × DenotesRoot word root × IsOfRoot root units unit

abbrev pub FindsNone : List ℕ → List Unit → Type 0
FindsNone word units = (unit : Unit) → ¬ (Finds word units unit)
