-- How the unit of a root is looked up in a catalog. Clauses of private functions alone cite this.
use Rattle.std.specs.Prelude.{◌≡◌, ℕ, List, [], Option, Some, None, slice_get}
use Rattle.osgi_version.specs.declared.version.Version.{Version}
use Rattle.unit_catalog.specs.Greatest.{IsGreatest, IsOfId}
use Rattle.unit_catalog.specs.Named.{IsNumberOf}
use Rattle.unit_model.specs.declared.unit.Unit.{Unit}
use Rattle.director_words.specs.declared.root.Root.{Root}

-- the number that is looked up for an id without a version, or with this one
abbrev pub IsNumberOfRoot : List ℕ → Option Version → List Unit → Option ℕ → Type 0
IsNumberOfRoot id None units number = IsGreatest units (IsOfId id []) number
IsNumberOfRoot id (Some version) units number = IsNumberOf units (record { id = id; version = version }) number

-- Nothing is found.
abbrev pub IsOfNoRoot : Root → List Unit → Type 0
IsOfNoRoot root units = IsNumberOfRoot root.id root.version units None

-- The unit has the number that is found.
pub record IsOfNumber (root : Root) (units : List Unit) (unit : Unit) : Type 0 where
  pub number : ℕ
  pub found : IsNumberOfRoot root.id root.version units (Some number)
  pub here : slice_get units number ≡ Some unit
