-- What shows that a plan doesn't fit, in the plan's own words. Only clauses of private functions cite this.
use Rattle.std.specs.Prelude.{◌≡◌, ◌≢◌, ◌⊎◌, ℕ, List, [], ◌∷◌, ◌++◌, length, Contains, Option, Some, None, IsSome}
use Rattle.std.specs.List.{AllAdjacentBelow}
use Rattle.folder_core.specs.Folder.{Map}
use Rattle.folder_core.specs.Path.{parent}
use Rattle.folder_core.specs.declared.node.Node.TheVariants.{Dir}
use Rattle.install_journal.specs.Plan.{IsPathBelow}
use Rattle.install_journal.specs.declared.plan.Oldest.{Oldest}
use Rattle.install_journal.specs.declared.plan.OldKind.TheVariants.{Nothing, Directory}

-- They stand in the order of paths, one for each. Where the folder tells nothing, it isn't known whether a plan's do.
abbrev pub AreInOrder : List Oldest → Type 0
AreInOrder oldest = AllAdjacentBelow IsPathBelow oldest (length oldest)

abbrev pub HasOldest : List Oldest → List (List ℕ) → Type 0
HasOldest oldest path = (one : Oldest) × (Contains oldest one × (one.path ≡ path))

-- It is the one of the path, or the path has none.
abbrev pub IsOldestOf : List Oldest → List (List ℕ) → Option Oldest → Type 0
IsOldestOf oldest path None = ¬ (HasOldest oldest path)
IsOldestOf oldest path (Some one) = Contains oldest one × (one.path ≡ path)

-- The child of a path, if the plan has none of it. A path of 64 names has no child.
abbrev pub IsChildIfUncovered : List Oldest → List (List ℕ) → List ℕ → Option (List (List ℕ)) → Type 0
IsChildIfUncovered oldest above name None = (length above ≡ 64) ⊎ HasOldest oldest (above ++ name ∷ [])
IsChildIfUncovered oldest above name (Some child) = (child ≡ above ++ name ∷ []) × (¬ (HasOldest oldest child))

-- Something stands there, directly below a path, and the plan has none of it.
pub record IsBareChild (oldest : List Oldest) (m : Map) (above path : List (List ℕ)) : Type 0 where
  pub name : List ℕ
  pub child : path ≡ above ++ name ∷ []
  pub stands : IsSome (m path)
  pub bare : ¬ (HasOldest oldest path)

-- The path above is one of the plan's.
abbrev pub IsBare : List Oldest → Map → List (List ℕ) → Type 0
IsBare oldest m path = (one : Oldest) × (Contains oldest one × IsBareChild oldest m one.path path)

-- Its oldest node is a directory.
pub record PutsDirectory (oldest : List Oldest) (path : List (List ℕ)) : Type 0 where
  pub one : Oldest
  pub has : Contains oldest one
  pub at : one.path ≡ path
  pub kind : one.kind ≡ Directory

-- A directory is put back there, or stands there and stays.
abbrev pub WillBeDirectory : List Oldest → Map → List (List ℕ) → Type 0
WillBeDirectory oldest m path = PutsDirectory oldest path ⊎ ((¬ (HasOldest oldest path)) × (m path ≡ Some Dir))

-- Something is put back there, where its parent won't be a directory.
pub record HangsLoose (oldest : List Oldest) (m : Map) (one : Oldest) : Type 0 where
  pub some : one.kind ≢ Nothing
  pub parent : ¬ (WillBeDirectory oldest m (parent one.path))

abbrev pub IsLooseHere : List Oldest → Map → List (List ℕ) → Type 0
IsLooseHere oldest m path = (one : Oldest) × (Contains oldest one × ((one.path ≡ path) × HangsLoose oldest m one))
