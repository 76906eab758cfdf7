-- What stands in a folder, and what its calls do to it.
use Rattle.std.specs.Prelude.{◌≡◌, ◌≢◌, ℕ, List, [], ◌∷◌, ◌++◌, Option, Some, None, IsSome, if◌then◌else◌}
use Rattle.folder_core.specs.Path.{IsPath, path_eqb, parent}
use Rattle.folder_core.specs.Node.{IsNode, IsSmallAt}
use Rattle.folder_core.specs.declared.node.Node.{Node}
use Rattle.folder_core.specs.declared.node.Node.TheVariants.{Dir}

-- the nodes by their paths
abbrev pub Map : Type 0
Map = List (List ℕ) → Option Node

-- What a folder tells of itself: what stands now, what stood at its last sync, the paths touched since, and the moment,
-- a number that never falls.
pub record Told : Type 0 where
  pub now : Map
  pub synced : Map
  pub touched : List (List (List ℕ))
  pub moment : ℕ

-- the map with this node at a path, or with none there
abbrev pub set_at : Map → List (List ℕ) → Option Node → Map
set_at m path node place = if path_eqb place path then node else m place

abbrev pub NothingBelow : Map → List (List ℕ) → Type 0
NothingBelow m path = (name : List ℕ) (rest : List (List ℕ)) → m (path ++ name ∷ rest) ≡ None

-- The root is a directory, and so is the parent of each other node. Each node stands at a path that may hold it.
pub record IsFormed (m : Map) : Type 0 where
  pub root : m [] ≡ Some Dir
  pub parents : (path : List (List ℕ)) (node : Node) → path ≢ [] → m path ≡ Some node → m (parent path) ≡ Some Dir
  pub paths : (path : List (List ℕ)) (node : Node) → m path ≡ Some node → IsPath path
  pub nodes : (path : List (List ℕ)) (node : Node) → m path ≡ Some node → IsNode node
  pub small : (path : List (List ℕ)) (node : Node) → m path ≡ Some node → IsSmallAt path node

-- Any node or none may be put at the path: the map stays well formed.
pub record CanSet (m : Map) (path : List (List ℕ)) : Type 0 where
  pub not_root : path ≢ []
  pub parent : m (parent path) ≡ Some Dir
  pub nothing_below : NothingBelow m path

-- The name is directly below the path, which is a directory.
pub record IsKid (m : Map) (path : List (List ℕ)) (name : List ℕ) : Type 0 where
  pub directory : m path ≡ Some Dir
  pub stands : IsSome (m (path ++ name ∷ []))

-- The maps differ at the path at most.
abbrev pub SameBut : List (List ℕ) → Map → Map → Type 0
SameBut path old new = (place : List (List ℕ)) → place ≢ path → new place ≡ old place
