-- Where the nodes of a folder may stand.
use Rattle.std.specs.Prelude.{◌≡◌, ◌≢◌, ℕ, List, [], Some}
use Rattle.folder_core.specs.Folder.{Map}
use Rattle.folder_core.specs.Node.{IsNode, IsSmallAt}
use Rattle.folder_core.specs.Path.{parent}
use Rattle.folder_core.specs.declared.node.Node.{Node}
use Rattle.folder_core.specs.declared.node.Node.TheVariants.{Dir}

-- A directory is at the parent of the node, which may stand at its path.
pub record StandsWell (m : Map) (path : List (List ℕ)) (node : Node) : Type 0 where
  pub parent : m (parent path) ≡ Some Dir
  pub is_node : IsNode node
  pub small : IsSmallAt path node

-- What stands at the path stands well. The root isn't asked.
abbrev pub IsWellAt : Map → List (List ℕ) → Type 0
IsWellAt m path = (node : Node) → path ≢ [] → m path ≡ Some node → StandsWell m path node
