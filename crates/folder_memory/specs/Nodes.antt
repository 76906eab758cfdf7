-- The nodes of a folder in a map in order.
use Rattle.std.specs.Prelude.{◌≡◌, ℕ, List, [], ◌∷◌, ◌++◌, Some}
use Rattle.std.specs.BTreeMap.{BTreeMap, get}
use Rattle.folder_core.specs.PathOrder.{path_cmp}
use Rattle.folder_core.specs.Folder.{Map}
use Rattle.folder_core.specs.declared.node.Node.{Node}
use Rattle.folder_core.specs.declared.node.Node.TheVariants.{Dir}

-- the node at each path, with this one at the root
abbrev pub map_of : Node → BTreeMap (List (List ℕ)) Node → Map
map_of root nodes [] = Some root
map_of root nodes (name ∷ path) = get path_cmp nodes (name ∷ path)

-- The node at the place is the directory at the path, or stands below the path.
abbrev pub ShowsDirectory : List (List ℕ) → List (List ℕ) → Node → Type 0
ShowsDirectory path place node = (rest : List (List ℕ)) × (place ≡ path ++ rest) × (rest ≡ [] → node ≡ Dir)
