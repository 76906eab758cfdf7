-- What no crash can change.
use Rattle.std.specs.Prelude.{◌≡◌, ℕ, List, Option, Some, Contains}
use Rattle.folder_core.specs.Folder.{Told}
use Rattle.folder_core.specs.declared.node.Node.{Node}
use Rattle.folder_core.specs.declared.node.Node.TheVariants.{File}

-- It stood there at the last sync, and the path wasn't touched since: so it stands there in each image.
pub record IsFixed (s : Told) (path : List (List ℕ)) (node : Option Node) : Type 0 where
  pub untouched : ¬ (Contains s.touched path)
  pub synced : s.synced path ≡ node

-- A file with these bytes stands there in each image.
abbrev pub IsFixedFile : Told → List (List ℕ) → List ℕ → Type 0
IsFixedFile s path bytes = (mode : ℕ) × IsFixed s path (Some (File mode bytes))
