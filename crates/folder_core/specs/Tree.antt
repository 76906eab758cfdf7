-- What stands in a tree of files.
use Rattle.std.specs.Prelude.{◌≡◌, ℕ, List, [], ◌∷◌, ◌++◌, Option, Some, None}
use Rattle.folder_core.specs.Path.{IsPath}

-- the bytes of the files by their paths
abbrev pub Files : Type 0
Files = List (List ℕ) → Option (List ℕ)

-- A file stands at the path or below it.
abbrev pub HasBelow : Files → List (List ℕ) → Type 0
HasBelow files path = (rest : List (List ℕ)) × (bytes : List ℕ) × (files (path ++ rest) ≡ Some bytes)

-- Files stand at paths, none of them at the root, and none above another.
pub record AreFiles (files : Files) : Type 0 where
  pub paths : (path : List (List ℕ)) (bytes : List ℕ) → files path ≡ Some bytes → IsPath path
  pub root : files [] ≡ None
  pub apart : (path : List (List ℕ)) (bytes name : List ℕ) (rest : List (List ℕ)) → files path ≡ Some bytes → files (path ++ name ∷ rest) ≡ None
