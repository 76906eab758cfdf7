-- The files of a tree in memory.
use Rattle.std.specs.Prelude.{◌≡◌, ◌≢◌, ℕ, List, [], ◌∷◌, ◌++◌, Some, None, IsSome, Result, Ok, Err, if◌then◌else◌}
use Rattle.std.specs.BTreeMap.{BTreeMap, get}
use Rattle.folder_core.specs.Path.{IsBelow, path_eqb}
use Rattle.folder_core.specs.PathOrder.{path_cmp}
use Rattle.folder_core.specs.Tree.{Files}
use Rattle.folder_memory.specs.declared.tree.PutFault.{PutFault}
use Rattle.folder_memory.specs.declared.tree.PutFault.TheVariants.{NotAFolder, NoMemory}

abbrev pub no_files : Files
no_files path = None

-- the files with this one at a path
abbrev pub put_at : Files → List (List ℕ) → List ℕ → Files
put_at files path bytes place = if path_eqb place path then Some bytes else files place

-- the file at each path
abbrev pub files_of : BTreeMap (List (List ℕ)) (List ℕ) → Files
files_of files = get path_cmp files

-- A file stands above the path.
abbrev pub HasFileAbove : Files → List (List ℕ) → Type 0
HasFileAbove files path = (above : List (List ℕ)) × IsBelow above path × IsSome (files above)

-- A file may stand at the path: it isn't the root, and no file stands above it or below it.
pub record HasRoom (files : Files) (path : List (List ℕ)) : Type 0 where
  pub not_root : path ≢ []
  pub none_above : (above : List (List ℕ)) (name : List ℕ) (rest : List (List ℕ)) → path ≡ above ++ name ∷ rest → files above ≡ None
  pub none_below : (name : List ℕ) (rest : List (List ℕ)) → files (path ++ name ∷ rest) ≡ None

-- A file is put at the path exactly where it has room: no file stands above the path, and no directory at it.
abbrev pub Puts : List (List ℕ) → List ℕ → Files → Files → Result (Unit {0}) PutFault → Type 0
Puts path bytes old new (Ok done) = HasRoom old path × (new ≡ put_at old path bytes)
Puts path bytes old new (Err NotAFolder) = ¬ (HasRoom old path) × (new ≡ old)
Puts path bytes old new (Err NoMemory) = new ≡ old
