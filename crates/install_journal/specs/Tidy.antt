-- What stands below `.p2`.
use Rattle.std.specs.Prelude.{◌≡◌, ◌≢◌, ℕ, List, [], ◌∷◌, ◌++◌, None, codes}
use Rattle.folder_core.specs.Folder.{Map}
use Rattle.folder_core.specs.Node.{entries_path}
use Rattle.backup_store.specs.Places.{gate_path}

-- The path lies below `.p2`, and is neither `.p2/undo`, nor `.p2/e`, nor one directly below `.p2/e`.
pub record IsForeign (path : List (List ℕ)) : Type 0 where
  pub name : List ℕ
  pub rest : List (List ℕ)
  pub below : path ≡ codes ".p2" ∷ name ∷ rest
  pub not_gate : path ≢ gate_path
  pub not_entries : path ≢ entries_path
  pub not_entry : (last : List ℕ) → path ≢ entries_path ++ last ∷ []

-- Nothing stands below `.p2` but `.p2/undo`, `.p2/e` and what is directly in `.p2/e`.
abbrev pub IsTidy : Map → Type 0
IsTidy m = (path : List (List ℕ)) → IsForeign path → m path ≡ None

-- What the journal doesn't keep below `.p2` is the same in both maps. So where the first is tidy, the second is.
abbrev pub SameForeign : Map → Map → Type 0
SameForeign first second = (path : List (List ℕ)) → IsForeign path → second path ≡ first path
