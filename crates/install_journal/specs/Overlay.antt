-- What a list of entries makes of a map: at each of their paths stands what the first entry of that path has.
use Rattle.std.specs.Prelude.{◌≡◌, ℕ, List, [], ◌∷◌, ◌⊎◌, None, slice_index_or}
use Rattle.folder_core.specs.Folder.{Map, set_at}
use Rattle.backup_store.specs.Places.{IsOutside}
use Rattle.backup_store.specs.declared.entry.Entry.{Entry}

abbrev pub no_entry : Entry
no_entry = record { path = []; before = None }

-- the entry at a place, from 0
abbrev pub entry_at : List Entry → ℕ → Entry
entry_at entries place = slice_index_or entries place no_entry

abbrev pub overlay : List Entry → Map → Map
overlay [] m = m
overlay (entry ∷ entries) m = set_at (overlay entries m) entry.path entry.before

-- Some entry has the path.
abbrev pub Covers : List Entry → List (List ℕ) → Type 0
Covers [] path = ⊥
Covers (entry ∷ entries) path = (path ≡ entry.path) ⊎ Covers entries path

-- The maps have one installation, which is what stands outside `.p2`.
abbrev pub SameOutside : Map → Map → Type 0
SameOutside a b = (path : List (List ℕ)) → IsOutside path → a path ≡ b path
