-- What putting an entry back does to a folder.
use Rattle.std.specs.Prelude.{◌≡◌, ℕ, ◌⊎◌, List, Option, Contains}
use Rattle.folder_core.specs.Folder.{Map, Told, CanSet, set_at}
use Rattle.folder_core.specs.declared.node.Node.{Node}
use Rattle.backup_store.specs.Entry.{IsEntry}
use Rattle.backup_store.specs.EntryText.{entry_text}
use Rattle.backup_store.specs.Held.{IsFileOf, CanRestore}
use Rattle.backup_store.specs.Places.{IsOutside}

-- Where the entry can be put back, its path may be set.
abbrev pub HasRoomBack : Map → ℕ → Type 0
HasRoomBack m k = (path : List (List ℕ)) (before : Option Node) → CanRestore m k path before → CanSet m path

-- The entry's path has its old node.
pub record PutsBack (k : ℕ) (old new : Map) : Type 0 where
  pub path : List (List ℕ)
  pub before : Option Node
  pub entry : CanRestore old k path before
  pub puts : new ≡ set_at old path before

-- The place is the entry's path.
abbrev pub IsEntryPath : Map → ℕ → List (List ℕ) → Type 0
IsEntryPath m k place = (before : Option Node) × CanRestore m k place before

-- The maps differ at the entry's path at most.
abbrev pub SameButRestored : ℕ → Map → Map → Type 0
SameButRestored k old new = (place : List (List ℕ)) → ¬ (IsEntryPath old k place) → new place ≡ old place

-- The entry's path, and no other, is touched.
pub record TouchesRestored (k : ℕ) (old new : Told) : Type 0 where
  pub synced : new.synced ≡ old.synced
  pub touched : (place : List (List ℕ)) → Contains new.touched place → Contains old.touched place ⊎ IsEntryPath old.now k place
  pub kept : (place : List (List ℕ)) → Contains old.touched place → Contains new.touched place

-- The node is a file with the text of this entry, whose path isn't the journal's own.
pub record IsRestorable (node : Option Node) (path : List (List ℕ)) (before : Option Node) : Type 0 where
  pub entry : IsEntry path before
  pub file : IsFileOf (entry_text path before) node
  pub outside : IsOutside path

abbrev pub IsNoRestorable : Option Node → Type 0
IsNoRestorable node = (path : List (List ℕ)) (before : Option Node) → ¬ (IsRestorable node path before)
