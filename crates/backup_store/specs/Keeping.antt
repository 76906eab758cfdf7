-- What keeping an entry does to a folder, and what a crash leaves of it.
use Rattle.std.specs.Prelude.{◌≡◌, ◌≢◌, ◌⊎◌, ℕ, List, [], ◌∷◌, Some, None, Contains}
use Rattle.folder_core.specs.Folder.{Map, Told, IsFormed, NothingBelow}
use Rattle.folder_core.specs.Crash.{IsImage, Touches}
use Rattle.folder_core.specs.Node.{entries_path}
use Rattle.folder_core.specs.declared.node.Node.TheVariants.{File, Dir}
use Rattle.backup_store.specs.EntryText.{entry_text}
use Rattle.backup_store.specs.Held.{mark_text, Counts, HoldsEntry}
use Rattle.backup_store.specs.Places.{entry_path, mark_path}

-- Nothing stands at the entry's mark.
abbrev pub HasNoMark : ℕ → Map → Type 0
HasNoMark k m = m (mark_path k) ≡ None

-- There is room for the entry K and its mark.
pub record HasRoom (s : Told) (k : ℕ) : Type 0 where
  pub directory : s.now entries_path ≡ Some Dir
  pub nothing_below : NothingBelow s.now (entry_path k)

-- The maps differ at the entry and its mark at most.
abbrev pub SameButEntry : ℕ → Map → Map → Type 0
SameButEntry k old new = (place : List (List ℕ)) → place ≢ entry_path k → place ≢ mark_path k → new place ≡ old place

-- A crash left nothing of the entry that counts: the mark isn't there. But for the entry's file, which may have any node or
-- none, the map is one that a crash before may have left.
pub record IsUnmarked (s : Told) (k : ℕ) (m : Map) : Type 0 where
  pub no_mark : HasNoMark k m
  pub image : IsImage (record s { touched = entry_path k ∷ s.touched }) m

-- All that stood has been synced, and the entry is there whole. Its mark may be there or not.
pub record IsWritten (s : Told) (k : ℕ) (path : List (List ℕ)) (m : Map) : Type 0 where
  pub formed : IsFormed m
  pub elsewhere : SameButEntry k s.now m
  pub holds : HoldsEntry m k path (s.now path)

-- What a crash may leave at any moment while the entry is kept.
abbrev pub LeavesEntry : Told → ℕ → List (List ℕ) → Map → Type 0
LeavesEntry s k path m = IsUnmarked s k m ⊎ IsWritten s k path m

-- The entry's file alone may have been touched, since nothing has been synced.
pub record IsBegun (s : Told) (k : ℕ) (t : Told) : Type 0 where
  pub touches : Touches (entry_path k) s t
  pub no_mark : HasNoMark k t.now

-- The entry has been synced, and the mark alone may have been touched since.
pub record IsSynced (s : Told) (k : ℕ) (path : List (List ℕ)) (t : Told) : Type 0 where
  pub written : IsWritten s k path t.synced
  pub touched : (place : List (List ℕ)) → Contains t.touched place → place ≡ mark_path k

-- How far the keeping came.
abbrev pub HasCome : Told → ℕ → List (List ℕ) → Told → Type 0
HasCome s k path t = IsBegun s k t ⊎ IsSynced s k path t

-- The entry and its mark stand, and all is synced.
pub record IsKept (s : Told) (k : ℕ) (path : List (List ℕ)) (t : Told) : Type 0 where
  pub elsewhere : SameButEntry k s.now t.now
  pub entry : t.now (entry_path k) ≡ Some (File 420 (entry_text path (s.now path)))
  pub mark : t.now (mark_path k) ≡ Some (File 420 mark_text)
  pub synced : t.synced ≡ t.now
  pub settled : t.touched ≡ []

-- The entry counts, and is of the path and the node that stood there.
pub record IsCounted (s : Told) (k : ℕ) (path : List (List ℕ)) (m : Map) : Type 0 where
  pub counts : Counts m k
  pub holds : HoldsEntry m k path (s.now path)
