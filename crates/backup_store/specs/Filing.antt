-- What the parts of keeping many entries do. Only clauses of private functions cite this.
use Rattle.std.specs.Prelude.{◌≡◌, ℕ, ◌+◌, ◌<◌, List, [], Option, Some, length}
use Rattle.folder_core.specs.Folder.{Map, Told, NothingBelow}
use Rattle.folder_core.specs.Node.{entries_path}
use Rattle.folder_core.specs.declared.node.Node.{Node}
use Rattle.folder_core.specs.declared.node.Node.TheVariants.{File, Dir}
use Rattle.folder_core.specs.declared.node.Touch.{Touch}
use Rattle.backup_store.specs.Entry.{IsEntry}
use Rattle.backup_store.specs.EntryText.{entry_text}
use Rattle.backup_store.specs.Held.{mark_text}
use Rattle.backup_store.specs.KeepingAll.{IsAmong, IsFileAmong, IsMarkAmong}
use Rattle.backup_store.specs.Places.{entry_path, mark_path}
use Rattle.backup_store.specs.Turns.{entries_in_turn, entry_at}
use Rattle.backup_store.specs.declared.entry.Entry.{Entry}

-- the file of an entry
abbrev pub entry_file : List (List ℕ) → Option Node → Option Node
entry_file path before = Some (File 420 (entry_text path before))

-- the file of a mark
abbrev pub mark_file : Option Node
mark_file = Some (File 420 mark_text)

-- So many of the entries' files stand, from the first on.
abbrev pub AreFiled : ℕ → ℕ → List Entry → Map → Type 0
AreFiled first count entries m = (place : ℕ) → place < count
    → IsEntry (entry_at entries place).path (entry_at entries place).before
    × (m (entry_path (first + place)) ≡ entry_file (entry_at entries place).path (entry_at entries place).before)

-- So many of the marks stand, from the first on.
abbrev pub AreMarked : ℕ → ℕ → Map → Type 0
AreMarked first count m = (k : ℕ) → IsAmong first count k → m (mark_path k) ≡ mark_file

-- There is room for the marks.
pub record HasRoomForMarks (s : Told) (first count : ℕ) : Type 0 where
  pub directory : s.now entries_path ≡ Some Dir
  pub nothing_below : (k : ℕ) → IsAmong first count k → NothingBelow s.now (mark_path k)

-- What stood is synced, and stands still.
pub record IsSync (s t : Told) : Type 0 where
  pub now : t.now ≡ s.now
  pub synced : t.synced ≡ s.now
  pub touched : t.touched ≡ []

-- All that stands is synced.
pub record IsAllSynced (t : Told) : Type 0 where
  pub synced : t.synced ≡ t.now
  pub touched : t.touched ≡ []

-- The entries' files stand and all is synced. Nothing else is changed.
pub record AreEntered (s : Told) (first : ℕ) (touches : List Touch) (t : Told) : Type 0 where
  pub files : AreFiled first (length touches) (entries_in_turn touches s.now) t.now
  pub elsewhere : (place : List (List ℕ)) → ¬ (IsFileAmong first (length touches) place) → t.now place ≡ s.now place
  pub all_synced : IsAllSynced t

-- The marks stand and all is synced. Nothing else is changed.
pub record AreCompleted (s : Told) (first count : ℕ) (t : Told) : Type 0 where
  pub marks : AreMarked first count t.now
  pub elsewhere : (place : List (List ℕ)) → ¬ (IsMarkAmong first count place) → t.now place ≡ s.now place
  pub all_synced : IsAllSynced t
