-- What keeping entries does to a folder, and what a crash leaves of it.
use Rattle.std.specs.Prelude.{◌≡◌, ◌⊎◌, ℕ, ◌+◌, ◌<◌, ◌≤◌, List, [], length, Some, None, Contains}
use Rattle.folder_core.specs.Folder.{Map, Told, IsFormed, NothingBelow}
use Rattle.folder_core.specs.Node.{entries_path}
use Rattle.folder_core.specs.declared.node.Node.TheVariants.{File, Dir}
use Rattle.folder_core.specs.declared.node.Touch.{Touch}
use Rattle.backup_store.specs.EntryText.{entry_text}
use Rattle.backup_store.specs.Held.{mark_text, Counts, HoldsEntry}
use Rattle.backup_store.specs.Places.{entry_path, mark_path}
use Rattle.backup_store.specs.Turns.{entries_in_turn, entry_at}
use Rattle.backup_store.specs.declared.entry.Entry.{Entry}

-- one of so many numbers, from the first on
pub record IsAmong (first count k : ℕ) : Type 0 where
  pub from : first ≤ k
  pub below : k < first + count

-- the file of one of these entries
abbrev pub IsFileAmong : ℕ → ℕ → List (List ℕ) → Type 0
IsFileAmong first count place = (k : ℕ) × (IsAmong first count k × (place ≡ entry_path k))

-- the mark of one of these entries
abbrev pub IsMarkAmong : ℕ → ℕ → List (List ℕ) → Type 0
IsMarkAmong first count place = (k : ℕ) × (IsAmong first count k × (place ≡ mark_path k))

-- Nothing stands at the entry's mark.
abbrev pub HasNoMark : ℕ → Map → Type 0
HasNoMark k m = m (mark_path k) ≡ None

abbrev pub HaveNoMarks : ℕ → ℕ → Map → Type 0
HaveNoMarks first count m = (k : ℕ) → IsAmong first count k → HasNoMark k m

-- There is room for the entries and their marks.
pub record HasRoom (s : Told) (first count : ℕ) : Type 0 where
  pub directory : s.now entries_path ≡ Some Dir
  pub nothing_below : (k : ℕ) → IsAmong first count k → NothingBelow s.now (entry_path k)

-- The maps differ at the entries and their marks at most.
abbrev pub SameButEntries : ℕ → ℕ → Map → Map → Type 0
SameButEntries first count old new =
    (place : List (List ℕ)) → ¬ (IsFileAmong first count place) → ¬ (IsMarkAmong first count place) → new place ≡ old place

-- The files of the entries are there whole.
abbrev pub HoldEntries : Map → ℕ → List Entry → Type 0
HoldEntries m first entries =
    (place : ℕ) → place < length entries → HoldsEntry m (first + place) (entry_at entries place).path (entry_at entries place).before

-- Paths with P alone may have been touched, and nothing was synced.
pub record TouchesOnly (P : List (List ℕ) → Type 0) (s t : Told) : Type 0 where
  pub synced : t.synced ≡ s.synced
  pub touched : (place : List (List ℕ)) → Contains t.touched place → Contains s.touched place ⊎ P place
  pub kept : (place : List (List ℕ)) → Contains s.touched place → Contains t.touched place
  pub elsewhere : (place : List (List ℕ)) → ¬ (P place) → t.now place ≡ s.now place

-- But at the paths with P, where any node or none may stand, the map is one that a crash may leave.
pub record IsImageBut (P : List (List ℕ) → Type 0) (s : Told) (m : Map) : Type 0 where
  pub formed : IsFormed m
  pub untouched : (place : List (List ℕ)) → ¬ (Contains s.touched place) → ¬ (P place) → m place ≡ s.synced place

-- A crash left nothing of the entries that counts: their marks aren't there. But for the files of the entries, the map is
-- one that a crash before may have left.
pub record AreUnmarked (s : Told) (first count : ℕ) (m : Map) : Type 0 where
  pub no_marks : HaveNoMarks first count m
  pub image : IsImageBut (IsFileAmong first count) s m

-- All that stood has been synced, and the entries of these touches are there whole. Each mark may be there or not.
pub record AreWritten (s : Told) (first : ℕ) (touches : List Touch) (m : Map) : Type 0 where
  pub formed : IsFormed m
  pub elsewhere : SameButEntries first (length touches) s.now m
  pub holds : HoldEntries m first (entries_in_turn touches s.now)

-- What a crash may leave at any moment while the entries are kept.
abbrev pub LeavesEntries : Told → ℕ → List Touch → Map → Type 0
LeavesEntries s first touches m = AreUnmarked s first (length touches) m ⊎ AreWritten s first touches m

-- The entries have been synced, and their marks alone may have been touched since.
pub record AreSynced (s : Told) (first : ℕ) (touches : List Touch) (t : Told) : Type 0 where
  pub written : AreWritten s first touches t.synced
  pub touched : (place : List (List ℕ)) → Contains t.touched place → IsMarkAmong first (length touches) place
  pub elsewhere : SameButEntries first (length touches) s.now t.now

-- How far the keeping came: to the files of the entries, or to their marks.
abbrev pub HaveCome : Told → ℕ → List Touch → Told → Type 0
HaveCome s first touches t = TouchesOnly (IsFileAmong first (length touches)) s t ⊎ AreSynced s first touches t

-- The entries and their marks stand, and all is synced.
pub record AreAllKept (s : Told) (first : ℕ) (touches : List Touch) (t : Told) : Type 0 where
  pub elsewhere : SameButEntries first (length touches) s.now t.now
  pub entries : (place : ℕ) → place < length touches → t.now (entry_path (first + place))
      ≡ Some (File 420 (entry_text (entry_at (entries_in_turn touches s.now) place).path (entry_at (entries_in_turn touches s.now) place).before))
  pub marks : (k : ℕ) → IsAmong first (length touches) k → t.now (mark_path k) ≡ Some (File 420 mark_text)
  pub synced : t.synced ≡ t.now
  pub settled : t.touched ≡ []

-- The entries count.
pub record AllCount (m : Map) (first : ℕ) (entries : List Entry) : Type 0 where
  pub counts : (k : ℕ) → IsAmong first (length entries) k → Counts m k
  pub holds : HoldEntries m first entries
