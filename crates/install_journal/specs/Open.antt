-- How a change stands to its folder.
use Rattle.std.specs.Prelude.{◌≡◌, ℕ, ◌≤◌, true, List, length}
use Rattle.folder_core.specs.Folder.{Map, Told}
use Rattle.backup_store.specs.declared.entry.Entry.{Entry}
use Rattle.install_journal.specs.Kept.{AreKept, Undoes}
use Rattle.install_journal.specs.declared.change.Change.{Change}

-- The change was begun in this folder: its entries are kept there, and lead back to the old installation.
pub record IsOpen (change : Change) (s : Told) : Type 0 where
  pub entries : List Entry
  pub behind : ℕ
  pub old : Map
  pub count : length entries ≡ change.kept
  pub left : change.left ≤ change.kept
  pub kept : AreKept entries behind old s
  pub undoes : Undoes entries change.left s.now old
  pub all_left : change.ready ≡ true → change.left ≡ change.kept
  pub free : change.ready ≡ true → behind ≡ 0

-- the change after a call on it failed, found no memory or met damage
abbrev pub spoiled : Change → Change
spoiled change = record change { failed = true }

-- Such a call was made on it.
abbrev pub IsSpoiled : Change → Type 0
IsSpoiled change = change.failed ≡ true

-- No touch of it was refused, nothing of it was put back, and it has kept at most a million entries.
pub record IsReady (change : Change) : Type 0 where
  pub ready : change.ready ≡ true
  pub all_left : change.left ≡ change.kept
  pub most : change.kept ≤ 1000000

-- how many entries it has kept
abbrev pub entries_of : Change → ℕ
entries_of change = change.kept

-- how many of them aren't put back
abbrev pub left_of : Change → ℕ
left_of change = change.left
