-- What stands while touches are done whose entries are kept. Only clauses of private functions cite this.
use Rattle.std.specs.Prelude.{◌≡◌, ◌≢◌, ℕ, ◌+◌, ◌<◌, List, length, take}
use Rattle.folder_core.specs.Folder.{Map, Told, SameBut}
use Rattle.folder_core.specs.declared.node.Touch.{Touch}
use Rattle.backup_store.specs.Turns.{CanSetInTurn, entries_in_turn, set_in_turn}
use Rattle.backup_store.specs.declared.entry.Entry.{Entry}
use Rattle.install_journal.specs.Kept.{AreKept, Undoes}
use Rattle.install_journal.specs.Overlay.{entry_at}
use Rattle.install_journal.specs.Touching.{touch_at}
use Rattle.install_journal.specs.declared.change.Change.{Change}
use Rattle.install_journal.specs.declared.fault.TouchFault.{TouchFault}
use Rattle.install_journal.specs.declared.fault.TouchFault.TheVariants.{Failed}

-- The change was begun in this folder, and the newest of its entries are of these touches, none of which is done.
pub record IsAhead (change : Change) (touches : List Touch) (s : Told) : Type 0 where
  pub entries : List Entry
  pub old : Map
  pub count : length entries ≡ change.kept
  pub left : change.left + length touches ≡ change.kept
  pub kept : AreKept entries 0 old s
  pub undoes : Undoes entries change.left s.now old
  pub ahead : (place : ℕ) → place < length touches → entry_at entries (change.left + place) ≡ entry_at (entries_in_turn touches s.now) place
  pub can_set : CanSetInTurn touches s.now

-- A touch of the path was refused: nothing else is changed, and only a failing folder changes the path.
pub record IsCut (fault : TouchFault) (path : List (List ℕ)) (old new : Map) : Type 0 where
  pub elsewhere : SameBut path old new
  pub untouched : fault ≢ Failed → new ≡ old

-- So many of the touches were done, and the next was refused.
abbrev pub IsCutAt : TouchFault → ℕ → List Touch → Map → Map → Type 0
IsCutAt fault done touches old new = IsCut fault (touch_at touches done).path (set_in_turn (take done touches) old) new
