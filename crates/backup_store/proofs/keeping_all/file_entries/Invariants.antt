use Rattle.std.proofs.Common.{◌≤◌, length}
use Rattle.folder_core.specs.Crash.{LeavesOnly}
use Rattle.folder_core.specs.Step.{OnTold, Step}
use Rattle.backup_store.specs.KeepingAll.{IsFileAmong, TouchesOnly, IsImageBut}
use Rattle.backup_store.specs.Filing.{AreFiled}
use Rattle.backup_store.specs.Turns.{entries_in_turn}
use Rattle.backup_store.proofs.keeping_all.file_entries.Given as goal

abbrev pub invariant-loop-place : goal.invariant-loop-place
invariant-loop-place g l = record {
  files : Step (g.F.Folder.told l.fn.folder) (g.F.Folder.told l.folder) (λ s t. AreFiled l.fn.first.0 l.place (entries_in_turn l.fn.touches s.now) t.now);
  only : Step (g.F.Folder.told l.fn.folder) (g.F.Folder.told l.folder) (TouchesOnly (IsFileAmong l.fn.first.0 (length l.fn.touches)));
  leaves : OnTold (g.F.Folder.told l.fn.folder) (λ s. LeavesOnly g.F.Folder.told g.F.Folder.left_since l.fn.folder l.folder (IsImageBut (IsFileAmong l.fn.first.0 (length l.fn.touches)) s));
  later : g.F.Folder.faults l.fn.folder ≤ g.F.Folder.faults l.folder;
}
