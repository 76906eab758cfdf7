use Rattle.std.proofs.Common.{◌≤◌}
use Rattle.folder_core.specs.Crash.{LeavesOnly}
use Rattle.folder_core.specs.Step.{OnTold, Step}
use Rattle.backup_store.specs.KeepingAll.{IsMarkAmong, TouchesOnly, IsImageBut}
use Rattle.backup_store.specs.Filing.{AreMarked}
use Rattle.backup_store.proofs.keeping_all.file_marks.Given as goal

abbrev pub invariant-loop-place : goal.invariant-loop-place
invariant-loop-place g l = record {
  marks : Step (g.F.Folder.told l.fn.folder) (g.F.Folder.told l.folder) (λ s t. AreMarked l.fn.first.0 l.place t.now);
  only : Step (g.F.Folder.told l.fn.folder) (g.F.Folder.told l.folder) (TouchesOnly (IsMarkAmong l.fn.first.0 l.place));
  leaves : OnTold (g.F.Folder.told l.fn.folder) (λ s. LeavesOnly g.F.Folder.told g.F.Folder.left_since l.fn.folder l.folder (IsImageBut (IsMarkAmong l.fn.first.0 l.fn.count) s));
  later : g.F.Folder.faults l.fn.folder ≤ g.F.Folder.faults l.folder;
}
