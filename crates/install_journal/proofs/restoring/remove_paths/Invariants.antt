use Rattle.std.proofs.Common.{◌≤◌}
use Rattle.folder_core.specs.Step.{OnTold, Step}
use Rattle.install_journal.specs.Restored.{RestoresSame}
use Rattle.install_journal.specs.Restoring.{KeepsTo}
use Rattle.install_journal.proofs.PutSteps.{AreGone}
use Rattle.install_journal.proofs.restoring.remove_paths.Given as goal

abbrev pub invariant-loop-place : goal.invariant-loop-place
invariant-loop-place g l = record {
  gone : OnTold (g.F.Folder.told l.folder) (AreGone l.fn.plan l.place);
  keeps : Step (g.F.Folder.told l.fn.folder) (g.F.Folder.told l.folder) (KeepsTo l.fn.plan);
  restores : RestoresSame g.F.Folder.told g.F.Folder.left_since l.fn.folder l.folder;
  later : g.F.Folder.faults l.fn.folder ≤ g.F.Folder.faults l.folder;
}
