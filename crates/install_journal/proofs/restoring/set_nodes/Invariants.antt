use Rattle.std.proofs.Common.{◌≤◌}
use Rattle.folder_core.specs.Step.{OnTold, Step}
use Rattle.install_journal.specs.Restored.{RestoresSame}
use Rattle.install_journal.specs.Restoring.{KeepsTo}
use Rattle.install_journal.proofs.PutSteps.{AreSet}
use Rattle.install_journal.proofs.restoring.set_nodes.Given as goal

abbrev pub invariant-loop-oldest : goal.invariant-loop-oldest
invariant-loop-oldest g l = record {
  set : OnTold (g.F.Folder.told l.folder) (AreSet l.fn.plan l.oldest-index);
  keeps : Step (g.F.Folder.told l.fn.folder) (g.F.Folder.told l.folder) (KeepsTo l.fn.plan);
  restores : RestoresSame g.F.Folder.told g.F.Folder.left_since l.fn.folder l.folder;
  later : g.F.Folder.faults l.fn.folder ≤ g.F.Folder.faults l.folder;
}
