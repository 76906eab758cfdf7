use Rattle.std.proofs.Common.{◌≤◌}
use Rattle.folder_core.specs.Step.{OnTold}
use Rattle.install_journal.specs.Firsts.{Finds}
use Rattle.install_journal.specs.Fitting.{AreInOrder}
use Rattle.install_journal.specs.Looks.{OnlyLooks}
use Rattle.install_journal.proofs.FittingsFirst.{IsBareAmong}
use Rattle.install_journal.proofs.fitting.first_uncovered.Given as goal

abbrev pub invariant-loop-one : goal.invariant-loop-one
invariant-loop-one g l = record {
  looks : OnlyLooks g.F.Folder.told g.F.Folder.left_since l.fn.folder l.folder;
  later : g.F.Folder.faults l.fn.folder ≤ g.F.Folder.faults l.folder;
  found : OnTold (g.F.Folder.told l.fn.folder) (λ s. AreInOrder l.oldest → Finds (IsBareAmong l.oldest s.now l.one-index) l.found);
}
