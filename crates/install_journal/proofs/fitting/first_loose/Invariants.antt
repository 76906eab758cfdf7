use Rattle.std.proofs.Common.{ℕ, ◌<◌, ◌≤◌, get_or}
use Rattle.folder_core.specs.Step.{OnTold}
use Rattle.install_journal.specs.Fitting.{AreInOrder, HangsLoose}
use Rattle.install_journal.specs.Looks.{OnlyLooks}
use Rattle.install_journal.proofs.FittingsOrder.{no_oldest}
use Rattle.install_journal.proofs.fitting.first_loose.Given as goal

abbrev pub invariant-loop-one : goal.invariant-loop-one
invariant-loop-one g l = record {
  looks : OnlyLooks g.F.Folder.told g.F.Folder.left_since l.fn.folder l.folder;
  later : g.F.Folder.faults l.fn.folder ≤ g.F.Folder.faults l.folder;
  none : (k : ℕ) → k < l.one-index → OnTold (g.F.Folder.told l.fn.folder) (λ s. AreInOrder l.oldest → ¬ (HangsLoose l.oldest s.now (get_or l.oldest k no_oldest)));
}
