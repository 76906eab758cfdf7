use Rattle.std.proofs.Common.{ℕ, ◌<◌, [], ◌∷◌, ◌++◌, get_or}
use Rattle.folder_core.specs.Step.{OnTold}
use Rattle.install_journal.specs.Fitting.{AreInOrder, IsBareChild}
use Rattle.install_journal.proofs.fitting.uncovered_child.Given as goal

abbrev pub invariant-loop-name : goal.invariant-loop-name
invariant-loop-name g l = (k : ℕ) → k < l.name-index → OnTold (g.F.Folder.told l.fn.folder) (λ s. AreInOrder l.oldest → ¬ (IsBareChild l.oldest s.now l.above (l.above ++ get_or l.names k [] ∷ [])))
