use Rattle.std.proofs.Common.{◌≤◌, ◌<◌, ℕ, [], ◌∷◌, ◌++◌, None, get_or}
use Rattle.folder_core.specs.Folder.{IsKid}
use Rattle.folder_core.specs.Name.{AreThose}
use Rattle.folder_core.specs.Step.{OnTold}
use Rattle.install_journal.specs.Looks.{OnlyLooks}
use Rattle.install_journal.specs.Preparing.{IsChild}
use Rattle.install_journal.proofs.damage.below_entries.Given as goal

abbrev pub invariant-loop-name : goal.invariant-loop-name
invariant-loop-name g l = record {
  looks : OnlyLooks g.F.Folder.told g.F.Folder.left_since l.fn.folder l.folder;
  later : g.F.Folder.faults l.fn.folder ≤ g.F.Folder.faults l.folder;
  kids : OnTold (g.F.Folder.told l.fn.folder) (λ s. AreThose (IsKid s.now l.fn.entries) l.names);
  none : (place : ℕ) → place < l.name-index → OnTold (g.F.Folder.told l.fn.folder) (λ s. IsChild s.now (l.fn.entries ++ get_or l.names place [] ∷ []) None);
}
