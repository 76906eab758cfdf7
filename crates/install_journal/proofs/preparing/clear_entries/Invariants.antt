use Rattle.std.proofs.Common.{◌≡◌, ◌≤◌, ◌<◌, ℕ, [], ◌∷◌, ◌++◌, Some, None, get_or}
use Rattle.folder_core.specs.Folder.{IsKid}
use Rattle.folder_core.specs.Name.{AreThose}
use Rattle.folder_core.specs.Node.{entries_path}
use Rattle.folder_core.specs.Step.{OnTold, Step}
use Rattle.folder_core.specs.declared.node.Node.TheVariants.{Dir}
use Rattle.install_journal.specs.Preparing.{Moves, LeavesClosed, SparesGate}
use Rattle.install_journal.proofs.Clearings.{OnlyLoses}
use Rattle.install_journal.proofs.preparing.clear_entries.Given as goal

abbrev pub invariant-loop-name : goal.invariant-loop-name
invariant-loop-name g l = record {
  moves : Step (g.F.Folder.told l.fn.folder) (g.F.Folder.told l.folder) Moves;
  leaves : LeavesClosed g.F.Folder.told g.F.Folder.left_since l.fn.folder l.folder;
  later : g.F.Folder.faults l.fn.folder ≤ g.F.Folder.faults l.folder;
  kids : OnTold (g.F.Folder.told l.fn.folder) (λ s. AreThose (IsKid s.now l.fn.entries) l.names);
  loses : Step (g.F.Folder.told l.fn.folder) (g.F.Folder.told l.folder) (λ s t. OnlyLoses s.now t.now);
  spares : Step (g.F.Folder.told l.fn.folder) (g.F.Folder.told l.folder) (λ s t. SparesGate s.now t.now);
  directory : OnTold (g.F.Folder.told l.folder) (λ t. t.now entries_path ≡ Some Dir);
  gone : (place : ℕ) → place < l.name-index → OnTold (g.F.Folder.told l.folder) (λ t. t.now (l.fn.entries ++ get_or l.names place [] ∷ []) ≡ None);
}
