use Rattle.std.proofs.Common.{◌≡◌, ◌-◌, ◌≤◌}
use Rattle.folder_core.specs.Step.{OnTold, Step}
use Rattle.install_journal.specs.Open.{IsOpen}
use Rattle.install_journal.specs.Restored.{RestoresSame}
use Rattle.install_journal.specs.Undoing.{PutsBackFrom, shortened}
use Rattle.install_journal.proofs.change.Change.undo_down_to.Given as goal

abbrev pub invariant-entries : goal.invariant-entries
invariant-entries g l = record {
  change : l.self ≡ shortened l.self.left l.fn.self;
  rest : l.rest ≤ l.self.left;
  most : l.self.left ≤ l.fn.self.left;
  began : OnTold (g.F.Folder.told l.folder) (IsOpen l.self);
  restores : RestoresSame g.F.Folder.told g.F.Folder.left_since l.fn.folder l.folder;
  puts : Step (g.F.Folder.told l.fn.folder) (g.F.Folder.told l.folder) (λ s t. PutsBackFrom (l.fn.self.left - l.self.left) l.fn.self.left s.now t.now);
  later : g.F.Folder.faults l.fn.folder ≤ g.F.Folder.faults l.folder;
}

abbrev pub decreases-entries : goal.decreases-entries
decreases-entries g l = l.self.left
