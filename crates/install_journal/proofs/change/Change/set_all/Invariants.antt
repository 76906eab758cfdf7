use Rattle.std.proofs.Common.{◌≡◌, ◌≤◌, take, drop}
use Rattle.folder_core.specs.Step.{OnTold, Step}
use Rattle.backup_store.specs.Turns.{set_in_turn}
use Rattle.install_journal.specs.Ahead.{IsAhead}
use Rattle.install_journal.specs.Restored.{RestoresSame}
use Rattle.install_journal.specs.Touching.{reached}
use Rattle.install_journal.proofs.change.Change.set_all.Given as goal

abbrev pub invariant-loop-place : goal.invariant-loop-place
invariant-loop-place g l = record {
  change : l.self ≡ reached l.place l.fn.self;
  ahead : OnTold (g.F.Folder.told l.folder) (IsAhead l.self (drop l.place l.fn.touches));
  now : Step (g.F.Folder.told l.fn.folder) (g.F.Folder.told l.folder) (λ s t. t.now ≡ set_in_turn (take l.place l.fn.touches) s.now);
  restores : RestoresSame g.F.Folder.told g.F.Folder.left_since l.fn.folder l.folder;
  later : g.F.Folder.faults l.fn.folder ≤ g.F.Folder.faults l.folder;
}
