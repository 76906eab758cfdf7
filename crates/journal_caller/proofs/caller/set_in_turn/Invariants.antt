use Rattle.std.proofs.Common.{◌≤◌, drop}
use Rattle.folder_core.specs.Step.{OnTold, Step}
use Rattle.journal_caller.specs.Calls.{AreTouches, IsOnTheWay, KeepsOld}
use Rattle.install_journal.specs.Open.{IsOpen, IsReady}
use Rattle.journal_caller.proofs.caller.set_in_turn.Given as goal

abbrev pub invariant-loop-touch : goal.invariant-loop-touch
invariant-loop-touch g l = record {
  ready : IsReady l.change;
  began : OnTold (g.F.Folder.told l.folder) (IsOpen l.change);
  keeps : KeepsOld g.F.Folder.told g.F.Folder.left_since l.fn.folder l.folder;
  touches : AreTouches (drop l.touch-index l.touches);
  way : Step (g.F.Folder.told l.fn.folder) (g.F.Folder.told l.folder) (IsOnTheWay l.touches (drop l.touch-index l.touches));
  later : g.F.Folder.faults l.fn.folder ≤ g.F.Folder.faults l.folder;
}
