use Rattle.std.proofs.Common.{◌-◌, ◌≤◌}
use Rattle.folder_core.specs.Step.{OnTold}
use Rattle.install_journal.specs.Looks.{OnlyLooks}
use Rattle.install_journal.specs.Reading.{IsReadTo}
use Rattle.install_journal.proofs.reading.read_all.Given as goal

abbrev pub invariant-entries : goal.invariant-entries
invariant-entries g l = record {
  looks : OnlyLooks g.F.Folder.told g.F.Folder.left_since l.fn.folder l.folder;
  later : g.F.Folder.faults l.fn.folder ≤ g.F.Folder.faults l.folder;
  read : OnTold (g.F.Folder.told l.fn.folder) (λ s. IsReadTo s.now l.gathered);
}

abbrev pub decreases-entries : goal.decreases-entries
decreases-entries g l = 1000000 - l.gathered.count
