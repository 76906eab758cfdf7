use Rattle.std.proofs.Common.{◌≡◌, ◌≤◌, drop}
use Rattle.folder_core.specs.Step.{OnTold}
use Rattle.inf_reader.specs.Readings.{Readings, ReadsAll}
use Rattle.director_source.specs.Gathering.{IsGathering, gathered_in}
use Rattle.director_source.specs.Source.{gathered, nothing_gathered}
use Rattle.director_source.proofs.source.read_source.Given as goal

-- what was gathered of the folders so far, and the folders that are left
abbrev pub invariant-loop-folder : goal.invariant-loop-folder
invariant-loop-folder g l = record {
  gathering : IsGathering l.so_far;
  stays : g.T.Tree.told l.source ≡ g.T.Tree.told l.fn.source;
  later : g.T.Tree.faults l.fn.source ≤ g.T.Tree.faults l.source;
  gives : OnTold (g.T.Tree.told l.fn.source) (λ files. (read : Readings) → ReadsAll read
      → gathered read files nothing_gathered l.folder-items ≡ gathered read files (gathered_in l.so_far) (drop l.folder-index l.folder-items));
}
