use Rattle.clause_learning.specs.Explained.{IsCut}
use Rattle.clause_learning.specs.Marks.{KeepsFrom}
use Rattle.clause_learning.proofs.cut.Cut.shorten.Given as goal

abbrev pub invariant-loop-place : goal.invariant-loop-place
invariant-loop-place l = record {
  cut : IsCut l.trail l.self;
  keeps : KeepsFrom l.trail l.before l.initial.self l.self;
}
