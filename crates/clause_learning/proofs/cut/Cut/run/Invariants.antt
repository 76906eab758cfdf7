use Rattle.std.proofs.Common.{◌≡◌, ◌≤◌}
use Rattle.clause_learning.specs.Explained.{IsCut}
use Rattle.clause_learning.proofs.cut.Cut.run.Given as goal

abbrev pub invariant-loop-self : goal.invariant-loop-self
invariant-loop-self l = record {
  cut : IsCut l.trail l.self;
  bottom : l.self.bottom ≡ l.initial.self.bottom;
  stop : l.self.stop ≤ l.initial.self.stop;
}

abbrev pub decreases-loop-self : goal.decreases-loop-self
decreases-loop-self l = l.self.top
