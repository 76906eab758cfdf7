use Rattle.std.proofs.Common.{◌+◌, ◌≤◌}
use Rattle.pb_solver.specs.SearchHolds.{IsSettledSearch, IsSameSearch}
use Rattle.pb_solver.specs.Spending.{spent, turns_left}
use Rattle.pb_solver.proofs.search.Search.run.Given as goal

abbrev pub invariant-loop-ending : goal.invariant-loop-ending
invariant-loop-ending g l = record {
  settled : IsSettledSearch l.self;
  same : IsSameSearch l.initial.self l.self;
  steps : l.steps + spent l.initial.self ≤ l.initial.steps + spent l.self;
}

abbrev pub decreases-loop-ending : goal.decreases-loop-ending
decreases-loop-ending g l = turns_left l.self
