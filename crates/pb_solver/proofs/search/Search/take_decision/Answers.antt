use Rattle.std.proofs.Common.{arith}
use Rattle.pb_solver.specs.SearchHolds.{IsSameSearch}
use Rattle.pb_solver.proofs.SpendingLaws.{fewer_decided, spent_agenda}
use Rattle.pb_solver.proofs.search.Search.take_decision.Goals as goal

pub returns-in_default-clause-steps : goal.returns-in_default-clause-steps
returns-in_default-clause-steps g c = omega (arith, spent_agenda c.args.self.now c.next_open.new.self)

pub returns-clause-turn : goal.returns-clause-turn
returns-clause-turn g c =
    let same : IsSameSearch c.args.self.now c.decide.new.self = record {
      problem = c.in_ok-decide.ensures.same.problem;
      variables = c.in_ok-decide.ensures.same.variables;
      wanted = c.in_ok-decide.ensures.same.wanted;
      budget = c.in_ok-decide.ensures.same.budget;
    } in
    record {
      settled = c.in_ok-decide.ensures.holds;
      same = same;
      fewer = fewer_decided c.args.self.now c.decide.new.self c.in_ok-decide.ensures.holds.holds same c.in_ok-decide.ensures.lines c.in_ok-decide.ensures.grows;
    }

pub returns-clause-steps : goal.returns-clause-steps
returns-clause-steps g c = omega (arith, spent_agenda c.args.self.now c.next_open.new.self, c.in_ok-decide.ensures.steps)
