use Rattle.std.proofs.Common.{arith}
use Rattle.pb_solver.proofs.SearchLaws.{on_err}
use Rattle.pb_solver.proofs.SpendingLaws.{most_spent-same}
use Rattle.pb_solver.proofs.search.Search.run.Goals as goal

pub returns-in_err-ending-clause-err : goal.returns-in_err-ending-clause-err
returns-in_err-ending-clause-err g c =
    on_err c.from_residual.result (omega (arith, most_spent-same c.args.self.now c.loop-ending.self c.loop-ending.invariant.same, c.loop-ending.invariant.steps, c.in_err-ending.ensures.err))
