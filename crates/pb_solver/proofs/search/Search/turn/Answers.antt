use Rattle.std.proofs.Common.{arith}
use Rattle.pb_solver.proofs.SearchLaws.{on_err}
use Rattle.pb_solver.proofs.SpendingLaws.{spent_most}
use Rattle.pb_solver.proofs.search.Search.turn.Goals as goal

pub returns-in_err-ending-in-None-clause-err : goal.returns-in_err-ending-in-None-clause-err
returns-in_err-ending-in-None-clause-err g c =
    on_err c.from_residual-in_err-ending-in-None.result (omega (arith, spent_most c.args.self.now c.requires.settled.holds, c.in_err-ending-in-None.ensures.err))
