use Rattle.pb_solver.proofs.SpendingLaws.{spent_none}
use Rattle.pb_solver.proofs.search.Search.new.Goals as goal

pub returns-clause-spent : goal.returns-clause-spent
returns-clause-spent c = spent_none _ c.new-lines.ensures c.in_ok-levels.ensures.entries
