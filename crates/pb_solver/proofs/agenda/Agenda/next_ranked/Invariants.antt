use Rattle.std.proofs.Common.{length}
use Rattle.pb_solver.proofs.agenda.Agenda.next_ranked.Given as goal

abbrev pub decreases-loop-variable : goal.decreases-loop-variable
decreases-loop-variable l = length l.self.ranking.heap.items
