use Rattle.std.proofs.Common.{◌-◌, length}
use Rattle.pb_solver.proofs.agenda.Agenda.next_of_sequence.Given as goal

abbrev pub decreases-loop-self : goal.decreases-loop-self
decreases-loop-self l = length l.self.sequence.items - l.self.next
