use Rattle.deriv_check.proofs.UsedLaws.{MarkedFrom}
use Rattle.deriv_check.proofs.usage.reached.Given as goal

abbrev pub invariant-loop-i : goal.invariant-loop-i
invariant-loop-i l = MarkedFrom l.constraints l.lines l.i l.marks.items
