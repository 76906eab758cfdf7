use Rattle.std.proofs.Common.{◌+◌, ◌-◌, length}
use Rattle.unit_judge.specs.Reaching.{unmarked}
use Rattle.unit_judge.proofs.Chained.{IsClosing}
use Rattle.unit_judge.proofs.rooting.close.Given as goal

-- the first of the order were followed
abbrev pub invariant-loop-number : goal.invariant-loop-number
invariant-loop-number l = IsClosing l.index l.env l.initial.reached l.reached l.next

abbrev pub decreases-loop-number : goal.decreases-loop-number
decreases-loop-number l = unmarked l.reached.marks.items + length l.reached.order.items - l.next
