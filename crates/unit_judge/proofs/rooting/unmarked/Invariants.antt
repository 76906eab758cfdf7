use Rattle.std.proofs.Common.{ℕ, ◌<◌}
use Rattle.unit_judge.specs.Reaching.{IsMarked}
use Rattle.unit_judge.proofs.rooting.unmarked.Given as goal

-- each unit so far is marked
abbrev pub invariant-loop-number : goal.invariant-loop-number
invariant-loop-number l = (k : ℕ) → k < l.number → IsMarked l.marks k
