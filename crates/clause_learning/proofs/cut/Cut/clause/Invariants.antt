use Rattle.clause_learning.specs.Collected.{IsCollected}
use Rattle.clause_learning.proofs.cut.Cut.clause.Given as goal

abbrev pub invariant-loop-place : goal.invariant-loop-place
invariant-loop-place l = IsCollected l.trail l.self l.place l.lits
