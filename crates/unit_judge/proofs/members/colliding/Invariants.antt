use Rattle.unit_judge.proofs.Collisions.{AreGrouped}
use Rattle.unit_judge.proofs.members.colliding.Given as goal

-- the units so far don't collide, and those from `first` on have the id of the last
abbrev pub invariant-loop-place : goal.invariant-loop-place
invariant-loop-place l = AreGrouped l.units l.first l.place
