use Rattle.std.proofs.Common.{◌≡◌, length, map, take, replicate, None}
use Rattle.pb_core.specs.AtLeast.{at_least}
use Rattle.pb_core.proofs.kept.Kept.new.Given as goal

abbrev pub invariant-loop-constraint : goal.invariant-loop-constraint
invariant-loop-constraint l =
    (l.kept.constraints ≡ map at_least (take l.constraint-index l.problem.constraints)) × (l.kept.values ≡ replicate (length l.problem.labels) None)
