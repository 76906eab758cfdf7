use Rattle.std.proofs.Common.{◌≡◌, ◌++◌, take}
use Rattle.p2_planner.specs.Roots.{below}
use Rattle.p2_planner.proofs.roots.push_below.Given as goal

-- those of the names so far
abbrev pub invariant-loop-other : goal.invariant-loop-other
invariant-loop-other l = l.joined ≡ l.initial.joined ++ below l.name (take l.other-index l.names)
