use Rattle.std.proofs.Common.{◌≡◌, take}
use Rattle.pb_solver.specs.Values.{truths}
use Rattle.p2_planner.specs.Selecting.{picked}
use Rattle.p2_planner.proofs.choosing.chosen.Given as goal

-- those so far whose variables are true
abbrev pub invariant-loop-place : goal.invariant-loop-place
invariant-loop-place l = l.members ≡ picked (truths l.values) (take l.place l.numbers)
