use Rattle.std.proofs.Common.{take}
use Rattle.pb_encode.specs.UnitsOf.{numbers_of}
use Rattle.p2_planner.specs.Preferring.{ArePreferred}
use Rattle.p2_planner.proofs.preferring.variables_of.Given as goal

-- the variables of the numbers so far
abbrev pub invariant-loop-number : goal.invariant-loop-number
invariant-loop-number l = ArePreferred (numbers_of l.members) (take l.number-index l.installed) l.found
