use Rattle.std.proofs.Common.{take}
use Rattle.pb_encode.specs.Places.{AreFound}
use Rattle.pb_encode.specs.UnitsOf.{numbers_of}
use Rattle.pb_encode.proofs.members.Members.variables_of.Given as goal

-- the variables of the numbers so far
abbrev pub invariant-loop-number : goal.invariant-loop-number
invariant-loop-number l = AreFound (numbers_of l.self) (take l.number-index l.numbers) l.found.items
