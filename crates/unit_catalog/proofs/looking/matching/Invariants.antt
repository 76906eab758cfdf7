use Rattle.std.proofs.Common.{take}
use Rattle.unit_catalog.specs.Looking.{AreMatching}
use Rattle.unit_catalog.proofs.looking.matching.Given as goal

-- those of the numbers so far that match
abbrev pub invariant-loop-number : goal.invariant-loop-number
invariant-loop-number l = AreMatching l.units l.required (take l.number-index l.numbers) l.found.items
