use Rattle.std.proofs.Common.{take}
use Rattle.unit_catalog.specs.Looking.{IsWanted, IsGreatestAmong}
use Rattle.unit_catalog.proofs.looking.greatest.Given as goal

-- the best of the numbers so far
abbrev pub invariant-loop-number : goal.invariant-loop-number
invariant-loop-number l = IsGreatestAmong l.units (IsWanted l.wanted l.env) (take l.number-index l.numbers) l.best
