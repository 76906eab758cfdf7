use Rattle.std.proofs.Common.{take}
use Rattle.std.specs.Prelude.{Contains}
use Rattle.unit_slicer.specs.WholeCatalog.{IsPart}
use Rattle.unit_slicer.proofs.rooting.kept.Given as goal

-- those so far that were found
abbrev pub invariant-loop-number : goal.invariant-loop-number
invariant-loop-number l = IsPart (Contains l.found.found) (take l.number-index l.numbers) l.kept
