use Rattle.std.proofs.Common.{◌+◌}
use Rattle.unit_catalog.specs.Listed.{AreRising, KeepsBelow}
use Rattle.unit_catalog.proofs.indexes.take_out_provided.Given as goal

-- no lower number is lost
abbrev pub invariant-loop-capability : goal.invariant-loop-capability
invariant-loop-capability l = record {
  rising : AreRising (l.number + 1) l.index;
  kept : KeepsBelow l.number l.initial.index l.index;
}
