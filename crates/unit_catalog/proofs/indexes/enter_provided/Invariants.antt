use Rattle.std.proofs.Common.{◌+◌, take}
use Rattle.unit_catalog.specs.Entered.{AreEntered}
use Rattle.unit_catalog.specs.Listed.{AreRising, Keeps}
use Rattle.unit_catalog.proofs.indexes.enter_provided.Given as goal

-- the capabilities so far lead to the number, and nothing is lost
abbrev pub invariant-loop-capability : goal.invariant-loop-capability
invariant-loop-capability l = record {
  has : AreEntered l.index (take l.capability-index l.provided) l.number;
  rising : AreRising (l.number + 1) l.index;
  kept : Keeps l.initial.index l.index;
}
