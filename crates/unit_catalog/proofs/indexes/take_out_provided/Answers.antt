use Rattle.unit_catalog.proofs.indexes.take_out_provided.Goals as goal

pub loop-capability-preserved : goal.loop-capability-preserved
loop-capability-preserved c = record {
  rising = c.take_out.ensures.rising;
  kept = λ key n below has. c.take_out.ensures.kept key n below (c.loop-capability.invariant.kept key n below has);
}
