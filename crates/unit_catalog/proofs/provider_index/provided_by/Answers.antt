use Rattle.std.proofs.Common.{◌+◌, List, subst, arith}
use Rattle.unit_model.specs.declared.provided.Provided.{Provided}
use Rattle.unit_catalog.specs.Entered.{AreEntered}
use Rattle.unit_catalog.proofs.Following.{led_more, led_all}
use Rattle.unit_catalog.proofs.Numbers.{rises_higher}
use Rattle.unit_catalog.proofs.provider_index.provided_by.Goals as goal

pub enter_provided-requires : goal.enter_provided-requires
enter_provided-requires c = λ key. rises_higher c.loop-place.place (c.loop-place.place + 1) _ (omega arith) (c.loop-place.invariant.rise key)

pub loop-place-preserved : goal.loop-place-preserved
loop-place-preserved c = record {
  rise = c.enter_provided.ensures.rising;
  lead = led_more c.args.units.now c.loop-place.index c.enter_provided.new.index c.loop-place.place c.index-units-place.result c.loop-place-test.true c.index-units-place.is
      c.loop-place.invariant.lead c.enter_provided.ensures.kept
      (subst (λ (l : List Provided). AreEntered c.enter_provided.new.index l c.loop-place.place) c.items.ensures c.in_ok-enter_provided.ensures.has);
}

pub returns : goal.returns
returns c = led_all c.args.units.now c.loop-place.index c.loop-place.place c.loop-place.invariant.rise c.loop-place.invariant.lead c.loop-place-test.false
