use Rattle.std.proofs.Common.{◌∙◌}
use Rattle.std.proofs.lemmas.Result.{err_from_is_err_and}
use Rattle.director_source.proofs.GatherSteps.{unit_stops, unit_added, units_added}
use Rattle.director_source.proofs.gathering.Gathering.add_all.Goals as goal

pub returns-in_err-add-clause-refused : goal.returns-in_err-add-clause-refused
returns-in_err-add-clause-refused c =
    let p = err_from_is_err_and c.from_residual-in_err-add.result c.from_residual-in_err-add.ensures.1 in
    rw (p.1, p.2) (unit_stops c.args.self.now.catalog c.loop-unit.self.catalog c.items-unit-items.result.now c.args.more.now c.loop-unit.unit-index c.unit-item.result c.in_ok-copy.field-0 c.in_err-add.field-0.0 c.loop-unit-test.true c.unit-item.is c.in_ok-copy.ensures c.items-unit-items.ensures c.loop-unit.invariant.gives c.in_err-add.ensures.refused)

pub loop-unit-preserved : goal.loop-unit-preserved
loop-unit-preserved c = record {
  gathering = c.in_ok-add.ensures.is;
  same = c.in_ok-add.ensures.same ∙ c.loop-unit.invariant.same;
  gives = unit_added c.args.self.now.catalog c.loop-unit.self.catalog c.add.new.self.catalog c.items-unit-items.result.now c.loop-unit.unit-index c.unit-item.result c.in_ok-copy.field-0 c.loop-unit-test.true c.unit-item.is c.in_ok-copy.ensures c.loop-unit.invariant.gives c.in_ok-add.ensures.found;
}

pub returns-clause-found : goal.returns-clause-found
returns-clause-found c =
    units_added c.args.self.now.catalog c.loop-unit.self.catalog c.items-unit-items.result.now c.args.more.now c.loop-unit.unit-index c.loop-unit-test.false c.items-unit-items.ensures c.loop-unit.invariant.gives
