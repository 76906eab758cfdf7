use Rattle.std.proofs.Common.{◌≡◌}
use Rattle.std.specs.Prelude.{Some}
use Rattle.std.proofs.lemmas.Option.{MatchOption-at_some}
use Rattle.unit_judge.proofs.Leads.{unserved_here}
use Rattle.unit_judge.proofs.needs.unserved.Goals as goal

pub returns-in-Some : goal.returns-in-Some
returns-in-Some c =
    let found : c.in_ok-place.field-0 ≡ Some c.in-Some.place = cc in
    unserved_here c.args.index.now c.units-units.result.now c.args.env.now c.loop-unit.unit-index c.unit-item.result c.items.result.now c.in-Some.place
    c.units-units.ensures c.loop-unit-test.true c.unit-item.is c.items.ensures
    (MatchOption-at_some _ _ c.in-Some.place found c.in_ok-place.ensures)
    c.loop-unit.invariant
