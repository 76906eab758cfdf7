use Rattle.std.proofs.Common.{◌≡◌, Bool, true, false, not, refl, ◌+◌, [], Option, option_map, drop, sym, ap, ◌∙◌}
use Rattle.std.proofs.lemmas.Result.{err_from_is_err_and}
use Rattle.unit_model.specs.declared.name.UnitName.{UnitName}
use Rattle.inf_reader.specs.TableAt.{at}
use Rattle.inf_reader.specs.UnitsOf.{has_name, units_from}
use Rattle.inf_reader.proofs.NameLemmas.{HasNames-more}
use Rattle.inf_reader.proofs.Steps.{Refuses-along}
use Rattle.inf_reader.proofs.UnitLemmas.{unit_taken, unit_twice, unit_refused, units-none}
use Rattle.inf_reader.proofs.units.units_from.Goals as goal

was_not : (new there : Bool) → new ≡ not there → new ≡ false → there ≡ true
was_not new true e n = refl
was_not new false e n = sym n ∙ e

was_new : (new there : Bool) → new ≡ not there → new ≡ true → there ≡ false
was_new new true e n = sym n ∙ e
was_new new false e n = refl

pub returns-in_err-unit : goal.returns-in_err-unit
returns-in_err-unit c =
    let host : Option UnitName = option_map (λ h. h.now) c.args.host in
    let table = c.args.table.now in
    let owners = c.args.owners.now in
    let p = err_from_is_err_and c.from_residual.result c.from_residual.ensures.1 in
    rw (p.1, p.2) (Refuses-along c.in_err-unit.field-0.0 _ (units_from host (at table) table.places.keys [] owners) c.in_err-unit.ensures
    (λ r h. sym c.loop-owner.invariant.0 ∙ unit_refused host (at table) table.places.keys c.loop-owner.units owners c.loop-owner.owner-index r c.loop-owner-test.true h))

pub returns-then-not-new : goal.returns-then-not-new
returns-then-not-new c =
    let host : Option UnitName = option_map (λ h. h.now) c.args.host in
    let table = c.args.table.now in
    let owners = c.args.owners.now in
    let units = c.loop-owner.units in
    let unit = c.in_ok-unit.unit in
    let twice : has_name units unit.name ≡ true = sym (c.loop-owner.invariant.1 unit.name) ∙ was_not _ _ c.in_ok-new.ensures.new c.if-not-new.true in
    sym c.loop-owner.invariant.0 ∙ unit_twice host (at table) table.places.keys c.loop-owner.units owners c.loop-owner.owner-index _ c.loop-owner-test.true c.in_ok-unit.ensures twice

pub loop-owner-preserved : goal.loop-owner-preserved
loop-owner-preserved c =
    let host : Option UnitName = option_map (λ h. h.now) c.args.host in
    let table = c.args.table.now in
    let owners = c.args.owners.now in
    let units = c.loop-owner.units in
    let unit = c.in_ok-unit.unit in
    let fresh : has_name units unit.name ≡ false = sym (c.loop-owner.invariant.1 unit.name) ∙ was_new _ _ c.in_ok-new.ensures.new c.if-not-new.false in
    let step = unit_taken host (at table) table.places.keys units owners c.loop-owner.owner-index _ c.loop-owner-test.true c.in_ok-unit.ensures fresh in
    let pushed = c.in_ok-push.ensures.ok in (
      ap (λ us. units_from host (at table) table.places.keys us (drop (c.loop-owner.owner-index + 1) owners)) pushed ∙ (sym step ∙ c.loop-owner.invariant.0),
      λ name. HasNames-more c.loop-owner.names c.add.new.self unit units c.loop-owner.invariant.1 c.in_ok-new.ensures.added name ∙ ap (λ us. has_name us name) (sym pushed),
    )

pub returns : goal.returns
returns c =
    let host : Option UnitName = option_map (λ h. h.now) c.args.host in
    let table = c.args.table.now in
    let owners = c.args.owners.now in
    sym c.loop-owner.invariant.0 ∙ units-none host (at table) table.places.keys c.loop-owner.units owners c.loop-owner.owner-index c.loop-owner-test.false
