use Rattle.std.proofs.Common.{◌+◌, ◌≤◌, length, refl, arith}
use Rattle.std.proofs.lemmas.Option.{get_or_from_slice_get}
use Rattle.std.proofs.lemmas.Result.{err_from_is_err_and}
use Rattle.pb_rows.specs.Rows.{unit_rows}
use Rattle.pb_encode.specs.UnitsOf.{units_of}
use Rattle.pb_encode.proofs.RowLaws.{numbered_more, numbered_many, numbered_all}
use Rattle.pb_encode.proofs.requirements.add_requirements.Goals as goal

pub returns-in_err-add_unit-clause-too_large : goal.returns-in_err-add_unit-clause-too_large
returns-in_err-add_unit-clause-too_large c =
    let p = err_from_is_err_and c.from_residual.result c.from_residual.ensures.1 in
    let ms = units_of c.args.members.now in
    let u = c.unit.result.now in
    rw (p.1, p.2)
    (λ e. numbered_many (unit_rows ms c.args.env.now) ms c.loop-place.place (c.loop-place.place + 1) u c.args.constraints.now c.loop-place.constraints (omega arith)
    (get_or_from_slice_get ms c.loop-place.place u u c.unit.ensures) refl c.loop-place.invariant (c.in_err-add_unit.ensures.too_large e))

pub loop-place-preserved : goal.loop-place-preserved
loop-place-preserved c =
    let ms = units_of c.args.members.now in
    let u = c.unit.result.now in
    numbered_more (unit_rows ms c.args.env.now) ms c.loop-place.place (c.loop-place.place + 1) u c.args.constraints.now c.loop-place.constraints c.add_unit.new.constraints (omega arith)
    (get_or_from_slice_get ms c.loop-place.place u u c.unit.ensures) refl c.loop-place.invariant c.in_ok-add_unit.ensures.added

pub returns-clause-added : goal.returns-clause-added
returns-clause-added c =
    let ms = units_of c.args.members.now in
    let end : length ms ≤ c.loop-place.place = omega arith in
    numbered_all (unit_rows ms c.args.env.now) ms c.loop-place.place c.args.constraints.now c.loop-place.constraints end c.loop-place.invariant
