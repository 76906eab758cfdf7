use Rattle.std.proofs.lemmas.Result.{err_from_is_err_and}
use Rattle.std.proofs.Common.{◌<◌, length, map, arith}
use Rattle.std.proofs.lemmas.Bool.Decides.{nat_tests}
use Rattle.pb_rows.specs.Rows.{beside, apart_rows}
use Rattle.pb_rows.proofs.AddingLaws.{too_many_same, too_many_at_one}
use Rattle.pb_rows.proofs.MakingLaws.{apart_some}
use Rattle.pb_rows.proofs.makers.add_apart.Goals as goal

pub returns-in_err-add_beside-clause-too_large : goal.returns-in_err-add_beside-clause-too_large
returns-in_err-add_beside-clause-too_large c =
    let p = err_from_is_err_and c.from_residual.result c.from_residual.ensures.1 in
    let some : 0 < length c.args.singles.now = grind (arith, nat_tests) in
    let others : 0 < length c.args.others.now = grind (arith, nat_tests) in
    let within : c.loop-other.other-index < length c.args.others.now = c.loop-other-test.true in
    rw (p.1, p.2)
    (λ e. too_many_same (map (beside c.args.id.now c.args.singles.now) c.args.others.now) (apart_rows c.args.id.now c.args.singles.now c.args.others.now) c.args.constraints.now
    (apart_some c.args.id.now c.args.singles.now c.args.others.now some others)
    (too_many_at_one (beside c.args.id.now c.args.singles.now) c.args.others.now c.loop-other.other-index 0 c.args.constraints.now c.loop-other.constraints within c.loop-other.invariant
    (c.in_err-add_beside.ensures.too_large e)))
