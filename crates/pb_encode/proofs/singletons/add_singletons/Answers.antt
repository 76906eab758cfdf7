use Rattle.std.proofs.Common.{◌≡◌, ◌≤◌, [], length, drop, ap, sym, arith}
use Rattle.std.specs.List.{flat_map}
use Rattle.std.proofs.Math.ListN.{drop_of_length-le}
use Rattle.std.proofs.lemmas.Result.{err_from_is_err_and}
use Rattle.pb_rows.specs.Rows.{id_rows, ids}
use Rattle.pb_rows.proofs.AddingLaws.{adds_none, adds_then, adds_same, too_many_first, too_many_then, too_many_same}
use Rattle.pb_encode.specs.Places.{id_at}
use Rattle.pb_encode.specs.UnitsOf.{units_of}
use Rattle.pb_encode.proofs.IdLaws.{run_rows}
use Rattle.pb_encode.proofs.singletons.add_singletons.Goals as goal

pub returns-in_err-add_id-clause-too_large : goal.returns-in_err-add_id-clause-too_large
returns-in_err-add_id-clause-too_large c =
    let p = err_from_is_err_and c.from_residual.result c.from_residual.ensures.1 in
    let ms = units_of c.args.members.now in
    let from = c.loop-from.from in
    let to = c.end_of_id-to.result in
    let rows = run_rows ms from to c.end_of_id-to.ensures.run in
    rw (p.1, p.2)
    (λ e. c.loop-from.invariant.many
    (too_many_same _ (flat_map (id_rows ms) (ids (drop from ms))) c.loop-from.constraints rows
    (too_many_first (id_rows ms (id_at ms from)) (flat_map (id_rows ms) (ids (drop to ms))) c.loop-from.constraints (c.in_err-add_id.ensures.too_large e))))

pub loop-from-preserved : goal.loop-from-preserved
loop-from-preserved c =
    let ms = units_of c.args.members.now in
    let from = c.loop-from.from in
    let to = c.end_of_id-to.result in
    let old = c.loop-from.constraints in
    let mid = c.add_id.new.constraints in
    let rows = run_rows ms from to c.end_of_id-to.ensures.run in
    let one = id_rows ms (id_at ms from) in
    let rest = flat_map (id_rows ms) (ids (drop to ms)) in
    let all = flat_map (id_rows ms) (ids (drop from ms)) in
    record {
      within = c.end_of_id-to.ensures.run.within;
      first = c.end_of_id-to.ensures.next;
      added = λ new adds. c.loop-from.invariant.added new (adds_same _ all old new rows (adds_then one rest old mid new c.in_ok-add_id.ensures.added adds));
      many = λ many. c.loop-from.invariant.many (too_many_same _ all old rows (too_many_then one rest old mid c.in_ok-add_id.ensures.added many));
    }

pub returns-clause-added : goal.returns-clause-added
returns-clause-added c =
    let ms = units_of c.args.members.now in
    let end : length ms ≤ c.loop-from.from = omega arith in
    let none : [] ≡ flat_map (id_rows ms) (ids (drop c.loop-from.from ms)) = ap (λ us. flat_map (id_rows ms) (ids us)) (sym (drop_of_length-le ms end)) in
    c.loop-from.invariant.added c.loop-from.constraints (adds_same [] _ c.loop-from.constraints c.loop-from.constraints none (adds_none c.loop-from.constraints))
