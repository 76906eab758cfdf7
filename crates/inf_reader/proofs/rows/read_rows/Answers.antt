use Rattle.std.proofs.Common.{sym, ap, ◌∙◌, drop, ◌+◌}
use Rattle.std.proofs.lemmas.Result.{err_from_is_err_and}
use Rattle.inf_reader.specs.TableAt.{at}
use Rattle.inf_reader.specs.UnitParts.{traverse}
use Rattle.inf_reader.proofs.Steps.{Refuses-along, with_front}
use Rattle.inf_reader.proofs.RowLemmas.{row_taken, row_refused, rows-none}
use Rattle.inf_reader.proofs.rows.read_rows.Goals as goal

pub returns-in_err-made : goal.returns-in_err-made
returns-in_err-made g c =
    let rows = c.args.rows.now in
    let f = g.R.Row.described (at c.args.table.now) c.args.owner c.args.unit.now in
    let p = err_from_is_err_and c.from_residual.result c.from_residual.ensures.1 in
    rw (p.1, p.2) (Refuses-along c.in_err-made.field-0.0 _ (traverse f rows) c.in_err-made.ensures
    (λ r h. sym c.loop-row.invariant ∙ row_refused f c.loop-row.list rows c.loop-row.row-index r c.loop-row-test.true h))

pub loop-row-preserved : goal.loop-row-preserved
loop-row-preserved g c =
    let rows = c.args.rows.now in
    let f = g.R.Row.described (at c.args.table.now) c.args.owner c.args.unit.now in
    ap (λ xs. with_front xs (traverse f (drop (c.loop-row.row-index + 1) rows))) c.in_ok-push.ensures.ok
    ∙ (sym (row_taken f c.loop-row.list rows c.loop-row.row-index _ c.loop-row-test.true c.in_ok-made.ensures) ∙ c.loop-row.invariant)

pub returns : goal.returns
returns g c =
    let rows = c.args.rows.now in
    let f = g.R.Row.described (at c.args.table.now) c.args.owner c.args.unit.now in
    sym c.loop-row.invariant ∙ rows-none f c.loop-row.list rows c.loop-row.row-index c.loop-row-test.false
