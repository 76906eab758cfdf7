use Rattle.std.proofs.lemmas.Result.{err_from_is_err_and}
use Rattle.osgi_version.proofs.RangePlaces.{bounds_stuck, bounds_other, bounds_behind}
use Rattle.osgi_version.proofs.interval.read_bounds.Goals as goal

pub returns-in_err-cut-clause-refused : goal.returns-in_err-cut-clause-refused
returns-in_err-cut-clause-refused c =
    let p = err_from_is_err_and c.from_residual.result c.from_residual.ensures.1 in
    rw (p.1, p.2) (bounds_stuck c.args.text.now c.in_err-cut.field-0.0 c.in_err-cut.ensures.refused)

pub returns-then-cut-ne44-clause-refused : goal.returns-then-cut-ne44-clause-refused
returns-then-cut-ne44-clause-refused c =
    let cut = c.in_ok-cut.cut in
    bounds_other c.args.text.now cut.bound.text.now cut.bound.reading cut.mark cut.rest.now c.in_ok-cut.ensures.found c.if-cut-ne44.true

pub returns-in-Err-clause-refused : goal.returns-in-Err-clause-refused
returns-in-Err-clause-refused c =
    let cut = c.in_ok-cut.cut in
    bounds_behind c.args.text.now cut.bound.text.now cut.bound.reading cut.mark cut.rest.now c.in-Err.at c.in_ok-cut.ensures.found c.if-cut-ne44.false c.in-Err.ensures.refused
