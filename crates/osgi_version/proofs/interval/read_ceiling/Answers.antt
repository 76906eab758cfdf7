use Rattle.std.proofs.lemmas.Result.{err_from_is_err_and}
use Rattle.osgi_version.proofs.RangePlaces.{ceiling_stuck, ceiling_other, ceiling_behind, ceiling_found}
use Rattle.osgi_version.proofs.interval.read_ceiling.Goals as goal

pub returns-in_err-cut-clause-refused : goal.returns-in_err-cut-clause-refused
returns-in_err-cut-clause-refused c =
    let p = err_from_is_err_and c.from_residual.result c.from_residual.ensures.1 in
    rw (p.1, p.2) (ceiling_stuck c.args.text.now c.in_err-cut.field-0.0 c.in_err-cut.ensures.refused)

pub returns-in_default-clause-refused : goal.returns-in_default-clause-refused
returns-in_default-clause-refused c =
    let cut = c.in_ok-cut.cut in
    ceiling_other c.args.text.now cut.bound.text.now cut.bound.reading cut.mark cut.rest.now c.in_ok-cut.ensures.found c.in_default.ensures.other

pub returns-then-white-cut-clause-refused : goal.returns-then-white-cut-clause-refused
returns-then-white-cut-clause-refused c =
    let cut = c.in_ok-cut.cut in
    ceiling_behind c.args.text.now cut.bound.text.now cut.bound.reading cut.mark cut.rest.now c.white_length-white.result c.in-Some.included
    c.in_ok-cut.ensures.found c.in-Some.ensures.closes c.white_length-white.ensures c.if-white-cut.true

pub returns-clause-found : goal.returns-clause-found
returns-clause-found c =
    let cut = c.in_ok-cut.cut in
    ceiling_found c.args.text.now cut.bound.text.now cut.bound.reading cut.mark c.in-Some.included cut.rest.now c.white_length-white.result
    c.in_ok-cut.ensures.found c.in-Some.ensures.closes c.white_length-white.ensures c.if-white-cut.false
