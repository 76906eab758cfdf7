use Rattle.std.proofs.lemmas.Result.{err_from_is_err_and}
use Rattle.director_source.specs.Gathering.{gathered_in}
use Rattle.director_source.proofs.GatherSteps.{counting_stops, describing_stops, adding_stops, description_added}
use Rattle.director_source.proofs.gathering.Gathering.describe.Goals as goal

pub returns-in_err-total-clause-refused : goal.returns-in_err-total-clause-refused
returns-in_err-total-clause-refused c =
    let p = err_from_is_err_and c.from_residual.result c.from_residual.ensures.1 in
    rw (p.1, p.2) (counting_stops c.args.folder.now (gathered_in c.args.self.now) c.args.bytes.now c.in_err-total.field-0.0 c.in_err-total.ensures.refused)

pub returns-in_err-more-clause-refused : goal.returns-in_err-more-clause-refused
returns-in_err-more-clause-refused c =
    let p = err_from_is_err_and c.from_residual-in_err-more.result c.from_residual-in_err-more.ensures.1 in
    rw (p.1, p.2) (describing_stops c.args.folder.now (gathered_in c.args.self.now) c.args.bytes.now c.in_ok-total.total c.in_err-more.field-0.0 c.in_ok-total.ensures.found c.in_err-more.ensures.refused)

pub returns-in_err-add_all-clause-refused : goal.returns-in_err-add_all-clause-refused
returns-in_err-add_all-clause-refused c =
    let p = err_from_is_err_and c.from_residual-in_err-add_all.result c.from_residual-in_err-add_all.ensures.1 in
    rw (p.1, p.2) (adding_stops c.args.folder.now (gathered_in c.args.self.now) c.args.bytes.now c.in_ok-total.total c.in_ok-more.more c.in_err-add_all.field-0.0 c.in_ok-total.ensures.found c.in_ok-more.ensures.found c.in_err-add_all.ensures.refused)

pub returns-clause-found : goal.returns-clause-found
returns-clause-found c =
    description_added c.args.folder.now (gathered_in c.args.self.now) c.args.bytes.now c.in_ok-total.total c.in_ok-more.more c.add_all.new.self.catalog c.in_ok-total.ensures.found c.in_ok-more.ensures.found c.in_ok-add_all.ensures.found
