use Rattle.std.proofs.lemmas.Result.{err_from_is_err_and}
use Rattle.folder_core.specs.Cause.{Rose}
use Rattle.director_source.specs.Gathering.{gathered_in}
use Rattle.director_source.proofs.GatherSteps.{finding_stops}
use Rattle.director_source.proofs.source.read_folder.Goals as goal

pub returns-in_err-description-clause-refused : goal.returns-in_err-description-clause-refused
returns-in_err-description-clause-refused g c =
    let p = err_from_is_err_and c.from_residual.result c.from_residual.ensures.1 in
    rw (p.1, p.2) (finding_stops (g.T.Tree.told c.args.source.now) c.args.folder.now (gathered_in c.args.so_far.now) (Rose (g.T.Tree.faults c.args.source.now) (g.T.Tree.faults c.find_description.new.source)) c.in_err-description.field-0.0 c.in_err-description.ensures.refused)
