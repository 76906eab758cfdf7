use Rattle.std.proofs.lemmas.Result.{err_from_is_err_and}
use Rattle.action_core.specs.Places.{place_at}
use Rattle.action_core.specs.Standing.{map_of, site_of, under_in}
use Rattle.native_actions.proofs.Deep.{deep_rmdir}
use Rattle.native_actions.proofs.rmdir.rmdir.Goals as goal

pub returns-in_err-path-clause-refused : goal.returns-in_err-path-clause-refused
returns-in_err-path-clause-refused c =
    let p = err_from_is_err_and c.from_residual.result c.from_residual.ensures.1 in
    rw (p.1, p.2) (λ other. deep_rmdir (site_of c.args.shape.now) (map_of c.args.shape.now) (place_at (site_of c.args.shape.now) c.args.call.now 0) c.in_err-path.field-0.0 (c.in_err-path.ensures.refused other) (under_in c.args.shape.now.nodes (place_at (site_of c.args.shape.now) c.args.call.now 0)))
