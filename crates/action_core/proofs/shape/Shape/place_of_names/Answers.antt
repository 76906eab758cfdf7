use Rattle.std.proofs.lemmas.Result.{err_from_is_err_and}
use Rattle.action_core.specs.Places.{names_at, place_at}
use Rattle.action_core.specs.Standing.{site_of}
use Rattle.action_core.proofs.Params.{deep_longer}
use Rattle.action_core.proofs.shape.Shape.place_of_names.Goals as goal

pub returns-in_err-path-clause-refused : goal.returns-in_err-path-clause-refused
returns-in_err-path-clause-refused c =
    let p = err_from_is_err_and c.from_residual.result c.from_residual.ensures.1 in
    rw (p.1, p.2) (λ other. deep_longer (place_at (site_of c.args.self.now) c.args.call.now c.args.code) (names_at c.args.call.now c.args.names) c.in_err-path.field-0.0 (c.in_err-path.ensures.refused other))
