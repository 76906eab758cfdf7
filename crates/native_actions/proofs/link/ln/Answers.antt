use Rattle.std.proofs.lemmas.Result.{err_from_is_err_and}
use Rattle.std.proofs.Common.{◌++◌}
use Rattle.action_core.specs.Places.{place_at, names_at, text_at}
use Rattle.action_core.specs.Standing.{map_of, site_of}
use Rattle.native_actions.proofs.Deep.{deep_ln}
use Rattle.native_actions.proofs.link.ln.Goals as goal

pub returns-in_err-path-clause-refused : goal.returns-in_err-path-clause-refused
returns-in_err-path-clause-refused c =
    let p = err_from_is_err_and c.from_residual.result c.from_residual.ensures.1 in
    rw (p.1, p.2) (λ other. deep_ln (site_of c.args.shape.now) (map_of c.args.shape.now) (place_at (site_of c.args.shape.now) c.args.call.now 4 ++ names_at c.args.call.now 8) c.in_err-path.field-0.0 (c.in_err-path.ensures.refused other) (text_at c.args.call.now 7))
