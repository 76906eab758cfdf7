use Rattle.std.proofs.lemmas.Result.{err_from_is_err_and}
use Rattle.std.proofs.Common.{sym, ◌∙◌}
use Rattle.action_core.specs.Places.{place_at}
use Rattle.action_core.specs.Standing.{site_of}
use Rattle.action_core.proofs.Params.{not_deep}
use Rattle.native_actions.proofs.copy.copy.Goals as goal

pub returns-in_err-source-clause-refused : goal.returns-in_err-source-clause-refused
returns-in_err-source-clause-refused c =
    let p = err_from_is_err_and c.from_residual.result c.from_residual.ensures.1 in
    rw (p.1, p.2) (λ other. let no = sym (not_deep (place_at (site_of c.args.shape.now) c.args.call.now 1) c.requires.source) ∙ c.in_err-source.ensures.refused other in absurd (let never : ⊥ = cc in never))

pub returns-in_err-target-clause-refused : goal.returns-in_err-target-clause-refused
returns-in_err-target-clause-refused c =
    let p = err_from_is_err_and c.from_residual-in_err-target.result c.from_residual-in_err-target.ensures.1 in
    rw (p.1, p.2) (λ other. let no = sym (not_deep (place_at (site_of c.args.shape.now) c.args.call.now 2) c.requires.target) ∙ c.in_err-target.ensures.refused other in absurd (let never : ⊥ = cc in never))
