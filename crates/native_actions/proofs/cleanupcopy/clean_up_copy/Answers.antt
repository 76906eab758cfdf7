use Rattle.std.proofs.lemmas.Result.{err_from_is_err_and}
use Rattle.std.proofs.Common.{sym, subst, ◌∙◌}
use Rattle.action_core.specs.Places.{place_at}
use Rattle.action_core.specs.Standing.{AreRising, site_of}
use Rattle.action_core.proofs.Params.{not_deep}
use Rattle.native_actions.proofs.Leaving.{clean_steps, under_rises}
use Rattle.native_actions.proofs.cleanupcopy.clean_up_copy.Goals as goal

pub returns-in_err-target-clause-refused : goal.returns-in_err-target-clause-refused
returns-in_err-target-clause-refused c =
    let p = err_from_is_err_and c.from_residual.result c.from_residual.ensures.1 in
    rw (p.1, p.2) (λ other. let no = sym (not_deep (place_at (site_of c.args.shape.now) c.args.call.now 2) c.requires.target) ∙ c.in_err-target.ensures.refused other in absurd (let never : ⊥ = cc in never))

pub cleared-requires : goal.cleared-requires
cleared-requires c =
    under_rises c.items.result.now c.in_ok-target.target c.in_ok-left.left.items (subst AreRising (sym c.items.ensures) c.requires.rising) c.in_ok-left.ensures

pub returns-clause-steps : goal.returns-clause-steps
returns-clause-steps c =
    clean_steps c.args.shape.now.nodes c.items.result.now c.in_ok-target.target (place_at (site_of c.args.shape.now) c.args.call.now 2) c.args.shape.now.noted c.items-2.result.now
    c.in_ok-left.left.items c.new-paths.result c.in_ok-steps.steps c.push.new.self
    c.items.ensures c.items-2.ensures c.in_ok-target.ensures.place c.in_ok-left.ensures c.in_ok-steps.ensures c.new-paths.ensures c.in_ok-push.ensures.ok
