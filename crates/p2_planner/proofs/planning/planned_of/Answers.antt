use Rattle.std.proofs.Common.{List, subst}
use Rattle.unit_model.specs.declared.name.UnitName.{UnitName}
use Rattle.unit_catalog.specs.Order.{units_at}
use Rattle.p2_planner.specs.Attempting.{IsAttempt, IsFitting, IsPlannedBeside, IsPlannedFor, IsTooLargeFor}
use Rattle.p2_planner.specs.Settling.{ComesTo}
use Rattle.p2_planner.proofs.PlanLaws.{if_ok_weaker, some_fits, planned_for}
use Rattle.p2_planner.proofs.planning.planned_of.Goals as goal

pub returns-in_ok-first-in-Fits-clause-planned : goal.returns-in_ok-first-in-Fits-clause-planned
returns-in_ok-first-in-Fits-clause-planned c =
    let ask = c.args.ask.now in
    let roots : List UnitName = c.args.roots.now in
    let optional : List UnitName = c.args.optional.now in
    let wanted : List UnitName = c.args.wanted.now in
    let fits : IsFitting ask roots c.in-Fits.chosen = subst (IsAttempt ask roots) c.in-Fits.is c.requires in
    if_ok_weaker (IsPlannedBeside ask c.in_ok-first-in-Fits.first.roots optional wanted) (IsPlannedFor ask roots optional wanted)
    (λ plan is. planned_for ask roots optional wanted c.in-Fits.chosen fits plan
    (subst (λ (rs : List UnitName). IsPlannedBeside ask rs optional wanted plan) c.in_ok-first-in-Fits.ensures.0 is))
    c.plan_beside.result c.plan_beside.ensures.planned

pub returns-in_ok-first-in-Fits-clause-large : goal.returns-in_ok-first-in-Fits-clause-large
returns-in_ok-first-in-Fits-clause-large c = λ is.
    let ask = c.args.ask.now in
    let roots : List UnitName = c.args.roots.now in
    let optional : List UnitName = c.args.optional.now in
    let fits : IsFitting ask roots c.in-Fits.chosen = subst (IsAttempt ask roots) c.in-Fits.is c.requires in (
      some_fits ask roots c.in-Fits.chosen fits,
      subst (λ (rs : List UnitName). ComesTo (IsTooLargeFor ask) (units_at ask.catalog.now ask.slice.now) ask.env.now ask.budget rs optional) c.in_ok-first-in-Fits.ensures.0 (c.plan_beside.ensures.large is),
    )
