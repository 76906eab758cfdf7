use Rattle.std.proofs.Common.{List, subst}
use Rattle.unit_model.specs.declared.name.UnitName.{UnitName}
use Rattle.p2_planner.specs.Attempting.{IsPlannedFor}
use Rattle.p2_planner.proofs.PlanLaws.{plan_of}
use Rattle.p2_planner.proofs.planning.plan_for.Goals as goal

pub returns-clause-planned : goal.returns-clause-planned
returns-clause-planned c = λ installed preferred.
    let ask = c.args.ask.now in
    let plan = c.in_ok-planned.planned in
    plan_of ask c.args.roots.now c.args.optional.now installed preferred plan
    (subst (λ (wanted : List UnitName). IsPlannedFor ask c.args.roots.now c.args.optional.now wanted plan) c.requires c.in_ok-planned.ensures.planned)
