use Rattle.std.proofs.Common.{List, subst}
use Rattle.unit_model.specs.declared.name.UnitName.{UnitName}
use Rattle.unit_slicer.specs.Members.{AreOfSlice}
use Rattle.p2_planner.proofs.PlanLaws.{slice_applies}
use Rattle.p2_planner.proofs.PreferLaws.{preferred_within}
use Rattle.p2_planner.proofs.planning.plan.Goals as goal

pub invariant_of-ask-clause-apply : goal.invariant_of-ask-clause-apply
invariant_of-ask-clause-apply c =
    slice_applies c.args.catalog.now c.in_ok-wanted.wanted c.args.env.now c.in_ok-slice.slice c.in_ok-slice.ensures.members c.in_ok-slice.ensures.slice

pub invariant_of-ask-clause-variables : goal.invariant_of-ask-clause-variables
invariant_of-ask-clause-variables c = preferred_within c.in_ok-slice.slice c.args.installed.now c.in_ok-preferred.preferred c.in_ok-preferred.ensures

pub returns-clause-planned : goal.returns-clause-planned
returns-clause-planned c = record {
  slice = c.in_ok-slice.slice;
  members = c.in_ok-slice.ensures.members;
  all = subst (λ (roots : List UnitName). AreOfSlice c.args.catalog.now roots c.args.env.now c.in_ok-slice.slice) c.in_ok-wanted.ensures c.in_ok-slice.ensures.slice;
  few = c.in_ok-planned.ensures.few;
  answer = c.in_ok-planned.ensures.planned c.args.installed.now c.in_ok-preferred.ensures;
}
