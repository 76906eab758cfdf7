use Rattle.std.proofs.Common.{ℕ, List}
use Rattle.unit_catalog.specs.At.{HasAt}
use Rattle.unit_catalog.specs.Order.{AreMembers, units_at}
use Rattle.unit_slicer.specs.RootedPart.{IsRootedPart, IsRootedIn}
use Rattle.unit_slicer.specs.WholeCatalog.{IsPart}
use Rattle.p2_planner.specs.Attempting.{IsSelectionOf}
use Rattle.p2_planner.proofs.PlanLaws.{if_ok_three, selection_of}
use Rattle.p2_planner.proofs.planning.selection.Goals as goal

pub returns : goal.returns
returns c =
    let ask = c.args.ask.now in
    let wanted = c.args.wanted.now in
    let kept = c.args.settled.now.roots in
    let units = ask.catalog.now in
    let chosen : List ℕ = c.args.settled.now.chosen in
    if_ok_three (AreMembers units) (IsPart (HasAt units (IsRootedIn (units_at units chosen) wanted ask.env.now)) chosen)
    (λ (part : List ℕ). IsRootedPart (units_at units chosen) wanted ask.env.now (units_at units part)) (IsSelectionOf ask kept wanted)
    (λ part members is rooted. selection_of ask kept wanted chosen part c.requires members is rooted)
    c.rooted.result c.rooted.ensures.members c.rooted.ensures.part c.rooted.ensures.rooted
