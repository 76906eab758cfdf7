use Rattle.p2_planner.proofs.RootLaws.{with_rises}
use Rattle.p2_planner.proofs.SettleLaws.{settled_rise}
use Rattle.p2_planner.proofs.laws.roots_rise.Goals as goal

pub returns : goal.returns
returns c = λ members env budget strict optional roots left root rising settled. with_rises root roots (settled_rise members env budget strict optional roots left settled rising)
