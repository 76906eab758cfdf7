use Rattle.std.proofs.Common.{refl, rules}
use Rattle.unit_judge.proofs.Marking.{marks_one}
use Rattle.unit_judge.proofs.reaching.Reached.reach.Goals as goal

pub returns-in_ok-push-clause-marks : goal.returns-in_ok-push-clause-marks
returns-in_ok-push-clause-marks c =
    let open' = c.is_open.ensures.0 c.if-is_open.true in
    marks_one c.args.self.now _ c.args.number open'.0 open'.1 refl (search rules)
