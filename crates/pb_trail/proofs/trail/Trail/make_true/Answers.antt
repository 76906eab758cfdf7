use Rattle.std.proofs.Common.{arith}
use Rattle.pb_trail.proofs.TrailLaws.{IsTrail-pushed, Extends-pushed, Counted-pushed, trail_short}
use Rattle.pb_trail.proofs.trail.Trail.make_true.Goals as goal

pub push_reserved-requires : goal.push_reserved-requires
push_reserved-requires g c =
    omega (arith, trail_short c.args.self.now c.requires.good, c.requires.good.room, c.args.self.now.entries.ok.0)

pub returns-clause-good : goal.returns-clause-good
returns-clause-good g c = IsTrail-pushed c.args.self.now _ c.args.entry c.requires.good c.requires.step c.assign.ensures.constraints c.assign.ensures.values c.push_reserved.ensures.items c.push_reserved.ensures.capacity

pub returns-clause-extends : goal.returns-clause-extends
returns-clause-extends g c = Extends-pushed c.args.self.now _ c.args.entry c.assign.ensures.constraints c.assign.ensures.values c.push_reserved.ensures.items

pub returns-clause-steps : goal.returns-clause-steps
returns-clause-steps g c = Counted-pushed c.args.self.now _ c.args.entry _ _ c.push_reserved.ensures.items c.assign.ensures.steps
