use Rattle.std.proofs.Common.{length, arith}
use Rattle.pb_trail.proofs.ForceLaws.{IsTrail-begins}
use Rattle.pb_trail.proofs.trail.Trail.new.Goals as goal

pub returns-clause-good : goal.returns-clause-good
returns-clause-good c =
    IsTrail-begins _ (length c.args.problem.now.labels) c.args.problem.now.constraints c.requires.labels c.requires.constraints c.requires.normal c.in_ok-kept.ensures.constraints c.in_ok-kept.ensures.values c.in_ok-entries.ensures.items (omega (arith, c.in_ok-entries.ensures.capacity, c.len.ensures))
