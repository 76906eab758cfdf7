use Rattle.std.proofs.Common.{arith}
use Rattle.pb_trail.proofs.PassLaws.{rest_all}
use Rattle.pb_trail.proofs.TrailLaws.{trail_short, Grows-through, Counted-through}
use Rattle.pb_trail.proofs.trail.Trail.propagate.Goals as goal

pub returns-in-Some-clause-grows : goal.returns-in-Some-clause-grows
returns-in-Some-clause-grows g c = Grows-through c.args.self.now c.loop-next.self c.pass.new.self c.loop-next.invariant.grows c.pass.ensures.grows

pub loop-next-smaller : goal.loop-next-smaller
loop-next-smaller g c =
    omega (arith, trail_short c.loop-next.self c.loop-next.invariant.good, c.loop-next.invariant.grows.extends.variables, c.loop-next.self.entries.ok.0, c.len.ensures, c.loop-next-test.true)

pub loop-next-preserved : goal.loop-next-preserved
loop-next-preserved g c = record {
  good = c.pass.ensures.good;
  grows = Grows-through c.args.self.now c.loop-next.self c.pass.new.self c.loop-next.invariant.grows c.pass.ensures.grows;
  within = omega (arith, c.pass.ensures.grows.extends.longer, c.loop-next.self.entries.ok.0, c.len.ensures, c.loop-next-test.true);
  rest = c.in_default.ensures.found;
  steps = Counted-through c.args.self.now c.loop-next.self c.pass.new.self c.args.steps.now c.loop-next.steps c.pass.new.steps c.loop-next.invariant.grows.extends.constraints c.loop-next.invariant.steps c.pass.ensures.steps;
}

pub returns-clause-found : goal.returns-clause-found
returns-clause-found g c = rest_all c.loop-next.self c.loop-next.next (omega (arith, c.loop-next.self.entries.ok.0, c.len.ensures, c.loop-next-test.false)) c.loop-next.invariant.rest
