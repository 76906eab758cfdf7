use Rattle.std.proofs.Common.{◌≡◌, ℕ, length, refl, ap, subst, arith}
use Rattle.pb_trail.specs.Rest.{RestOrTouched}
use Rattle.pb_trail.proofs.PassLaws.{RestUpTo-begins, RestUpTo-visited, RestUpTo-ends}
use Rattle.pb_trail.proofs.TrailLaws.{Grows-itself, Grows-through, Counted-through}
use Rattle.pb_trail.proofs.trail.Trail.settle.Goals as goal

pub loop-number-init : goal.loop-number-init
loop-number-init g c = record {
  good = c.requires.good;
  grows = Grows-itself c.args.self.now;
  rest = RestUpTo-begins c.args.self.now (length c.args.self.now.entries.items) c.args.from c.requires.rest;
  steps = refl;
}

pub returns-then-visit-clause-grows : goal.returns-then-visit-clause-grows
returns-then-visit-clause-grows g c = Grows-through c.args.self.now c.loop-number.self c.visit.new.self c.loop-number.invariant.grows c.visit.ensures.grows

pub loop-number-preserved : goal.loop-number-preserved
loop-number-preserved g c = record {
  good = c.visit.ensures.good;
  grows = Grows-through c.args.self.now c.loop-number.self c.visit.new.self c.loop-number.invariant.grows c.visit.ensures.grows;
  rest = RestUpTo-visited c.loop-number.self c.visit.new.self (length c.args.self.now.entries.items) c.loop-number.number c.loop-number.invariant.good c.visit.ensures.good c.visit.ensures.grows.extends c.loop-number.invariant.grows.extends.longer c.loop-number.invariant.rest c.if-visit.ensures.rests;
  steps = Counted-through c.args.self.now c.loop-number.self c.visit.new.self c.args.steps.now c.loop-number.steps c.visit.new.steps c.loop-number.invariant.grows.extends.constraints c.loop-number.invariant.steps c.visit.ensures.steps;
}

pub propagate-found-requires-clause-rest : goal.propagate-found-requires-clause-rest
propagate-found-requires-clause-rest g c =
    let first : length c.args.self.now.entries.items ≡ c.len-first.result = omega (arith, c.len-first.ensures, c.args.self.now.entries.ok.0) in
    let P : ℕ → Type 0 = λ n. RestOrTouched c.loop-number.self n in
    subst P first (RestUpTo-ends c.loop-number.self (length c.args.self.now.entries.items) c.loop-number.number (omega (arith, ap length c.loop-number.invariant.grows.extends.constraints, c.loop-number-test.false, c.requires.good.few)) c.loop-number.invariant.rest)

pub returns-clause-grows : goal.returns-clause-grows
returns-clause-grows g c = Grows-through c.args.self.now c.loop-number.self c.propagate-found.new.self c.loop-number.invariant.grows c.propagate-found.ensures.grows
