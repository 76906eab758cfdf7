use Rattle.pb_trail.specs.Growth.{Grows}
use Rattle.pb_trail.specs.Trail.{IsTrail, Counted}
use Rattle.pb_trail.proofs.TrailLaws.{RestBesides}
use Rattle.pb_trail.proofs.trail.Trail.pass.Given as goal

abbrev pub invariant-loop-i : goal.invariant-loop-i
invariant-loop-i g l = record {
  good : IsTrail l.self;
  grows : Grows l.initial.self l.self;
  rest : RestBesides l.self l.place l.i l.denied;
  steps : Counted l.initial.self l.self l.initial.steps l.steps;
}
