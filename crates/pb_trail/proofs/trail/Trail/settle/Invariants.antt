use Rattle.std.proofs.Common.{length}
use Rattle.pb_trail.specs.Growth.{Grows}
use Rattle.pb_trail.specs.Trail.{IsTrail, Counted}
use Rattle.pb_trail.proofs.PassLaws.{RestUpTo}
use Rattle.pb_trail.proofs.trail.Trail.settle.Given as goal

abbrev pub invariant-loop-number : goal.invariant-loop-number
invariant-loop-number g l = record {
  good : IsTrail l.self;
  grows : Grows l.initial.self l.self;
  rest : RestUpTo l.self (length l.initial.self.entries.items) l.number;
  steps : Counted l.initial.self l.self l.initial.steps l.steps;
}
