use Rattle.std.proofs.Common.{◌-◌, ◌≤◌, length}
use Rattle.pb_trail.specs.Growth.{Grows}
use Rattle.pb_trail.specs.Rest.{RestOrTouched}
use Rattle.pb_trail.specs.Trail.{IsTrail, Counted}
use Rattle.pb_trail.proofs.trail.Trail.propagate.Given as goal

abbrev pub invariant-loop-next : goal.invariant-loop-next
invariant-loop-next g l = record {
  good : IsTrail l.self;
  grows : Grows l.initial.self l.self;
  within : l.next ≤ length l.self.entries.items;
  rest : RestOrTouched l.self l.next;
  steps : Counted l.initial.self l.self l.initial.steps l.steps;
}

abbrev pub decreases-loop-next : goal.decreases-loop-next
decreases-loop-next g l = length l.initial.self.kept.values - l.next
