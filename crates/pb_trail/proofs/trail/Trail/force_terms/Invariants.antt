use Rattle.std.proofs.Common.{◌≡◌, ◌+◌}
use Rattle.pb_core.specs.ConstraintAt.{constraint_at}
use Rattle.pb_core.specs.Slack.{reachable}
use Rattle.pb_trail.specs.Growth.{Grows}
use Rattle.pb_trail.specs.Rest.{AreTermsQuiet}
use Rattle.pb_trail.specs.Trail.{IsTrail, Counted}
use Rattle.pb_trail.proofs.trail.Trail.force_terms.Given as goal

abbrev pub invariant-loop-place : goal.invariant-loop-place
invariant-loop-place g l = record {
  good : IsTrail l.self;
  grows : Grows l.initial.self l.self;
  room : l.room + (constraint_at l.self.kept.constraints l.number).degree ≡ reachable l.self.kept.values (constraint_at l.self.kept.constraints l.number).terms;
  quiet : AreTermsQuiet l.self.kept.values (constraint_at l.self.kept.constraints l.number).terms l.room l.place;
  steps : Counted l.initial.self l.self l.initial.steps l.steps;
}
