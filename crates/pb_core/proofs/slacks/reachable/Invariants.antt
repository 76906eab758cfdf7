use Rattle.std.proofs.Common.{◌≡◌, take}
use Rattle.pb_core.specs.Slack.{reachable}
use Rattle.pb_core.proofs.slacks.reachable.Given as goal

abbrev pub invariant-loop-term : goal.invariant-loop-term
invariant-loop-term l = l.sum ≡ reachable l.values (take l.term-index l.terms)
