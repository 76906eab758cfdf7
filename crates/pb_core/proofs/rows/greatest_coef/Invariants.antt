use Rattle.std.proofs.Common.{◌≡◌, take}
use Rattle.pb_core.specs.Slack.{greatest_coef}
use Rattle.pb_core.proofs.rows.greatest_coef.Given as goal

abbrev pub invariant-loop-term : goal.invariant-loop-term
invariant-loop-term l = l.greatest ≡ greatest_coef (take l.term-index l.terms)
