use Rattle.std.proofs.Common.{◌≡◌, ◌+◌, ◌^◌, take}
use Rattle.pb_core.specs.Slack.{coef_sum}
use Rattle.deriv_check.proofs.normality.has_small_sum.Given as goal

abbrev pub invariant-loop-term : goal.invariant-loop-term
invariant-loop-term l = coef_sum (take l.term-index l.terms) + l.left ≡ 2 ^ 54
