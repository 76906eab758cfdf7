use Rattle.deriv_check.proofs.NormalityLaws.{sum_above}
use Rattle.deriv_check.proofs.normality.has_small_sum.Goals as goal

pub returns-then-term-left : goal.returns-then-term-left
returns-then-term-left c =
    (λ h. absurd (cc), λ small. absurd (sum_above c.args.terms.now c.loop-term.term-index c.loop-term.left _ c.loop-term-test.true c.loop-term.invariant c.if-term-left.true small))
