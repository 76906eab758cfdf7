use Rattle.std.proofs.Common.{refl}
use Rattle.deriv_check.proofs.NormalityLaws.{rising_more, rising_all, not_rising}
use Rattle.deriv_check.proofs.normality.are_rising.Goals as goal

pub loop-place-preserved : goal.loop-place-preserved
loop-place-preserved c =
    rising_more c.args.terms.now c.loop-place.place _ c.loop-place.auto.place c.loop-place-test.true c.loop-place.invariant c.if-terms-place.false

pub returns : goal.returns
returns c = (λ _. rising_all c.args.terms.now c.loop-place.place c.loop-place-test.false c.loop-place.invariant, λ _. refl)

pub returns-then-terms-place : goal.returns-then-terms-place
returns-then-terms-place c =
    (λ h. absurd (cc), λ rising. absurd (not_rising c.args.terms.now c.loop-place.place _ c.loop-place.auto.place c.loop-place-test.true c.if-terms-place.true rising))
