use Rattle.deriv_check.proofs.NormalityLaws.{IsRisingTo}
use Rattle.deriv_check.proofs.normality.are_rising.Given as goal

abbrev pub invariant-loop-place : goal.invariant-loop-place
invariant-loop-place l = IsRisingTo l.terms l.place
