use Rattle.std.proofs.Common.{◌≡◌, length, replicate, None}
use Rattle.deriv_check.specs.Verdict.{CheckUpTo}
use Rattle.deriv_check.proofs.checker.first_bad.Given as goal

abbrev pub invariant-loop-i : goal.invariant-loop-i
invariant-loop-i l =
    CheckUpTo (length l.fn.scratch) l.constraints l.lines l.i × (l.scratch ≡ replicate (length l.fn.scratch) None)
