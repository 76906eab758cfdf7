use Rattle.std.proofs.Common.{◌≡◌, ◌+◌, ◌∷◌, [], ◌++◌, ◌∙◌, arith}
use Rattle.deriv_check.proofs.UsedLaws.{found_push, found_skip, rising_push}
use Rattle.deriv_check.proofs.usage.marked_up_to.Goals as goal
use Rattle.deriv_check.proofs.usage.marked_up_to.Goals.{then-marks-number+in_ok-push, else-marks-number}

pub loop-number-preserved : goal.loop-number-preserved
loop-number-preserved c =
    elim c.if-marks-number.branch [
      | then-marks-number+in_ok-push w ↦ let e : c.if-marks-number.found ≡ c.loop-number.found ++ c.loop-number.number ∷ [] = w.found-is ∙ w.in_ok-push.ensures.ok in
          rw e (found_push c.args.marks.now c.loop-number.found c.loop-number.number (omega (arith, c.loop-number.auto.number)) w.if-marks-number.true c.loop-number.invariant.0, rising_push c.loop-number.found c.loop-number.number c.loop-number.invariant.1 (λ n h. ((c.loop-number.invariant.0 n).0 h).1))
      | else-marks-number w ↦ rw w.found-is (found_skip c.args.marks.now c.loop-number.found c.loop-number.number w.if-marks-number.false c.loop-number.invariant.0, c.loop-number.invariant.1)
    ]

pub returns-clause-exact : goal.returns-clause-exact
returns-clause-exact c =
    let ended : c.loop-number.number ≡ c.args.last + 1 = omega arith in
    λ n. (λ h. let w = (c.loop-number.invariant.0 n).0 h in (w.0, omega (arith, w.1, ended), w.2), λ w. (c.loop-number.invariant.0 n).1 (w.0, omega (arith, w.1, ended), w.2))
