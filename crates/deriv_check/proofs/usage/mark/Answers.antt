use Rattle.std.proofs.Common.{◌≡◌, get_or, take, arith}
use Rattle.std.proofs.lemmas.List.{get_or_default, take_all}
use Rattle.deriv_check.proofs.UsedLaws.{mark_step}
use Rattle.deriv_check.proofs.usage.mark.Goals as goal

pub loop-number-preserved : goal.loop-number-preserved
loop-number-preserved c =
    mark_step c.args.marks.now c.loop-number.marks c.args.numbers.now c.loop-number.number-index (get_or c.args.numbers.now c.loop-number.number-index 0) c.loop-number-test.true (get_or_default c.args.numbers.now c.loop-number.number-index 0 _ c.loop-number-test.true) (omega (arith, c.requires c.loop-number.number-index 0 c.loop-number-test.true, c.loop-number.auto.marks)) c.loop-number.invariant

pub returns : goal.returns
returns c =
    let whole : take c.loop-number.number-index c.args.numbers.now ≡ c.args.numbers.now = take_all c.loop-number.number-index c.args.numbers.now c.loop-number-test.false in
    rw whole at c.loop-number.invariant
