use Rattle.std.proofs.Common.{take}
use Rattle.std.proofs.lemmas.List.{take_more}
use Rattle.unit_catalog.proofs.looking.greatest.Goals as goal

pub loop-number-preserved : goal.loop-number-preserved
loop-number-preserved c =
    let numbers = c.args.numbers.now in
    let at = c.loop-number.number-index in
    rw (take_more numbers at 0 c.loop-number-test.true) (c.better-best.ensures (take at numbers) c.loop-number.invariant)
