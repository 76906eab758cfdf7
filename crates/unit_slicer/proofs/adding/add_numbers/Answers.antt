use Rattle.std.proofs.Common.{◌≡◌, ℕ}
use Rattle.std.proofs.lemmas.Result.{err_from_is_err_and}
use Rattle.unit_slicer.proofs.AddingLaws.{adds_more, adds_all, too_many_at}
use Rattle.unit_slicer.proofs.adding.add_numbers.Goals as goal

pub returns-in_err-add-clause-too_large : goal.returns-in_err-add-clause-too_large
returns-in_err-add-clause-too_large c =
    let p = err_from_is_err_and c.from_residual.result c.from_residual.ensures.1 in
    rw (p.1, p.2)
    (λ e. too_many_at (λ (m n : ℕ). n ≡ m) c.args.numbers.now c.loop-number.number-index 0 c.args.found.now c.loop-number.found c.loop-number-test.true c.loop-number.invariant (c.in_err-add.ensures.too_large e))

pub loop-number-preserved : goal.loop-number-preserved
loop-number-preserved c =
    adds_more (λ (m n : ℕ). n ≡ m) c.args.numbers.now c.loop-number.number-index 0 c.args.found.now c.loop-number.found c.add.new.self c.loop-number-test.true c.loop-number.invariant c.in_ok-add.ensures.ok

pub returns-clause-ok : goal.returns-clause-ok
returns-clause-ok c =
    adds_all (λ (m n : ℕ). n ≡ m) c.args.numbers.now c.loop-number.number-index c.args.found.now c.loop-number.found c.loop-number-test.false c.loop-number.invariant
