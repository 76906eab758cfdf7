use Rattle.std.proofs.Common.{◌≡◌, arith, rules}
use Rattle.std.specs.Prelude.{Some, None, slice_get}
use Rattle.std.proofs.lemmas.Grind.{common_steps}
use Rattle.std.proofs.lemmas.Option.{gets, none-some}
use Rattle.unit_judge.proofs.Chained.{closing_more, closing_past, closing_all, past_all}
use Rattle.unit_judge.proofs.rooting.close.Goals as goal
use Rattle.unit_judge.proofs.rooting.close.Goals.{in-Some-get+in_ok-follow, in_default-get}

pub loop-number-preserved : goal.loop-number-preserved
loop-number-preserved c =
    let units = c.args.index.now in
    let env = c.args.env.now in
    let number = c.in-Some.number in
    let old = c.loop-number.reached in
    let place : slice_get old.order.items c.loop-number.next ≡ Some number = first_of (cc, search rules, grind (arith, common_steps, gets)) in
    elim c.match-get.branch [
      | in-Some-get+in_ok-follow w ↦
          let unit : slice_get units number ≡ Some w.in-Some-get.unit.now = first_of (cc, search rules, grind (arith, common_steps, gets)) in
          rw w.reached-is (closing_more units env c.args.reached.now old w.follow.new.self c.loop-number.next number w.in-Some-get.unit.now c.requires.apply c.loop-number.invariant place unit
          w.in_ok-follow.ensures.marks w.in_ok-follow.ensures.has)
      | in_default-get w ↦
          let none : slice_get units number ≡ None = first_of (cc, search rules, grind (arith, common_steps, gets)) in
          rw w.reached-is (closing_past units env c.args.reached.now old c.loop-number.next number c.loop-number.invariant place (λ u here. none-some u (cc)))
    ]

pub returns-clause-closed : goal.returns-clause-closed
returns-clause-closed c =
    let old = c.loop-number.reached in
    let none : slice_get old.order.items c.loop-number.next ≡ None = first_of (cc, search rules, grind (arith, common_steps, gets)) in
    closing_all c.args.index.now c.args.env.now c.args.reached.now old c.loop-number.next c.loop-number.invariant (past_all old.order.items c.loop-number.next none)
