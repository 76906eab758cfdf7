use Rattle.std.proofs.Common.{IsTrue, sym, arith}
use Rattle.pb_encode.specs.Places.{IsRun}
use Rattle.pb_encode.specs.UnitsOf.{units_of}
use Rattle.pb_encode.proofs.IdLaws.{run_made, next_first}
use Rattle.pb_encode.proofs.UnitLaws.{few_units, units_rise}
use Rattle.pb_encode.proofs.singletons.end_of_id.Goals as goal

pub overflow_step-to : goal.overflow_step-to
overflow_step-to c = let few = few_units c.args.members.now in let within = c.requires.within in omega (arith, few, within)

run : (c : goal.Then-not-has_same_id) → IsRun (units_of c.args.members.now) c.args.from c.loop-to.to
run c =
    let ms = units_of c.args.members.now in
    run_made ms c.args.from c.loop-to.to (units_rise c.args.members.now) (omega arith) (omega arith) c.requires.first (λ k le lt. c.loop-to.invariant k le lt)
    (λ h. λ e. let same : IsTrue c.has_same_id.result = c.has_same_id.ensures.1 (sym e) in absurd (cc))

pub returns-then-not-has_same_id-clause-run : goal.returns-then-not-has_same_id-clause-run
returns-then-not-has_same_id-clause-run c = run c

pub returns-then-not-has_same_id-clause-next : goal.returns-then-not-has_same_id-clause-next
returns-then-not-has_same_id-clause-next c =
    next_first (units_of c.args.members.now) c.args.from c.loop-to.to (units_rise c.args.members.now) (run c) c.requires.first
