use Rattle.std.proofs.Common.{ℕ}
use Rattle.unit_judge.specs.Leading.{LeadsToAt, FollowsAt}
use Rattle.unit_judge.proofs.Leads.{follows, required_more, required_all}
use Rattle.unit_judge.proofs.Marking.{marks_then, marks_wider}
use Rattle.unit_judge.proofs.reaching.Reached.follow.Goals as goal

pub loop-required-preserved : goal.loop-required-preserved
loop-required-preserved c =
    let units = c.args.index.now in
    let env = c.args.env.now in
    let unit = c.args.unit.now in
    let at = c.loop-required.required-index in
    let own = c.required-item.result in
    let Kind : ℕ → Type 0 = FollowsAt units env unit in
    let Own : ℕ → Type 0 = LeadsToAt units env own in
    record {
      marks = marks_then Kind _ _ _ c.loop-required.invariant.marks
          (marks_wider Own Kind _ _ (follows units env unit c.items-required-items.result.now at own c.items-required-items.ensures c.loop-required-test.true c.required-item.is) c.in_ok-reach_providers.ensures.marks);
      has = required_more units env unit c.items-required-items.result.now at own c.loop-required.self c.reach_providers.new.self c.items-required-items.ensures c.loop-required-test.true c.required-item.is
          c.in_ok-reach_providers.ensures.marks c.in_ok-reach_providers.ensures.has c.loop-required.invariant.has;
    }

pub returns-clause-has : goal.returns-clause-has
returns-clause-has c =
    required_all c.args.index.now c.args.env.now c.args.unit.now c.loop-required.required-index c.loop-required.self (rw c.items-required-items.ensures at c.loop-required-test.false) c.loop-required.invariant.has
