use Rattle.action_core.proofs.Params.{full_deep}
use Rattle.action_core.proofs.placing.lengthened.Goals as goal

pub returns-then-not-branch-clause-refused : goal.returns-then-not-branch-clause-refused
returns-then-not-branch-clause-refused c = λ other.
    full_deep c.args.path c.args.names.now c.loop-name.name-index c.loop-name.longer c.in_ok-copy.field-0 c.push.new.self c.in_ok-push.field-0 c.in_ok-push.ensures.ok c.if-not-branch.true c.loop-name.invariant c.loop-name-test.true
