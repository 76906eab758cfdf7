use Rattle.std.proofs.Common.{length}
use Rattle.deriv_check.specs.Verdict.{CheckUpTo, EndsEmpty}
use Rattle.deriv_check.proofs.Soundness.{all_follow, are_sound}
use Rattle.deriv_check.proofs.checker.check.Goals as goal

pub returns-then-ends_empty-clause-follows : goal.returns-then-ends_empty-clause-follows
returns-then-ends_empty-clause-follows c =
    let checks : CheckUpTo (length c.args.problem.now.labels) c.args.problem.now.constraints c.args.derivation.now.lines (length c.args.derivation.now.lines) = rw (c.in_default.is, c.items-lines.ensures) at c.in_ok-line.ensures in
    all_follow (length c.args.problem.now.labels) c.args.problem.now.constraints c.args.derivation.now.lines checks

pub returns-then-ends_empty-clause-refutes : goal.returns-then-ends_empty-clause-refutes
returns-then-ends_empty-clause-refutes c =
    let checks : CheckUpTo (length c.args.problem.now.labels) c.args.problem.now.constraints c.args.derivation.now.lines (length c.args.derivation.now.lines) = rw (c.in_default.is, c.items-lines.ensures) at c.in_ok-line.ensures in
    let ends : EndsEmpty c.args.derivation.now.lines = rw c.items-lines.ensures at (c.ends_empty.ensures.0 c.if-ends_empty.true) in
    λ _. (are_sound (length c.args.problem.now.labels) c.args.problem.now.constraints c.args.derivation.now.lines checks).1 ends

pub returns-else-ends_empty-clause-follows : goal.returns-else-ends_empty-clause-follows
returns-else-ends_empty-clause-follows c =
    let checks : CheckUpTo (length c.args.problem.now.labels) c.args.problem.now.constraints c.args.derivation.now.lines (length c.args.derivation.now.lines) = rw (c.in_default.is, c.items-lines.ensures) at c.in_ok-line.ensures in
    all_follow (length c.args.problem.now.labels) c.args.problem.now.constraints c.args.derivation.now.lines checks
