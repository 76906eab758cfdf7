use Rattle.deriv_check.proofs.lines.conflict.Goals as goal

pub take_numbered-requires-clause-literals : goal.take_numbered-requires-clause-literals
take_numbered-requires-clause-literals c = λ k d h. rw c.loop-hint.invariant.1 (c.requires.literals k d h)
