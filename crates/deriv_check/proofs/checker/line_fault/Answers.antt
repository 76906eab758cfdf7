use Rattle.deriv_check.proofs.checker.line_fault.Goals as goal

pub conflict-requires-clause-literals : goal.conflict-requires-clause-literals
conflict-requires-clause-literals c = λ k d h. rw c.deny.ensures.size (c.requires.literals k d h)
