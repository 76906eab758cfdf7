use Rattle.unit_text.proofs.Outcomes.{refused_by}
use Rattle.unit_text.proofs.taking.advance.Goals as goal

pub returns-then-not-branch : goal.returns-then-not-branch
returns-then-not-branch c =
    refused_by c.args.line.now c.in-Some.part c.args.draft.now (rw c.in-Some.is at c.in_ok-part.ensures) (rw c.if-not-branch.true at c.in_ok-put.ensures)
