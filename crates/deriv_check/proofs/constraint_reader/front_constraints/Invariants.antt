use Rattle.deriv_check.specs.EvidenceForm.{IsConstraintOver}
use Rattle.deriv_check.specs.EvidenceText.{constraint_line}
use Rattle.deriv_check.specs.Reading.{seen}
use Rattle.deriv_check.proofs.ReadingLaws.{IsReadUpTo}
use Rattle.deriv_check.proofs.constraint_reader.front_constraints.Given as goal

abbrev pub invariant-loop-line : goal.invariant-loop-line
invariant-loop-line l = IsReadUpTo (IsConstraintOver l.labels) constraint_line (seen l.lines) l.line-index l.found
