use Rattle.deriv_check.specs.EvidenceForm.{IsLine}
use Rattle.deriv_check.specs.EvidenceText.{derived_line}
use Rattle.deriv_check.specs.Reading.{seen}
use Rattle.deriv_check.proofs.ReadingLaws.{IsReadUpTo}
use Rattle.deriv_check.proofs.line_reader.front_lines.Given as goal

abbrev pub invariant-loop-line : goal.invariant-loop-line
invariant-loop-line l = IsReadUpTo IsLine derived_line (seen l.lines) l.line-index l.found
