use Rattle.std.specs.Str.{IsUtf8}
use Rattle.deriv_check.specs.EvidenceText.{label_line}
use Rattle.deriv_check.specs.Reading.{seen}
use Rattle.deriv_check.proofs.ReadingLaws.{IsReadUpTo}
use Rattle.deriv_check.proofs.line_reader.front_labels.Given as goal

abbrev pub invariant-loop-line : goal.invariant-loop-line
invariant-loop-line l = IsReadUpTo IsUtf8 label_line (seen l.lines) l.line-index l.found
