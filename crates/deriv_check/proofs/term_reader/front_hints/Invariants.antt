use Rattle.std.specs.Fmt.{decimal}
use Rattle.deriv_check.specs.EvidenceForm.{IsHint}
use Rattle.deriv_check.specs.Reading.{seen}
use Rattle.deriv_check.proofs.ReadingLaws.{IsReadUpTo}
use Rattle.deriv_check.proofs.term_reader.front_hints.Given as goal

abbrev pub invariant-loop-word : goal.invariant-loop-word
invariant-loop-word l = IsReadUpTo IsHint decimal (seen l.words) l.word-index l.found
