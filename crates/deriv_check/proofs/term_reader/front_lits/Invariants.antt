use Rattle.deriv_check.specs.EvidenceForm.{IsLiteral}
use Rattle.deriv_check.specs.EvidenceText.{lit_word}
use Rattle.deriv_check.specs.Reading.{seen}
use Rattle.deriv_check.proofs.ReadingLaws.{IsReadUpTo}
use Rattle.deriv_check.proofs.term_reader.front_lits.Given as goal

abbrev pub invariant-loop-word : goal.invariant-loop-word
invariant-loop-word l = IsReadUpTo IsLiteral lit_word (seen l.words) l.word-index l.found
