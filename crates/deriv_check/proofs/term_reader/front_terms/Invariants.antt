use Rattle.deriv_check.specs.Terms.{IsTerm}
use Rattle.deriv_check.specs.EvidenceText.{term_word}
use Rattle.deriv_check.specs.Reading.{seen}
use Rattle.deriv_check.proofs.ReadingLaws.{IsReadUpTo}
use Rattle.deriv_check.proofs.term_reader.front_terms.Given as goal

abbrev pub invariant-loop-word : goal.invariant-loop-word
invariant-loop-word l = IsReadUpTo IsTerm term_word (seen l.words) l.word-index l.found
