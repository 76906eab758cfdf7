use Rattle.std.proofs.Common.{◌≡◌, ◌∷◌, ◌++◌, take}
use Rattle.std.specs.List.{flat_map}
use Rattle.deriv_check.specs.EvidenceText.{term_word}
use Rattle.deriv_check.proofs.word_writer.push_terms.Given as goal

abbrev pub invariant-loop-term : goal.invariant-loop-term
invariant-loop-term l = l.line.items ≡ l.fn.line.items ++ flat_map (λ x. 32 ∷ term_word x) (take l.term-index l.terms)
