use Rattle.std.proofs.Common.{◌≡◌, ◌∷◌, ◌++◌, take, All}
use Rattle.std.specs.List.{flat_map}
use Rattle.deriv_check.specs.EvidenceForm.{IsLiteral}
use Rattle.deriv_check.specs.EvidenceText.{lit_word}
use Rattle.deriv_check.proofs.word_writer.push_lits.Given as goal

abbrev pub invariant-loop-lit : goal.invariant-loop-lit
invariant-loop-lit l =
    (l.line.items ≡ l.fn.line.items ++ flat_map (λ x. 32 ∷ lit_word x) (take l.lit-index l.lits)) × All IsLiteral (take l.lit-index l.lits)
