use Rattle.std.proofs.Common.{◌≡◌, ◌∷◌, ◌++◌, take, All}
use Rattle.std.specs.Fmt.{decimal}
use Rattle.std.specs.List.{flat_map}
use Rattle.deriv_check.specs.EvidenceForm.{IsHint}
use Rattle.deriv_check.proofs.word_writer.push_hints.Given as goal

abbrev pub invariant-loop-hint : goal.invariant-loop-hint
invariant-loop-hint l =
    (l.line.items ≡ l.fn.line.items ++ flat_map (λ x. 32 ∷ decimal x) (take l.hint-index l.hints)) × All IsHint (take l.hint-index l.hints)
