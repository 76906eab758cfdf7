use Rattle.std.proofs.Common.{◌≡◌, [], ◌∷◌, ◌++◌, take, All}
use Rattle.std.specs.List.{flat_map}
use Rattle.deriv_check.specs.EvidenceForm.{IsLine}
use Rattle.deriv_check.specs.EvidenceText.{derived_line}
use Rattle.deriv_check.proofs.evidence_writer.push_lines.Given as goal

abbrev pub invariant-loop-line : goal.invariant-loop-line
invariant-loop-line l =
    (l.text.items ≡ l.fn.text.items ++ flat_map (λ x. derived_line x ++ 10 ∷ []) (take l.line-index l.lines)) × All IsLine (take l.line-index l.lines)
