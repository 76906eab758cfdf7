use Rattle.std.proofs.Common.{◌≡◌, [], ◌∷◌, ◌++◌, take, All}
use Rattle.std.specs.List.{flat_map}
use Rattle.std.specs.Str.{IsUtf8}
use Rattle.deriv_check.specs.EvidenceText.{label_line}
use Rattle.deriv_check.proofs.evidence_writer.push_labels.Given as goal

abbrev pub invariant-loop-label : goal.invariant-loop-label
invariant-loop-label l =
    (l.text.items ≡ l.fn.text.items ++ flat_map (λ x. label_line x ++ 10 ∷ []) (take l.label-index l.labels)) × All IsUtf8 (take l.label-index l.labels)
