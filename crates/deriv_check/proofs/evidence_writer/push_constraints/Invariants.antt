use Rattle.std.proofs.Common.{◌≡◌, [], ◌∷◌, ◌++◌, take, All}
use Rattle.std.specs.List.{flat_map}
use Rattle.deriv_check.specs.EvidenceForm.{IsOrigin}
use Rattle.pb_core.specs.declared.constraint.Constraint.{Constraint}
use Rattle.deriv_check.specs.EvidenceText.{constraint_line}
use Rattle.deriv_check.proofs.evidence_writer.push_constraints.Given as goal

abbrev pub invariant-loop-constraint : goal.invariant-loop-constraint
invariant-loop-constraint l =
    (l.text.items ≡ l.fn.text.items ++ flat_map (λ x. constraint_line x ++ 10 ∷ []) (take l.constraint-index l.constraints)) × All (λ (x : Constraint). IsOrigin x.origin) (take l.constraint-index l.constraints)
