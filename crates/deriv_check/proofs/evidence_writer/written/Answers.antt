use Rattle.std.proofs.Common.{ℕ, List, [], ◌∷◌, ◌++◌, length, All, subst, ◌∙◌}
use Rattle.std.specs.List.{flat_map}
use Rattle.std.specs.Str.{IsUtf8}
use Rattle.pb_core.specs.declared.constraint.Constraint.{Constraint}
use Rattle.deriv_check.specs.declared.derivation.Line.{Line}
use Rattle.deriv_check.specs.EvidenceForm.{IsLine, IsOrigin}
use Rattle.deriv_check.specs.EvidenceText.{label_line, constraint_line, derived_line, problem_line, derivation_line}
use Rattle.deriv_check.proofs.WritingLaws.{evidence_written, problem_form}
use Rattle.deriv_check.proofs.evidence_writer.written.Goals as goal

pub returns-clause-text : goal.returns-clause-text
returns-clause-text c =
    evidence_written c.args.evidence.now c.new-text.result.items c.push_problem_line.new.text.items c.push_labels.new.text.items c.push_constraints.new.text.items
    c.push_derivation_line.new.text.items c.push_lines.new.text.items
    c.new-text.ensures.items
    (c.in_ok-push_problem_line.ensures ∙ (λ i. c.new-text.result.items ++ (problem_line (length (c.items-labels.ensures i), length (c.items-constraints.ensures i)) ++ 10 ∷ [])))
    (c.in_ok-push_labels.ensures.spelled ∙ (λ i. c.push_problem_line.new.text.items ++ flat_map (λ l. label_line l ++ 10 ∷ []) (c.items-labels.ensures i)))
    (c.in_ok-push_constraints.ensures.spelled ∙ (λ i. c.push_labels.new.text.items ++ flat_map (λ k. constraint_line k ++ 10 ∷ []) (c.items-constraints.ensures i)))
    (c.in_ok-push_derivation_line.ensures ∙ (λ i. c.push_constraints.new.text.items ++ (derivation_line (length (c.items-lines.ensures i)) ++ 10 ∷ [])))
    (c.in_ok-push_lines.ensures.spelled ∙ (λ i. c.push_derivation_line.new.text.items ++ flat_map (λ l. derived_line l ++ 10 ∷ []) (c.items-lines.ensures i)))

pub returns-clause-form : goal.returns-clause-form
returns-clause-form c = record {
  problem = problem_form c.args.evidence.now.problem c.requires.labels c.requires.constraints c.requires.normal c.requires.named
      (subst (λ (l : List (List ℕ)). All IsUtf8 l) c.items-labels.ensures c.in_ok-push_labels.ensures.utf8)
      (subst (λ (l : List Constraint). All (λ k. IsOrigin k.origin) l) c.items-constraints.ensures c.in_ok-push_constraints.ensures.in_type);
  derivation = record {
    few_lines = c.requires.lines;
    lines = subst (λ (l : List Line). All IsLine l) c.items-lines.ensures c.in_ok-push_lines.ensures.in_type;
  };
}
