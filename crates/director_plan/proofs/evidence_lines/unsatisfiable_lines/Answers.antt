use Rattle.std.specs.Prelude.{codes}
use Rattle.std.proofs.Common.{rules, ◌≡◌, ℕ, List, [], ◌∷◌, ◌≤◌, ◌<◌, length, All, ◌++◌, ◌∙◌, ap, subst, sym, append_assoc}
use Rattle.deriv_check.specs.EvidenceText.{evidence_text}
use Rattle.director_plan.specs.EvidenceLines.{because_lines}
use Rattle.director_plan.proofs.TextLaws.{used_within}
use Rattle.director_plan.proofs.evidence_lines.unsatisfiable_lines.Goals as goal

pub push_causes-requires-clause-within : goal.push_causes-requires-clause-within
push_causes-requires-clause-within c =
    let P : List ℕ → Type 0 = λ numbers. All (λ n. (0 < n) × (n ≤ length c.args.evidence.now.problem.constraints)) numbers in
    subst P (sym c.items.ensures) (used_within c.args.evidence.now c.in_ok-numbers.numbers c.requires.refutes c.in_ok-numbers.ensures.exact)

pub returns : goal.returns
returns c =
    let front : c.extend_from_slice.new.self.items ≡ (codes "unsatisfiable" ++ 10 ∷ []) ++ evidence_text c.args.evidence.now = search rules in
    record {
      numbers = c.in_ok-numbers.numbers;
      used = record { rising = c.in_ok-numbers.ensures.rising; exact = c.in_ok-numbers.ensures.exact };
      refuted = c.in_ok-numbers.ensures.refutes c.requires.refutes.ends;
      spelling =
          c.from_vec.ensures
          ∙ c.in_ok-push_causes.ensures
          ∙ ap (λ (numbers : List ℕ). c.extend_from_slice.new.self.items ++ because_lines c.args.evidence.now.problem numbers) c.items.ensures
          ∙ ap (λ (l : List ℕ). l ++ because_lines c.args.evidence.now.problem c.in_ok-numbers.numbers) front
          ∙ append_assoc (codes "unsatisfiable" ++ 10 ∷ []) (evidence_text c.args.evidence.now) (because_lines c.args.evidence.now.problem c.in_ok-numbers.numbers);
    }
