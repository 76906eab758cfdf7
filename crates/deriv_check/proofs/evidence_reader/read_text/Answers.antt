use Rattle.std.proofs.Common.{◌≡◌, ℕ, List, [], ◌∷◌, Bor, Ok, Err, length, drop, get_or, subst, sym, ◌∙◌, arith}
use Rattle.std.proofs.lemmas.List.{take_rest}
use Rattle.deriv_check.specs.EvidenceAnswers.{AnswersLines}
use Rattle.deriv_check.specs.EvidenceForm.{IsEvidence, BeginsProblem}
use Rattle.deriv_check.specs.EvidenceText.{evidence_lines}
use Rattle.deriv_check.specs.Reading.{Parses, stop_behind, seen}
use Rattle.deriv_check.specs.declared.stop.Stop.{Stop}
use Rattle.deriv_check.proofs.ReadingLaws.{no_word, no_length, some_length, seen_first}
use Rattle.deriv_check.proofs.SkipLaws.{IsPlain, answers_plain, skipped_found, skipped_stops}
use Rattle.deriv_check.proofs.evidence_reader.read_text.Goals as goal

plain_none : (lines : List (Bor (List ℕ))) → length lines ≡ 0 → IsPlain (seen lines)
plain_none [] n s rest e = absurd (cc)
plain_none (w ∷ lines) n s rest e = absurd (omega arith)

plain_some : (lines : List (Bor (List ℕ))) → BeginsProblem (get_or lines 0 no_word).now → IsPlain (seen lines)
plain_some [] h s rest e = absurd (cc)
plain_some (w ∷ lines) h s rest e = let same : w.now ≡ s = cc in subst BeginsProblem same h

pub returns-then-is_empty : goal.returns-then-is_empty
returns-then-is_empty c =
    answers_plain (seen c.args.lines.now) c.read_lines.result (plain_none c.args.lines.now (no_length (length c.args.lines.now) (sym c.is_empty.ensures ∙ c.if-is_empty.true))) c.read_lines.ensures

pub returns-then-begins_problem : goal.returns-then-begins_problem
returns-then-begins_problem c =
    answers_plain (seen c.args.lines.now) c.read_lines-then-begins_problem.result (plain_some c.args.lines.now (c.begins_problem.ensures.0 (cc))) c.read_lines-then-begins_problem.ensures

pub returns-in-Ok : goal.returns-in-Ok
returns-in-Ok c =
    let first = seen_first c.args.lines.now (some_length (length c.args.lines.now) (sym c.is_empty.ensures ∙ c.if-is_empty.false)) in
    let other : BeginsProblem (get_or c.args.lines.now 0 no_word).now → ⊥ = λ b. let is = c.begins_problem.ensures.1 b in cc in
    let read = subst (λ (l : List (Bor (List ℕ))). Parses IsEvidence evidence_lines (seen l) (Ok c.in-Ok.evidence)) (take_rest c.args.lines.now 1) c.in-Ok.ensures in
    subst (λ (l : List (List ℕ)). AnswersLines l (Ok c.in-Ok.evidence)) (sym first)
    (skipped_found (get_or c.args.lines.now 0 no_word).now (seen (drop 1 c.args.lines.now)) c.in-Ok.evidence other read)

pub returns-in-Err : goal.returns-in-Err
returns-in-Err c =
    let first = seen_first c.args.lines.now (some_length (length c.args.lines.now) (sym c.is_empty.ensures ∙ c.if-is_empty.false)) in
    let other : BeginsProblem (get_or c.args.lines.now 0 no_word).now → ⊥ = λ b. let is = c.begins_problem.ensures.1 b in cc in
    let read = subst (λ (l : List (Bor (List ℕ))). Parses IsEvidence evidence_lines (seen l) (Err c.in-Err.stop)) (take_rest c.args.lines.now 1) c.in-Err.ensures in
    subst (λ (s : Stop). AnswersLines (seen c.args.lines.now) (Err s)) (sym c.behind.ensures)
    (subst (λ (l : List (List ℕ)). AnswersLines l (Err (stop_behind 1 c.in-Err.stop))) (sym first)
    (skipped_stops (get_or c.args.lines.now 0 no_word).now (seen (drop 1 c.args.lines.now)) c.in-Err.stop other read))
