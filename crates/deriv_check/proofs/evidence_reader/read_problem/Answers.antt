use Rattle.std.proofs.Common.{ℕ, List, [], Option, Bor, Err, length, replicate, get_or, subst, sym, ◌∙◌, arith}
use Rattle.std.proofs.lemmas.List.{take_rest}
use Rattle.pb_core.specs.declared.constraint.Constraint.{Constraint}
use Rattle.deriv_check.specs.EvidenceForm.{IsProblem}
use Rattle.deriv_check.specs.EvidenceText.{problem_line, problem_lines}
use Rattle.deriv_check.specs.Reading.{Reading, Parses, AreCounts, AreVariables, variable_lines, seen}
use Rattle.deriv_check.specs.declared.stop.Stop.{Stop}
use Rattle.deriv_check.proofs.ReadingLaws.{no_word, no_length, some_length}
use Rattle.deriv_check.proofs.EvidenceLaws.{head_empty, head_refused, head_found, head_stops, problem_of, counted, same_problem, spare_constraint, spare_variables_are}
use Rattle.deriv_check.proofs.evidence_reader.read_problem.Goals as goal

abbrev spare_variables : ℕ × ℕ → List (List ℕ) × List Constraint
spare_variables counts = (replicate counts.0 [], replicate counts.1 spare_constraint)

pub returns-then-is_empty : goal.returns-then-is_empty
returns-then-is_empty c =
    head_empty AreCounts problem_line AreVariables variable_lines IsProblem problem_lines problem_of counted same_problem (0, 0) (omega arith, omega arith) spare_variables (λ counts h. spare_variables_are counts) c.args.lines.now
    (no_length (length c.args.lines.now) (sym c.is_empty.ensures ∙ c.if-is_empty.true))

pub returns-in_default : goal.returns-in_default
returns-in_default c =
    head_refused AreCounts problem_line AreVariables variable_lines IsProblem problem_lines problem_of counted same_problem (0, 0) (omega arith, omega arith) spare_variables (λ counts h. spare_variables_are counts) c.args.lines.now
    (some_length (length c.args.lines.now) (sym c.is_empty.ensures ∙ c.if-is_empty.false))
    (subst (λ (o : Option (ℕ × ℕ)). Reading AreCounts problem_line (get_or c.args.lines.now 0 no_word).now o) c.in_default.is c.in_ok-labels.ensures)

pub returns-in-Ok : goal.returns-in-Ok
returns-in-Ok c =
    head_found AreCounts problem_line AreVariables variable_lines IsProblem problem_lines problem_of counted same_problem c.args.lines.now (c.in-Some.labels, c.in-Some.constraints) (c.in-Ok.labels, c.in-Ok.constraints)
    (some_length (length c.args.lines.now) (sym c.is_empty.ensures ∙ c.if-is_empty.false))
    (subst (λ (o : Option (ℕ × ℕ)). Reading AreCounts problem_line (get_or c.args.lines.now 0 no_word).now o) c.in-Some.is c.in_ok-labels.ensures)
    (rw take_rest at c.in-Ok.ensures)

pub returns-in-Err : goal.returns-in-Err
returns-in-Err c =
    subst (λ (s : Stop). Parses IsProblem problem_lines (seen c.args.lines.now) (Err s)) (sym c.behind.ensures)
    (head_stops AreCounts problem_line AreVariables variable_lines IsProblem problem_lines problem_of counted same_problem c.args.lines.now (c.in-Some.labels, c.in-Some.constraints) c.in-Err.stop
    (some_length (length c.args.lines.now) (sym c.is_empty.ensures ∙ c.if-is_empty.false))
    (subst (λ (o : Option (ℕ × ℕ)). Reading AreCounts problem_line (get_or c.args.lines.now 0 no_word).now o) c.in-Some.is c.in_ok-labels.ensures)
    (subst (λ (l : List (Bor (List ℕ))). Parses (AreVariables (c.in-Some.labels, c.in-Some.constraints)) variable_lines (seen l) (Err c.in-Err.stop)) (take_rest c.args.lines.now 1) c.in-Err.ensures))
