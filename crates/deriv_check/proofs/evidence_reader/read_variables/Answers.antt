use Rattle.std.proofs.Common.{◌≡◌, ℕ, List, Bor, Result, Ok, Err, length, map, drop, replicate, subst, sym, ap, ◌∙◌}
use Rattle.std.specs.Str.{IsUtf8}
use Rattle.std.proofs.lemmas.List.{take_rest, length-map, length-replicate}
use Rattle.std.proofs.lemmas.List.Elements.{All-replicate}
use Rattle.pb_core.specs.declared.constraint.Constraint.{Constraint}
use Rattle.deriv_check.specs.EvidenceForm.{IsConstraintOver}
use Rattle.deriv_check.specs.EvidenceText.{label_line, constraint_line}
use Rattle.deriv_check.specs.Reading.{Parses, IsListOf, AreVariables, variable_lines, stop_behind, seen}
use Rattle.deriv_check.specs.declared.stop.Stop.{Stop}
use Rattle.deriv_check.proofs.FormLaws.{begun-pair}
use Rattle.deriv_check.proofs.EvidenceLaws.{pair_first, pair_second, seen-drop, spare_constraint, no_constraint_over}
use Rattle.deriv_check.proofs.evidence_reader.read_variables.Goals as goal

spare : (count : ℕ) (labels : List (List ℕ)) → IsListOf (IsConstraintOver labels) count (replicate count spare_constraint)
spare count labels = (length-replicate count spare_constraint, All-replicate (IsConstraintOver labels) count spare_constraint (no_constraint_over labels))

-- what stands behind the labels
behind_labels : (lines : List (Bor (List ℕ))) (items named : List (List ℕ)) (k count : ℕ) (r : Result (List Constraint) Stop) → items ≡ named → k ≡ length named
    → Parses (IsListOf (IsConstraintOver items) count) (map constraint_line) (seen (drop k lines)) r
    → Parses (IsListOf (IsConstraintOver named) count) (map constraint_line) (drop (length (map label_line named)) (seen lines)) r
behind_labels lines items named k count r same n h =
    let place : k ≡ length (map label_line named) = n ∙ sym (length-map named label_line) in
    subst (λ (l : List (List ℕ)). Parses (IsListOf (IsConstraintOver named) count) (map constraint_line) l r) (seen-drop lines k ∙ ap (λ j. drop j (seen lines)) place)
    (subst (λ (l : List (List ℕ)). Parses (IsListOf (IsConstraintOver l) count) (map constraint_line) (seen (drop k lines)) r) same h)

pub returns-in-Err : goal.returns-in-Err
returns-in-Err c =
    pair_first (IsListOf IsUtf8 c.args.labels) (λ labels. IsListOf (IsConstraintOver labels) c.args.constraints) (map label_line) (map constraint_line) (seen c.args.lines.now) c.in-Err.stop
    (λ labels. replicate c.args.constraints spare_constraint) (λ labels h. spare c.args.constraints labels) c.in-Err.ensures

pub returns-in-Ok-read_constraints : goal.returns-in-Ok-read_constraints
returns-in-Ok-read_constraints c =
    begun-pair (IsListOf IsUtf8 c.args.labels) (λ labels. IsListOf (IsConstraintOver labels) c.args.constraints) (map label_line) (map constraint_line) (seen c.args.lines.now)
    c.in-Ok.named c.in-Ok-read_constraints.found c.in-Ok.ensures
    (behind_labels c.args.lines.now c.items.result.now c.in-Ok.named c.len-behind.result c.args.constraints (Ok c.in-Ok-read_constraints.found) c.items.ensures c.len-behind.ensures
    (rw take_rest at c.in-Ok-read_constraints.ensures))

pub returns-in-Err-read_constraints : goal.returns-in-Err-read_constraints
returns-in-Err-read_constraints c =
    let n : length (map label_line c.in-Ok.named) ≡ c.len-behind.result = length-map c.in-Ok.named label_line ∙ sym c.len-behind.ensures in
    subst (λ (s : Stop). Parses (AreVariables (c.args.labels, c.args.constraints)) variable_lines (seen c.args.lines.now) (Err s))
    (ap (λ k. stop_behind k c.in-Err-read_constraints.stop) n ∙ sym c.behind.ensures)
    (pair_second (IsListOf IsUtf8 c.args.labels) (λ labels. IsListOf (IsConstraintOver labels) c.args.constraints) (map label_line) (map constraint_line) (seen c.args.lines.now)
    c.in-Ok.named c.in-Err-read_constraints.stop c.in-Ok.ensures
    (behind_labels c.args.lines.now c.items.result.now c.in-Ok.named c.len-behind.result c.args.constraints (Err c.in-Err-read_constraints.stop) c.items.ensures c.len-behind.ensures
    (subst (λ (l : List (Bor (List ℕ))). Parses (IsListOf (IsConstraintOver c.items.result.now) c.args.constraints) (map constraint_line) (seen l) (Err c.in-Err-read_constraints.stop)) (take_rest c.args.lines.now c.len-behind.result) c.in-Err-read_constraints.ensures)))
