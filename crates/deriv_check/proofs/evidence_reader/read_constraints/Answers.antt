use Rattle.std.proofs.Common.{ℕ, List, Bor, map, subst, sym, arith}
use Rattle.deriv_check.specs.EvidenceForm.{IsConstraintOver}
use Rattle.deriv_check.proofs.EvidenceLaws.{list_found, list_stops, spare_constraint, no_constraint_over}
use Rattle.deriv_check.specs.EvidenceText.{constraint_line}
use Rattle.deriv_check.specs.Reading.{IsFront, Stops, IsListOf, seen}
use Rattle.deriv_check.proofs.evidence_reader.read_constraints.Goals as goal

pub returns-then-number-count : goal.returns-then-number-count
returns-then-number-count c =
    let front = subst (λ (l : List (Bor (List ℕ))). IsFront (IsConstraintOver c.args.labels.now) constraint_line (seen l) c.in_ok-found.found) c.up_to.ensures c.in_ok-found.ensures in
    subst (λ n. Stops (IsListOf (IsConstraintOver c.args.labels.now) c.args.count) (map constraint_line) (seen c.args.lines.now) n) (sym c.len-number.ensures)
    (list_stops (IsConstraintOver c.args.labels.now) constraint_line c.args.lines.now c.args.count c.in_ok-found.found spare_constraint (no_constraint_over c.args.labels.now) front (omega (arith, c.if-number-count.true, c.len-number.ensures)))

pub returns : goal.returns
returns c =
    let front = subst (λ (l : List (Bor (List ℕ))). IsFront (IsConstraintOver c.args.labels.now) constraint_line (seen l) c.in_ok-found.found) c.up_to.ensures c.in_ok-found.ensures in
    list_found (IsConstraintOver c.args.labels.now) constraint_line c.args.lines.now c.args.count c.in_ok-found.found front (omega (arith, c.if-number-count.false, c.len-number.ensures))
