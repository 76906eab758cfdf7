use Rattle.std.proofs.Common.{ℕ, List, Bor, map, subst, sym, arith}
use Rattle.deriv_check.specs.EvidenceForm.{IsLine}
use Rattle.deriv_check.proofs.EvidenceLaws.{list_found, list_stops, spare_line, spare_line_is}
use Rattle.deriv_check.specs.EvidenceText.{derived_line}
use Rattle.deriv_check.specs.Reading.{IsFront, Stops, IsListOf, seen}
use Rattle.deriv_check.proofs.evidence_reader.read_derived.Goals as goal

pub returns-then-number-count : goal.returns-then-number-count
returns-then-number-count c =
    let front = subst (λ (l : List (Bor (List ℕ))). IsFront IsLine derived_line (seen l) c.in_ok-found.found) c.up_to.ensures c.in_ok-found.ensures in
    subst (λ n. Stops (IsListOf IsLine c.args.count) (map derived_line) (seen c.args.lines.now) n) (sym c.len-number.ensures)
    (list_stops IsLine derived_line c.args.lines.now c.args.count c.in_ok-found.found spare_line spare_line_is front (omega (arith, c.if-number-count.true, c.len-number.ensures)))

pub returns : goal.returns
returns c =
    let front = subst (λ (l : List (Bor (List ℕ))). IsFront IsLine derived_line (seen l) c.in_ok-found.found) c.up_to.ensures c.in_ok-found.ensures in
    list_found IsLine derived_line c.args.lines.now c.args.count c.in_ok-found.found front (omega (arith, c.if-number-count.false, c.len-number.ensures))
