use Rattle.std.proofs.Common.{ℕ, List, [], Bor, map, subst, sym, arith}
use Rattle.std.specs.Str.{IsUtf8}
use Rattle.std.proofs.lemmas.Str.{IsUtf8-nil}
use Rattle.deriv_check.proofs.EvidenceLaws.{list_found, list_stops}
use Rattle.deriv_check.specs.EvidenceText.{label_line}
use Rattle.deriv_check.specs.Reading.{IsFront, Stops, IsListOf, seen}
use Rattle.deriv_check.proofs.evidence_reader.read_labels.Goals as goal

pub returns-then-number-count : goal.returns-then-number-count
returns-then-number-count c =
    let front = subst (λ (l : List (Bor (List ℕ))). IsFront IsUtf8 label_line (seen l) c.in_ok-found.found) c.up_to.ensures c.in_ok-found.ensures in
    subst (λ n. Stops (IsListOf IsUtf8 c.args.count) (map label_line) (seen c.args.lines.now) n) (sym c.len-number.ensures)
    (list_stops IsUtf8 label_line c.args.lines.now c.args.count c.in_ok-found.found [] IsUtf8-nil front (omega (arith, c.if-number-count.true, c.len-number.ensures)))

pub returns : goal.returns
returns c =
    let front = subst (λ (l : List (Bor (List ℕ))). IsFront IsUtf8 label_line (seen l) c.in_ok-found.found) c.up_to.ensures c.in_ok-found.ensures in
    list_found IsUtf8 label_line c.args.lines.now c.args.count c.in_ok-found.found front (omega (arith, c.if-number-count.false, c.len-number.ensures))
