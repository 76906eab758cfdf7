use Rattle.std.proofs.Common.{ℕ, List, Option, Bor, Err, length, map, replicate, get_or, subst, sym, ◌∙◌, arith}
use Rattle.std.proofs.lemmas.List.{take_rest, length-replicate}
use Rattle.std.proofs.lemmas.List.Elements.{All-replicate}
use Rattle.deriv_check.specs.EvidenceForm.{IsCount, IsLine, IsDerivation}
use Rattle.deriv_check.specs.EvidenceText.{derivation_line, derived_line, derivation_lines}
use Rattle.deriv_check.specs.Reading.{Reading, Parses, IsListOf, seen}
use Rattle.deriv_check.specs.declared.stop.Stop.{Stop}
use Rattle.deriv_check.specs.declared.derivation.Line.{Line}
use Rattle.deriv_check.proofs.ReadingLaws.{no_word, no_length, some_length}
use Rattle.deriv_check.proofs.EvidenceLaws.{head_empty, head_refused, head_found, head_stops, derivation_of, counted_of, same_derivation, spare_line, spare_line_is}
use Rattle.deriv_check.proofs.evidence_reader.read_derivation.Goals as goal

abbrev spare_lines : ℕ → List Line
spare_lines count = replicate count spare_line

spare_lines_are : (count : ℕ) → IsCount count → IsListOf IsLine count (spare_lines count)
spare_lines_are count h = (length-replicate count spare_line, All-replicate IsLine count spare_line spare_line_is)

pub returns-then-is_empty : goal.returns-then-is_empty
returns-then-is_empty c =
    head_empty IsCount derivation_line (λ count. IsListOf IsLine count) (map derived_line) IsDerivation derivation_lines derivation_of counted_of same_derivation 0 (omega arith) spare_lines spare_lines_are c.args.lines.now
    (no_length (length c.args.lines.now) (sym c.is_empty.ensures ∙ c.if-is_empty.true))

pub returns-in_default : goal.returns-in_default
returns-in_default c =
    head_refused IsCount derivation_line (λ count. IsListOf IsLine count) (map derived_line) IsDerivation derivation_lines derivation_of counted_of same_derivation 0 (omega arith) spare_lines spare_lines_are c.args.lines.now
    (some_length (length c.args.lines.now) (sym c.is_empty.ensures ∙ c.if-is_empty.false))
    (subst (λ (o : Option ℕ). Reading IsCount derivation_line (get_or c.args.lines.now 0 no_word).now o) c.in_default.is c.in_ok-count.ensures)

pub returns-in-Ok : goal.returns-in-Ok
returns-in-Ok c =
    head_found IsCount derivation_line (λ count. IsListOf IsLine count) (map derived_line) IsDerivation derivation_lines derivation_of counted_of same_derivation c.args.lines.now c.in-Some.count c.in-Ok.lines
    (some_length (length c.args.lines.now) (sym c.is_empty.ensures ∙ c.if-is_empty.false))
    (subst (λ (o : Option ℕ). Reading IsCount derivation_line (get_or c.args.lines.now 0 no_word).now o) c.in-Some.is c.in_ok-count.ensures)
    (rw take_rest at c.in-Ok.ensures)

pub returns-in-Err : goal.returns-in-Err
returns-in-Err c =
    subst (λ (s : Stop). Parses IsDerivation derivation_lines (seen c.args.lines.now) (Err s)) (sym c.behind.ensures)
    (head_stops IsCount derivation_line (λ count. IsListOf IsLine count) (map derived_line) IsDerivation derivation_lines derivation_of counted_of same_derivation c.args.lines.now c.in-Some.count c.in-Err.stop
    (some_length (length c.args.lines.now) (sym c.is_empty.ensures ∙ c.if-is_empty.false))
    (subst (λ (o : Option ℕ). Reading IsCount derivation_line (get_or c.args.lines.now 0 no_word).now o) c.in-Some.is c.in_ok-count.ensures)
    (subst (λ (l : List (Bor (List ℕ))). Parses (IsListOf IsLine c.in-Some.count) (map derived_line) (seen l) (Err c.in-Err.stop)) (take_rest c.args.lines.now 1) c.in-Err.ensures))
