-- The words of lines are words.
use Rattle.std.proofs.Common.{ℕ, arith, List, [], ◌∷◌, map, codes}
use Rattle.std.specs.Str.{IsUtf8}
use Rattle.std.specs.Fmt.{decimal}
use Rattle.std.proofs.lemmas.List.Elements.{All-cons, All-append, All-map, All-weaker}
use Rattle.osgi_version.specs.Field.{field}
use Rattle.deriv_check.specs.EvidenceForm.{IsCount, IsLine, IsLiteral, IsHint}
use Rattle.deriv_check.specs.EvidenceText.{lit_word, label_words, derived_words, problem_words, derivation_words}
use Rattle.deriv_check.specs.Reading.{AreCounts}
use Rattle.deriv_check.specs.Terms.{derived_parts}
use Rattle.deriv_check.specs.declared.derivation.Line.{Line}
use Rattle.deriv_check.proofs.Few.{all_one, all_two, all_three, all_four}
use Rattle.deriv_check.proofs.SolidLaws.{solid_lit}
use Rattle.deriv_check.proofs.WordLaws.{IsAbove, IsSolid, AreWords, are_words, decimal_solid, field_solid}

solid_count : (n : ℕ) → IsCount n → IsSolid (decimal n)
solid_count n h = decimal_solid n (omega (arith, h))

pub label_are_words : (label : List ℕ) → IsUtf8 label → AreWords (label_words label)
label_are_words label h = are_words (codes "v") (field label ∷ []) (all_one IsAbove 118 (omega arith, omega arith)) (all_one IsSolid (field label) (field_solid label h))

pub derived_are_words : (line : Line) → IsLine line → AreWords (derived_words line)
derived_are_words line h =
    are_words (codes "l") (derived_parts line) (all_one IsAbove 108 (omega arith, omega arith))
    (All-append IsSolid (map lit_word line.clause) (codes ";" ∷ map decimal line.hints)
    (All-map IsSolid lit_word line.clause (All-weaker IsLiteral (λ l. IsSolid (lit_word l)) solid_lit line.clause h.clause))
    (All-cons IsSolid (codes ";") (map decimal line.hints) (all_one IsAbove 59 (omega arith, omega arith))
    (All-map IsSolid decimal line.hints (All-weaker IsHint (λ n. IsSolid (decimal n)) (λ n k. decimal_solid n (omega (arith, k))) line.hints h.hints))))

problem_mark : IsSolid (codes "problem")
problem_mark = All-append IsAbove (codes "prob") (codes "lem") (all_four IsAbove 112 114 111 98 (omega arith, omega arith) (omega arith, omega arith) (omega arith, omega arith) (omega arith, omega arith)) (all_three IsAbove 108 101 109 (omega arith, omega arith) (omega arith, omega arith) (omega arith, omega arith))

pub problem_are_words : (counts : ℕ × ℕ) → AreCounts counts → AreWords (problem_words counts)
problem_are_words counts h =
    are_words (codes "problem") (decimal counts.0 ∷ decimal counts.1 ∷ []) problem_mark
    (all_two IsSolid (decimal counts.0) (decimal counts.1) (solid_count counts.0 h.0) (solid_count counts.1 h.1))

derivation_mark : IsSolid (codes "derivation")
derivation_mark = All-append IsAbove (codes "deri") (codes "vation") (all_four IsAbove 100 101 114 105 (omega arith, omega arith) (omega arith, omega arith) (omega arith, omega arith) (omega arith, omega arith))
    (All-append IsAbove (codes "vat") (codes "ion") (all_three IsAbove 118 97 116 (omega arith, omega arith) (omega arith, omega arith) (omega arith, omega arith)) (all_three IsAbove 105 111 110 (omega arith, omega arith) (omega arith, omega arith) (omega arith, omega arith)))

pub derivation_are_words : (count : ℕ) → IsCount count → AreWords (derivation_words count)
derivation_are_words count h = are_words (codes "derivation") (decimal count ∷ []) derivation_mark (all_one IsSolid (decimal count) (solid_count count h))
