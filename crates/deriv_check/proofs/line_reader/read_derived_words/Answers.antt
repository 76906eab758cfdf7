use Rattle.std.proofs.Common.{◌≡◌, ◌≤◌, ◌==◌, ℕ, ◌∷◌, false, sym, ap, ◌∙◌, arith, length, drop, get_or, codes}
use Rattle.std.proofs.lemmas.Bool.Decides.{nat_tests}
use Rattle.std.proofs.lemmas.List.{take_rest}
use Rattle.deriv_check.specs.EvidenceForm.{IsLine}
use Rattle.deriv_check.specs.Reading.{seen}
use Rattle.deriv_check.specs.Terms.{derived_parts}
use Rattle.deriv_check.proofs.ReadingLaws.{no_word, seen_first, reading_behind_read, same_bytes}
use Rattle.deriv_check.proofs.line_reader.read_derived_words.Goals as goal

some_length : (n : ℕ) → (n == 0) ≡ false → 1 ≤ n
some_length n h = grind (arith, nat_tests)

pub returns : goal.returns
returns c =
    let words = c.args.words.now in
    let mark : (get_or words 0 no_word).now ≡ codes "l" = same_bytes (get_or words 0 no_word).now c.as_slice.result.now (sym c.ne.ensures ∙ c.if-ne.false) ∙ c.as_slice.ensures in
    let some = some_length (length words) (sym c.is_empty.ensures ∙ c.if-is_empty.false) in
    let whole = seen_first words some ∙ ap (λ w. w ∷ seen (drop 1 words)) mark in
    reading_behind_read IsLine derived_parts (codes "l") (seen words) _ c.read_parts.result whole (rw take_rest at c.read_parts.ensures)
