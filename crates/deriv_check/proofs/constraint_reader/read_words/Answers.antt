use Rattle.std.proofs.Common.{◌≡◌, ℕ, List, ◌∷◌, sym, ap, ◌∙◌, arith, drop, get_or, not, false, true, Bool, codes}
use Rattle.std.specs.Str.{bytes_eq}
use Rattle.std.proofs.lemmas.List.{take_rest}
use Rattle.std.proofs.lemmas.Slice.Eq.{bytes_eq-Decides}
use Rattle.deriv_check.specs.EvidenceForm.{IsConstraintOver}
use Rattle.deriv_check.specs.Reading.{seen}
use Rattle.deriv_check.specs.Terms.{constraint_parts}
use Rattle.deriv_check.proofs.ReadingLaws.{no_word, seen_three, reading_behind_read}
use Rattle.deriv_check.proofs.constraint_reader.read_words.Goals as goal

negated : (t : Bool) → not t ≡ false → t ≡ true
negated true h = cc
negated false h = cc

same_bytes : (a b : List ℕ) → not (bytes_eq a b) ≡ false → a ≡ b
same_bytes a b eq = (bytes_eq-Decides a b).0 (negated (bytes_eq a b) eq)

pub returns : goal.returns
returns c =
    let words = c.args.words.now in
    let mark : (get_or words 0 no_word).now ≡ codes "c" = same_bytes (get_or words 0 no_word).now c.as_slice.result.now (sym c.ne.ensures ∙ c.if-ne.false) ∙ c.as_slice.ensures in
    let whole = seen_three words (omega arith) ∙ ap (λ w. w ∷ (get_or words 1 no_word).now ∷ (get_or words 2 no_word).now ∷ seen (drop 3 words)) mark in
    reading_behind_read (IsConstraintOver c.args.labels.now) constraint_parts (codes "c") (seen words) _ c.read_parts.result whole (rw take_rest at c.read_parts.ensures)
