use Rattle.std.proofs.Common.{◌≡◌, ℕ, List, [], ◌∷◌, Option, subst, sym, ◌∙◌, arith, get_or, drop, codes}
use Rattle.std.specs.Fmt.{decimal}
use Rattle.std.proofs.lemmas.List.{nil_from_length, length-drop}
use Rattle.deriv_check.specs.EvidenceForm.{IsCount}
use Rattle.deriv_check.specs.Reading.{Reading, seen}
use Rattle.deriv_check.proofs.ReadingLaws.{no_word, seen_three, same_bytes}
use Rattle.deriv_check.proofs.line_reader.read_problem_words.Goals as goal

second : (m a b x y : List ℕ) → m ∷ a ∷ b ∷ [] ≡ m ∷ x ∷ y ∷ [] → (a ≡ x) × (b ≡ y)
second m a b x y e = (cc, cc)

pub returns : goal.returns
returns c =
    let words = c.args.words.now in
    let mark : (get_or words 0 no_word).now ≡ codes "problem" = same_bytes (get_or words 0 no_word).now c.as_slice.result.now (sym c.ne.ensures ∙ c.if-ne.false) ∙ c.as_slice.ensures in
    let none = nil_from_length (drop 3 words) (omega (arith, length-drop 3 words, c.if-words-ne3.false)) in
    let whole = seen_three words (omega arith) ∙ (λ i. mark i ∷ (get_or words 1 no_word).now ∷ (get_or words 2 no_word).now ∷ seen (none i)) in
    let r = subst (λ (o : Option ℕ). Reading IsCount decimal (get_or words 1 no_word).now o) c.in-Some.is c.in_ok-labels.ensures in
    let s = subst (λ (o : Option ℕ). Reading IsCount decimal (get_or words 2 no_word).now o) c.in-Some-2.is c.in_ok-constraints.ensures in (
      (r.0, s.0),
      whole ∙ (λ i. codes "problem" ∷ r.1 i ∷ s.1 i ∷ []),
      λ x valid e.
          let parts = second (codes "problem") _ _ (decimal x.0) (decimal x.1) (sym whole ∙ e) in
          let left = r.2 x.0 valid.0 parts.0 in
          let right = s.2 x.1 valid.1 parts.1 in
          λ i. (left i, right i),
    )
