-- Facts on the parts of a text.
use Rattle.std.proofs.Common.{◌≡◌, ◌≢◌, ℕ, ◌+◌, ◌-◌, ◌<◌, ◌==◌, ◌≤◌, nat_lt, not, Bool, true, false, cond, List, [], ◌∷◌, ◌++◌, length, take, get_or, Option, Some, None, option_map, MatchOption, Bor, refl, sym, ap, ◌∙◌, arith}
use Rattle.std.specs.List.{position_or_len, before_first, after_first}
use Rattle.std.proofs.Math.Seq.{get_or-append_seam, take-append_seam, take-length}
use Rattle.std.proofs.lemmas.List.{take_more, length-append}
use Rattle.std.proofs.lemmas.Bool.Decides.{nat_tests}
use Rattle.std.proofs.lemmas.List.Sums.{passes_at_first, prefix_len-le-length}
use Rattle.instr_text.specs.Cut.{cut, before_last}

pub cut_is : (mark : ℕ) (text : List ℕ) (r : Option (Bor (List ℕ) × Bor (List ℕ)))
    → MatchOption r (position_or_len (λ b. b == mark) text ≡ length text)
    (λ x. (x.0.now ≡ before_first (λ b. b == mark) text) × (x.1.now ≡ after_first (λ b. b == mark) text) × (position_or_len (λ b. b == mark) text < length text))
    → option_map {U = List ℕ × List ℕ} (λ halves. (halves.0.now, halves.1.now)) r ≡ cut mark text
unfolding cut
cut_is mark text None h =
    let none : nat_lt (position_or_len (λ b. b == mark) text) (length text) ≡ false = grind (arith, nat_tests, h) in rw none refl
cut_is mark text (Some x) h =
    let inside : nat_lt (position_or_len (λ b. b == mark) text) (length text) ≡ true = grind (arith, nat_tests, h.2) in
    rw inside (λ i. Some (h.0 i, h.1 i))

ends_by : (front : List ℕ) (mark : ℕ) → before_last mark (front ++ mark ∷ []) ≡ Some front
unfolding before_last
ends_by front mark =
    let n : length (front ++ mark ∷ []) - 1 ≡ length front = omega (arith, length-append front (mark ∷ [])) in
    let last : (get_or (front ++ mark ∷ []) (length front) 0 == mark) ≡ true = rw (get_or-append_seam front mark [] 0) (grind (arith, nat_tests)) in
    rw (n, last, take-append_seam front (mark ∷ [])) refl

whole_front : (text : List ℕ) → 0 < length text → text ≡ take (length text - 1) text ++ get_or text (length text - 1) 0 ∷ []
whole_front text some =
    let inside : length text - 1 < length text = omega arith in
    let n : length text - 1 + 1 ≡ length text = omega arith in
    sym (take-length text) ∙ ap (λ k. take k text) (sym n) ∙ take_more text (length text - 1) 0 inside

some_length : (text : List ℕ) (i : ℕ) → get_or text i 0 ≡ 41 → 0 < length text
some_length [] i h = absurd (omega arith)
some_length (b ∷ text) i h = omega arith

ends_by_none : (text : List ℕ) → ((front : List ℕ) → text ≢ front ++ 41 ∷ []) → None ≡ before_last 41 text
unfolding before_last
ends_by_none text none = by (get_or text (length text - 1) 0 == 41) refl
  where
    by : (t : Bool) → (get_or text (length text - 1) 0 == 41) ≡ t → None ≡ cond t (Some (take (length text - 1) text)) None
    by true e =
        let last : get_or text (length text - 1) 0 ≡ 41 = grind (arith, nat_tests, e) in
        absurd (none (take (length text - 1) text) (whole_front text (some_length text _ last) ∙ ap (λ b. take (length text - 1) text ++ b ∷ []) last))
    by false e = refl

pub before_last_is : (text : List ℕ) (r : Option (Bor (List ℕ))) → MatchOption r ((front : List ℕ) → text ≢ front ++ 41 ∷ []) (λ x. text ≡ x.now ++ 41 ∷ [])
    → option_map (λ front. front.now) r ≡ before_last 41 text
before_last_is text None h = ends_by_none text h
before_last_is text (Some x) h = sym (ap (before_last 41) h ∙ ends_by x.now 41)

-- the text is cut in two
pub record IsCut (mark : ℕ) (text before behind : List ℕ) : Type 0 where
  pub front : before ≡ before_first (λ b. b == mark) text
  pub back : behind ≡ after_first (λ b. b == mark) text
  pub inside : position_or_len (λ b. b == mark) text < length text

pub cut-some : (mark : ℕ) (text before behind : List ℕ) → Some (before, behind) ≡ cut mark text → IsCut mark text before behind
unfolding cut
cut-some mark text before behind h = by (nat_lt (position_or_len (λ b. b == mark) text) (length text)) refl h
  where
    halves : List ℕ × List ℕ
    halves = (before_first (λ b. b == mark) text, after_first (λ b. b == mark) text)

    halves_of : Option (List ℕ × List ℕ) → List ℕ × List ℕ
    halves_of None = ([], [])
    halves_of (Some p) = p

    by : (t : Bool) → nat_lt (position_or_len (λ b. b == mark) text) (length text) ≡ t → Some (before, behind) ≡ cond t (Some halves) None → IsCut mark text before behind
    by true e h = record { front = ap (λ o. (halves_of o).0) h; back = ap (λ o. (halves_of o).1) h; inside = grind (arith, nat_tests, e) }
    by false e h = absurd (let no : ⊥ = cc in no)

pub cut-none : (mark : ℕ) (text : List ℕ) → None ≡ cut mark text → position_or_len (λ b. b == mark) text ≡ length text
unfolding cut
cut-none mark text h = by (nat_lt (position_or_len (λ b. b == mark) text) (length text)) refl h
  where
    halves : List ℕ × List ℕ
    halves = (before_first (λ b. b == mark) text, after_first (λ b. b == mark) text)

    within : position_or_len (λ b. b == mark) text ≤ length text
    within = prefix_len-le-length (λ b. not (b == mark)) text

    by : (t : Bool) → nat_lt (position_or_len (λ b. b == mark) text) (length text) ≡ t → None ≡ cond t (Some halves) None → position_or_len (λ b. b == mark) text ≡ length text
    by true e h = absurd (let no : ⊥ = cc in no)
    by false e h = grind (arith, nat_tests, e, within)

pub mark_at : (mark : ℕ) (text : List ℕ) → position_or_len (λ b. b == mark) text < length text → get_or text (position_or_len (λ b. b == mark) text) 0 ≡ mark
mark_at mark text inside =
    let passes : (get_or text (position_or_len (λ b. b == mark) text) 0 == mark) ≡ true = passes_at_first (λ b. b == mark) text 0 inside in grind (arith, nat_tests)
