-- Facts on natural lines.
use Rattle.std.proofs.Common.{◌≡◌, ℕ, ◌+◌, ◌<◌, ◌==◌, ◌||◌, ◌&&◌, Bool, true, false, not, suc, List, [], ◌∷◌, length, take, drop, refl, sym, ap, ◌∙◌, arith}
use Rattle.std.proofs.lemmas.Bool.Decides.{nat_tests}
use Rattle.std.specs.List.{prefix_len, take_while, onto_first}
use Rattle.std.proofs.lemmas.List.Folds.{length-prefix_len}
use Rattle.props_reader.specs.NaturalLines.{natural_lines, ends_line, is_cr_of_crlf, end_width}

abbrev in_line : ℕ → Bool
in_line b = not (ends_line b)

-- the lines behind a line, where the bytes begin with its end or are none
abbrev pub lines_behind : List ℕ → List (List ℕ)
lines_behind [] = []
lines_behind (b ∷ bytes) = natural_lines (drop (end_width (b ∷ bytes)) (b ∷ bytes))

or_false : (x y : Bool) → (x || y) ≡ false → y ≡ false
or_false true y h = cc
or_false false y h = h

no_cr : (b : ℕ) (bytes : List ℕ) → ends_line b ≡ false → is_cr_of_crlf b bytes ≡ false
no_cr b [] h = refl
no_cr b (c ∷ bytes) h = ap (λ t. t && (c == 10)) (or_false (b == 10) (b == 13) h)

lf_no_cr : (c : ℕ) (bytes : List ℕ) → (c == 10) ≡ true → is_cr_of_crlf c bytes ≡ false
lf_no_cr c [] h = refl
lf_no_cr c (d ∷ bytes) h = let other : (c == 13) ≡ false = grind (arith, nat_tests) in ap (λ t. t && (d == 10)) other

and_right : (x y : Bool) → (x && y) ≡ true → y ≡ true
and_right true y h = h
and_right false y h = cc

-- a line that ends at once
ended : (b : ℕ) (bytes : List ℕ) → ends_line b ≡ true → natural_lines (b ∷ bytes) ≡ [] ∷ lines_behind (b ∷ bytes)
unfolding natural_lines
ended b [] h = rw h refl
ended b (c ∷ bytes) h = by (is_cr_of_crlf b (c ∷ bytes)) refl
  where
    by : (t : Bool) → is_cr_of_crlf b (c ∷ bytes) ≡ t → natural_lines (b ∷ c ∷ bytes) ≡ [] ∷ lines_behind (b ∷ c ∷ bytes)
    by true e = let lf = and_right (b == 13) (c == 10) e in let first = lf_no_cr c bytes lf in rw (e, first, lf) refl
    by false e = rw (e, h) refl

-- a line that goes on
going : (b : ℕ) (bytes : List ℕ) → ends_line b ≡ false → natural_lines (b ∷ bytes) ≡ onto_first b (natural_lines bytes)
unfolding natural_lines
going b bytes h = let first = no_cr b bytes h in rw (first, h) refl

no_bytes : natural_lines [] ≡ [] ∷ []
unfolding natural_lines
no_bytes = refl

-- the first line, and those behind it
natural_lines-first : (bytes : List ℕ) → natural_lines bytes ≡ take (prefix_len in_line bytes) bytes ∷ lines_behind (drop (prefix_len in_line bytes) bytes)
natural_lines-first [] = no_bytes
natural_lines-first (b ∷ bytes) = by (ends_line b) refl (natural_lines-first bytes)
  where
    by : (t : Bool) → ends_line b ≡ t → natural_lines bytes ≡ take (prefix_len in_line bytes) bytes ∷ lines_behind (drop (prefix_len in_line bytes) bytes)
        → natural_lines (b ∷ bytes) ≡ take (prefix_len in_line (b ∷ bytes)) (b ∷ bytes) ∷ lines_behind (drop (prefix_len in_line (b ∷ bytes)) (b ∷ bytes))
    by true e rest = rw e (ended b bytes e)
    by false e rest =
        let n = prefix_len in_line bytes in
        let more : suc n ≡ 1 + n = omega arith in
        rw e (going b bytes e ∙ ap (onto_first b) rest ∙ ap (λ k. take k (b ∷ bytes) ∷ lines_behind (drop k (b ∷ bytes))) more)

-- the same, for a line as it was cut
pub natural_lines-cut : (bytes line end : List ℕ) (n : ℕ) → n ≡ length (take_while in_line bytes) → line ≡ take n bytes → end ≡ drop n bytes
    → natural_lines bytes ≡ line ∷ lines_behind end
natural_lines-cut bytes line end n h front back =
    let same : n ≡ prefix_len in_line bytes = h ∙ length-prefix_len in_line bytes in
    natural_lines-first bytes ∙ (λ i. take (sym same i) bytes ∷ lines_behind (drop (sym same i) bytes)) ∙ (λ i. sym front i ∷ lines_behind (sym back i))

pub lines_behind-some : (end : List ℕ) → 0 < length end → lines_behind end ≡ natural_lines (drop (end_width end) end)
lines_behind-some [] h = absurd (omega arith)
lines_behind-some (b ∷ bytes) h = refl

pub lines_behind-none : (end : List ℕ) → length end ≡ 0 → lines_behind end ≡ []
lines_behind-none [] h = refl
lines_behind-none (b ∷ bytes) h = absurd (omega arith)
