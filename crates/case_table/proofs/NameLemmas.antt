-- Facts on names that are each ended by LF, and on rows as they are gone through.
use Rattle.std.proofs.Common.{◌≡◌, ℕ, ◌+◌, ◌<◌, ◌==◌, Bool, true, false, cond, not, suc, List, [], ◌∷◌, length, get_or, take, drop, refl, sym, ap, ◌∙◌, arith}
use Rattle.std.specs.List.{prefix_len, take_while, onto_first, zip}
use Rattle.std.proofs.lemmas.List.{drop_more}
use Rattle.std.proofs.lemmas.List.Folds.{length-prefix_len}
use Rattle.case_table.specs.Rows.{names_of, rows_of}

abbrev in_name : ℕ → Bool
in_name b = not (b == 10)

abbrev first_length : List ℕ → ℕ
first_length bytes = prefix_len in_name bytes

-- the first name, and those behind its LF
names_of-first : (b : ℕ) (bytes : List ℕ) → names_of (b ∷ bytes) ≡ take (first_length (b ∷ bytes)) (b ∷ bytes) ∷ names_of (drop 1 (drop (first_length (b ∷ bytes)) (b ∷ bytes)))
names_of-first b [] = by (b == 10)
  where
    by : (t : Bool) → cond t ([] ∷ []) ((b ∷ []) ∷ []) ≡ take (cond (not t) 1 0) (b ∷ []) ∷ names_of (drop 1 (drop (cond (not t) 1 0) (b ∷ [])))
    by true = refl
    by false = refl
names_of-first b (c ∷ bytes) = by (b == 10) (names_of-first c bytes)
  where
    rest : List ℕ
    rest = c ∷ bytes

    by : (t : Bool) → names_of rest ≡ take (first_length rest) rest ∷ names_of (drop 1 (drop (first_length rest) rest))
        → cond t ([] ∷ names_of rest) (onto_first b (names_of rest))
        ≡ take (cond (not t) (1 + first_length rest) 0) (b ∷ rest) ∷ names_of (drop 1 (drop (cond (not t) (1 + first_length rest) 0) (b ∷ rest)))
    by true h = refl
    by false h =
        let more : suc (first_length rest) ≡ 1 + first_length rest = omega arith in
        ap (onto_first b) h ∙ ap (λ k. take k (b ∷ rest) ∷ names_of (drop 1 (drop k (b ∷ rest)))) more

names_of-more : (bytes : List ℕ) (n : ℕ) → 0 < length (names_of bytes) → n ≡ length (take_while in_name bytes) → names_of bytes ≡ take n bytes ∷ names_of (drop 1 (drop n bytes))
names_of-more [] n some h = absurd (omega arith)
names_of-more (b ∷ bytes) n some h =
    let same : n ≡ first_length (b ∷ bytes) = h ∙ length-prefix_len in_name (b ∷ bytes) in
    names_of-first b bytes ∙ ap (λ k. take k (b ∷ bytes) ∷ names_of (drop 1 (drop k (b ∷ bytes)))) (sym same)

module _ (bytes first behind : List ℕ) (numbers : List ℕ) (index n : ℕ) where
  -- the names that are left, the first of them apart
  pub names_left : 0 < length (names_of bytes) → n ≡ length (take_while in_name bytes) → first ≡ take n bytes → behind ≡ drop n bytes
      → names_of bytes ≡ first ∷ names_of (drop 1 behind)
  names_left some h front back = names_of-more bytes n some h ∙ (λ i. sym front i ∷ names_of (drop 1 (sym back i)))

  -- the rows that are left, the first of them apart
  pub rows_left : names_of bytes ≡ first ∷ names_of (drop 1 behind) → index < length numbers
      → rows_of bytes (drop index numbers) ≡ (first, get_or numbers index 0) ∷ rows_of (drop 1 behind) (drop (index + 1) numbers)
  rows_left names inside = rw (names, drop_more numbers index 0 inside) refl

zip-none : {X Y : Type 0} (xs : List X) (ys : List Y) → length xs ≡ 0 → zip xs ys ≡ []
zip-none [] ys h = refl
zip-none (x ∷ xs) ys h = absurd (omega arith)

-- no row is left
pub rows_left-none : (bytes numbers : List ℕ) → length (names_of bytes) ≡ 0 → rows_of bytes numbers ≡ []
rows_left-none bytes numbers h = zip-none (names_of bytes) numbers h
