-- What comes behind a front, and behind the first LF.
use Rattle.std.proofs.Common.{◌≡◌, ◌≢◌, ℕ, ◌+◌, eqb, true, false, List, [], ◌∷◌, ◌++◌, length, take, drop, Option, Some, None, Bor, Contains, MatchOption, refl, sym, ◌∙◌, ap, subst, arith}
use Rattle.std.specs.Cmp.Lexicographic.{pointwise}
use Rattle.std.specs.Prelude.{nat_eq}
use Rattle.std.proofs.lemmas.Bool.{both_ways}
use Rattle.std.proofs.lemmas.List.{take-append-drop, take_at}
use Rattle.std.proofs.lemmas.List.Elements.{Contains-append_right}
use Rattle.std.proofs.lemmas.Bool.Decides.{Decides-eqb}
use Rattle.std.proofs.lemmas.Slice.Eq.{bytes_eq-Decides}

pub after_front : (bytes front : List ℕ) (found : Option (Bor (List ℕ)))
    → MatchOption found (pointwise nat_eq (take (length front) bytes) front ≡ false) (λ x. (pointwise nat_eq (take (length front) bytes) front ≡ true) × (x.now ≡ drop (length front) bytes) × (length x.now + length front ≡ length bytes))
    → MatchOption found ((rest : List ℕ) → bytes ≢ front ++ rest) (λ rest. bytes ≡ front ++ rest.now)
after_front bytes front None other = λ rest is.
    both_ways _ other ((bytes_eq-Decides (take (length front) bytes) front).1 (ap (take (length front)) is ∙ take_at front rest (length front) refl))
after_front bytes front (Some x) front_is =
    sym (take-append-drop (length front) bytes)
    ∙ ap (λ (l : List ℕ). l ++ drop (length front) bytes) ((bytes_eq-Decides (take (length front) bytes) front).0 front_is.0)
    ∙ ap (λ (l : List ℕ). front ++ l) (sym front_is.1)

contains_first : (x y : ℕ) (xs : List ℕ) → x ≡ y → Contains (x ∷ xs) y
contains_first x y xs is = (0, omega arith, is)

contains_later : (x y : ℕ) (xs : List ℕ) → Contains xs y → Contains (x ∷ xs) y
contains_later x y xs has = Contains-append_right (x ∷ []) xs y has

-- Two lists that are cut at the first place of one number are equal in both parts.
pub same_parts : (cut : ℕ) (a b x y : List ℕ) → ¬ (Contains a cut) → ¬ (Contains b cut) → a ++ cut ∷ x ≡ b ++ cut ∷ y → (a ≡ b) × (x ≡ y)
same_parts cut [] [] x y no_a no_b is = (refl, cc)
same_parts cut [] (c ∷ b) x y no_a no_b is = absurd (no_b (contains_first c cut b (cc)))
same_parts cut (c ∷ a) [] x y no_a no_b is = absurd (no_a (contains_first c cut a (cc)))
same_parts cut (c ∷ a) (d ∷ b) x y no_a no_b is =
    let first : c ≡ d = cc in
    let rest : a ++ cut ∷ x ≡ b ++ cut ∷ y = cc in
    let behind = same_parts cut a b x y (λ has. no_a (contains_later c cut a has)) (λ has. no_b (contains_later d cut b has)) rest in
    (ap (λ (n : ℕ). n ∷ a) first ∙ ap (λ (l : List ℕ). d ∷ l) behind.0, behind.1)

-- Two lines with something behind each are equal in both parts.
pub same_lines : (a b x y : List ℕ) → ¬ (Contains a 10) → ¬ (Contains b 10) → a ++ 10 ∷ x ≡ b ++ 10 ∷ y → (a ≡ b) × (x ≡ y)
same_lines = same_parts 10

pub contains_cut : (cut : ℕ) (a x : List ℕ) → Contains (a ++ cut ∷ x) cut
contains_cut cut a x = Contains-append_right a (cut ∷ x) cut (contains_first cut cut x refl)

pub contains_in_middle : (a x : List ℕ) → Contains (a ++ 10 ∷ x) 10
contains_in_middle a x = Contains-append_right a (10 ∷ x) 10 (contains_first 10 10 x refl)

pub some_behind : (rest : List ℕ) → false ≡ eqb (length rest) 0 → rest ≢ []
some_behind [] test = absurd (let no_list : ⊥ = cc in no_list)
some_behind (b ∷ rest) test = λ none. absurd (let no_list : ⊥ = cc in no_list)

-- Two numbers that a test tells apart aren't equal.
pub differ : (m n : ℕ) → m ≡ n → eqb m n ≡ false → ⊥
differ m n same other = both_ways _ other ((Decides-eqb m n).1 same)

pub match_none : {V : Type 0} (P : Type 0) (Q : V → Type 0) (found : Option V) → found ≡ None → MatchOption found P Q → P
match_none P Q found is holds = subst (λ o. MatchOption o P Q) is holds

pub match_some : {V : Type 0} (P : Type 0) (Q : V → Type 0) (found : Option V) (v : V) → found ≡ Some v → MatchOption found P Q → Q v
match_some P Q found v is holds = subst (λ o. MatchOption o P Q) is holds
