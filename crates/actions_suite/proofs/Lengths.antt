-- Lists of two or three.
use Rattle.std.proofs.Common.{◌≡◌, ℕ, List, [], ◌∷◌, length, get_or, sym, ◌∙◌, ap, arith}

pub two : (xs : List (List ℕ)) (a b : List ℕ) → length xs ≡ 2 → a ≡ get_or xs 0 a → b ≡ get_or xs 1 b → xs ≡ a ∷ b ∷ []
two [] a b long a_is b_is = absurd (omega (arith, long))
two (x ∷ []) a b long a_is b_is = absurd (omega (arith, long))
two (x ∷ y ∷ []) a b long a_is b_is = ap (λ (v : List ℕ). v ∷ y ∷ []) (sym a_is) ∙ ap (λ (v : List ℕ). a ∷ v ∷ []) (sym b_is)
two (x ∷ y ∷ z ∷ xs) a b long a_is b_is = absurd (omega (arith, long))

pub three : (xs : List (List ℕ)) (a b : List ℕ) → length xs ≡ 3 → a ≡ get_or xs 0 a → b ≡ get_or xs 1 b → (c : List ℕ) × (xs ≡ a ∷ b ∷ c ∷ [])
three [] a b long a_is b_is = absurd (omega (arith, long))
three (x ∷ []) a b long a_is b_is = absurd (omega (arith, long))
three (x ∷ y ∷ []) a b long a_is b_is = absurd (omega (arith, long))
three (x ∷ y ∷ z ∷ []) a b long a_is b_is = (z, ap (λ (v : List ℕ). v ∷ y ∷ z ∷ []) (sym a_is) ∙ ap (λ (v : List ℕ). a ∷ v ∷ z ∷ []) (sym b_is))
three (x ∷ y ∷ z ∷ w ∷ xs) a b long a_is b_is = absurd (omega (arith, long))
