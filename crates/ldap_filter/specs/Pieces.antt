-- Which values a row of pieces stands for, with any bytes between each piece and the next.
use Rattle.std.specs.Prelude.{ℕ, Bool, false, ◌&&◌, nat_eq, List, [], ◌∷◌, length, drop}
use Rattle.std.specs.List.{starts_with, list_any}
use Rattle.std.specs.Cmp.Lexicographic.{pointwise}

-- the ends of a list: itself, without its first, and so on down to the empty one
abbrev pub tails : List ℕ → List (List ℕ)
tails [] = [] ∷ []
tails (x ∷ xs) = (x ∷ xs) ∷ tails xs

-- One piece is the whole value. With more, the value begins with the first, and some end of what is behind it fits the
-- other pieces.
abbrev pub fits : List (List ℕ) → List ℕ → Bool
fits [] value = false
fits (p ∷ []) value = pointwise nat_eq p value
fits (p ∷ q ∷ pieces) value = starts_with nat_eq value p && list_any (fits (q ∷ pieces)) (tails (drop (length p) value))
