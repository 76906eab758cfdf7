-- The words of a key, with dots between them. Clauses of private functions alone cite this.
use Rattle.std.specs.Prelude.{ℕ, ◌==◌, not, List, [], ◌∷◌, Option, Some, None, length, drop}
use Rattle.std.specs.List.{take_while}

-- what stands before the first dot
abbrev pub first_word : List ℕ → List ℕ
first_word text = take_while (λ b. not (b == 46)) text

abbrev pub without_dot : List ℕ → Option (List ℕ)
without_dot [] = None
without_dot (b ∷ rest) = Some rest

-- what stands behind the first dot, where there is one
abbrev pub behind_first : List ℕ → Option (List ℕ)
behind_first text = without_dot (drop (length (first_word text)) text)
