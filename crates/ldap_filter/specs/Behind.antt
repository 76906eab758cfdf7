-- Where a piece first stands in a value. Clauses of private functions alone cite this.
use Rattle.std.specs.Prelude.{ℕ, nat_eq, Option, Some, None, if◌then◌else◌, List, [], ◌∷◌, length, drop}
use Rattle.std.specs.List.{starts_with}

-- what is behind the first place of the piece
abbrev pub behind : List ℕ → List ℕ → Option (List ℕ)
behind p [] = if starts_with nat_eq [] p then Some (drop (length p) []) else None
behind p (x ∷ value) =
    if starts_with nat_eq (x ∷ value) p then Some (drop (length p) (x ∷ value)) else behind p value
