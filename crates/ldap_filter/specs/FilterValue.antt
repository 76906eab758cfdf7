-- What a value stands for, byte by byte. Clauses of private functions alone cite this.
use Rattle.std.specs.Prelude.{ℕ, ◌==◌, ◌||◌, Bool, true, false, if◌then◌else◌, Option, Some, None, List, [], ◌∷◌}

-- Whether the value stands behind a backslash at its end, where each parenthesis in it does.
abbrev pub scan : Bool → List ℕ → Option Bool
scan escaped [] = Some escaped
scan true (b ∷ bs) = scan false bs
scan false (b ∷ bs) = if b == 92 then scan true bs else (if b == 40 || b == 41 then None else scan false bs)

abbrev pub plain_from : Bool → List ℕ → List ℕ
plain_from escaped [] = []
plain_from true (b ∷ bs) = b ∷ plain_from false bs
plain_from false (b ∷ bs) = if b == 92 then plain_from true bs else b ∷ plain_from false bs

-- without the backslashes that make the next byte plain
abbrev pub plain : List ℕ → List ℕ
plain value = plain_from false value

-- One piece or more.
pub record Pieces : Type 0 where
  pub first : List ℕ
  pub later : List (List ℕ)

abbrev pub each_piece : Pieces → List (List ℕ)
each_piece p = p.first ∷ p.later

abbrev pub with_byte : ℕ → Pieces → Pieces
with_byte b p = record { first = b ∷ p.first; later = p.later }

abbrev pub with_star : Pieces → Pieces
with_star p = record { first = []; later = each_piece p }

abbrev pub pieces_from : Bool → List ℕ → Pieces
pieces_from escaped [] = record { first = []; later = [] }
pieces_from true (b ∷ bs) = with_byte b (pieces_from false bs)
pieces_from false (b ∷ bs) =
    if b == 92 then pieces_from true bs else (if b == 42 then with_star (pieces_from false bs) else with_byte b (pieces_from false bs))

-- cut at each plain `*`
abbrev pub pieces : List ℕ → List (List ℕ)
pieces value = each_piece (pieces_from false value)
