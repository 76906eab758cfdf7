-- How a field is read. Clauses of private functions alone cite this.
use Rattle.std.specs.Prelude.{ℕ, ◌+◌, ◌-◌, ◌*◌, ◌==◌, ◌&&◌, nat_le, List, [], ◌∷◌, if◌then◌else◌}

-- the value of an upper-case hexadecimal digit, and 0 for any other byte
abbrev pub hex_value : ℕ → ℕ
hex_value b = if nat_le 48 b && nat_le b 57 then b - 48 else (if nat_le 65 b && nat_le b 70 then b - 55 else 0)

-- each `%` with the two bytes behind it read as one byte
unfoldable pub unescaped : List ℕ → List ℕ
unescaped [] = []
unescaped (b ∷ []) = b ∷ []
unescaped (b ∷ c ∷ []) = b ∷ c ∷ []
unescaped (b ∷ high ∷ low ∷ rest) =
    if b == 37 then (16 * hex_value high + hex_value low) ∷ unescaped rest else b ∷ unescaped (high ∷ low ∷ rest)
