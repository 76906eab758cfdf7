-- The characters that signs spell. A byte is the character with its number (ISO-8859-1).
use Rattle.std.specs.Prelude.{ℕ, zero, suc, ◌+◌, ◌-◌, ◌*◌, ◌==◌, ◌&&◌, nat_le, nat_lt, Bool, List, [], ◌∷◌, drop, Option, Some, None, option_and_then, Result, Ok, Err, encode_utf8_all, if◌then◌else◌}
use Rattle.props_reader.specs.declared.signs.Sign.{Sign}
use Rattle.props_reader.specs.Gives.{◌>>=◌}

-- a hexadecimal digit
abbrev pub hex_value : ℕ → Option ℕ
hex_value b =
    if nat_le 48 b && nat_le b 57 then Some (b - 48)
    else (if nat_le 97 b && nat_le b 102 then Some (b - 87)
    else (if nat_le 65 b && nat_le b 70 then Some (b - 55) else None))

abbrev pub hex_digit : Sign → Option ℕ
hex_digit s = if s.escaped then None else hex_value s.byte

-- the number of the four hexadecimal digits at the front
unfoldable pub code_unit : List Sign → Option ℕ
code_unit (a ∷ b ∷ c ∷ d ∷ signs) =
    option_and_then (λ w. option_and_then (λ x. option_and_then (λ y. option_and_then (λ z.
    Some (4096 * w + 256 * x + 16 * y + z)) (hex_digit d)) (hex_digit c)) (hex_digit b)) (hex_digit a)
code_unit _ = None

-- the halves of a surrogate pair
abbrev pub is_high : ℕ → Bool
is_high n = nat_le 55296 n && nat_lt n 56320

abbrev pub is_low : ℕ → Bool
is_low n = nat_le 56320 n && nat_lt n 57344

-- the character of a surrogate pair (Unicode, "UTF-16")
abbrev pub paired : ℕ → ℕ → ℕ
paired high low = 65536 + 1024 * (high - 55296) + (low - 56320)

-- the low surrogate of an escape `\u` at the front
unfoldable pub low_surrogate : List Sign → Option ℕ
low_surrogate [] = None
low_surrogate (s ∷ signs) =
    if s.escaped && (s.byte == 117) then option_and_then (λ n. if is_low n then Some n else None) (code_unit signs)
    else None

-- The character of an escape `\u` in this line, whose digits are at the front, and how many signs it takes of
-- them: four digits, or those and a second escape. A malformed escape and a lone surrogate are refused by their line.
unfoldable pub unicode : ℕ → List Sign → Result (ℕ × ℕ) ℕ
unicode line signs = by (code_unit signs) (low_surrogate (drop 4 signs))
  where
    with_low : ℕ → Option ℕ → Result (ℕ × ℕ) ℕ
    with_low high None = Err line
    with_low high (Some low) = Ok (paired high low, 9)

    by : Option ℕ → Option ℕ → Result (ℕ × ℕ) ℕ
    by None low = Err line
    by (Some n) low = if is_high n then with_low n low else (if is_low n then Err line else Ok (n, 4))

-- what an escape with one letter stands for: tab, LF, CR, form feed, or the character itself
abbrev pub escape : ℕ → ℕ
escape b = if b == 116 then 9 else (if b == 110 then 10 else (if b == 114 then 13 else (if b == 102 then 12 else b)))

-- the character that the sign begins, and how many of the signs behind it belong to it
unfoldable pub first_character : Sign → List Sign → Result (ℕ × ℕ) ℕ
first_character s signs =
    if s.escaped && (s.byte == 117) then unicode s.line signs
    else Ok ((if s.escaped then escape s.byte else s.byte), 0)

-- The characters, where the first `taken` signs belong to a character before; or the line of the first escape
-- that is refused.
unfoldable pub characters : ℕ → List Sign → Result (List ℕ) ℕ
characters taken [] = Ok []
characters (suc taken) (s ∷ signs) = characters taken signs
characters zero (s ∷ signs) = first_character s signs >>= λ c. characters c.1 signs >>= λ rest. Ok (c.0 ∷ rest)

-- the UTF-8 of the characters
abbrev pub spelled : List Sign → Result (List ℕ) ℕ
spelled signs = characters 0 signs >>= λ found. Ok (encode_utf8_all found)
