-- How a text stands in a line, as one field: no blank, no line end and no other byte that isn't printable ASCII.
use Rattle.std.specs.Prelude.{◌≡◌, ◌≢◌, ℕ, ◌+◌, ◌/◌, ◌%◌, ◌==◌, ◌&&◌, not, nat_lt, nat_le, Bool, List, [], ◌∷◌, if◌then◌else◌, codes}
use Rattle.std.specs.List.{flat_map}
use Rattle.std.specs.Str.{IsUtf8}

-- 0x21 to 0x7E without `%`
abbrev pub is_field_byte : ℕ → Bool
is_field_byte b = nat_le 0x21 b && nat_le b 0x7E && not (b == 37)

-- an upper-case hexadecimal digit
abbrev pub hex_digit : ℕ → ℕ
hex_digit d = if nat_lt d 10 then 48 + d else 55 + d

-- the byte itself, or `%` and its two hexadecimal digits
abbrev pub field_byte : ℕ → List ℕ
field_byte b = if is_field_byte b then b ∷ [] else 37 ∷ hex_digit (b / 16) ∷ hex_digit (b % 16) ∷ []

-- the field of a text: `%-` for the empty one
abbrev pub field : List ℕ → List ℕ
field [] = codes "%-"
field (b ∷ bytes) = flat_map field_byte (b ∷ bytes)

-- The bytes are the field of this text.
pub record IsFieldOf (bytes text : List ℕ) : Type 0 where
  pub utf8 : IsUtf8 text
  pub spelling : field text ≡ bytes

-- The bytes are the field of no text.
abbrev pub IsNoField : List ℕ → Type 0
IsNoField bytes = (text : List ℕ) → IsUtf8 text → field text ≢ bytes
