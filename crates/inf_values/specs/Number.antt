-- Numbers in keys and values.
use Rattle.std.specs.Prelude.{ℕ, ◌+◌, ◌*◌, ◌-◌, ◌==◌, ◌&&◌, nat_le, Bool, true, false, List, [], ◌∷◌, Option, Some, None, if◌then◌else◌}
use Rattle.std.specs.Char.{is_ascii_digit}

-- The number that the digits make behind those of `number`, where each is a digit and it isn't above `most`.
unfoldable pub digits_from : ℕ → ℕ → List ℕ → Option ℕ
digits_from most number [] = Some number
digits_from most number (b ∷ text) =
    if is_ascii_digit b && nat_le (10 * number + (b - 48)) most then digits_from most (10 * number + (b - 48)) text
    else None

-- a digit or more, the first of several not `0`
abbrev pub is_plain : List ℕ → Bool
is_plain [] = false
is_plain (b ∷ []) = true
is_plain (b ∷ c ∷ text) = if b == 48 then false else true

-- decimal digits without a leading zero, for a number that isn't above `most`
abbrev pub number_at_most : ℕ → List ℕ → Option ℕ
number_at_most most text = if is_plain text then digits_from most 0 text else None
