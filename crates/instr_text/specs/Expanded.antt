-- The variables in values.
use Rattle.std.specs.Prelude.{ℕ, zero, suc, ◌+◌, ◌-◌, ◌*◌, ◌==◌, ◌&&◌, ◌||◌, nat_eq, nat_lt, nat_le, Bool, List, [], ◌∷◌, ◌++◌, length, drop, Option, Some, None, option_and_then, Result, Ok, Err, codes, if◌then◌else◌}
use Rattle.std.specs.List.{starts_with}
use Rattle.std.specs.Char.{is_ascii_digit, encode_utf8}
use Rattle.instr_text.specs.Cut.{is_empty, cut}
use Rattle.instr_text.specs.Gives.{◌>>=◌}
use Rattle.instr_text.specs.declared.fault.InstrRefusal.{InstrRefusal}
use Rattle.instr_text.specs.declared.fault.InstrRefusal.TheVariants.{UnknownVariable}

-- The number that the digits make behind those of `number`, where each is a digit and it isn't above `most`.
unfoldable pub digits_from : ℕ → ℕ → List ℕ → Option ℕ
digits_from most number [] = Some number
digits_from most number (b ∷ text) =
    if is_ascii_digit b && nat_le (10 * number + (b - 48)) most then digits_from most (10 * number + (b - 48)) text
    else None

-- the number of a character: 1 to 1114111 without the surrogates
abbrev pub is_character : ℕ → Bool
is_character n = nat_le 1 n && (nat_lt n 0xD800 || nat_le 0xE000 n)

abbrev pub character_of : ℕ → Option ℕ
character_of n = if is_character n then Some n else None

abbrev pub numbered : List ℕ → Option ℕ
numbered digits =
    if is_empty digits || nat_lt 7 (length digits) then None
    else option_and_then character_of (digits_from 1114111 0 digits)

-- what the name of a variable stands for: behind `#`, one to seven digits, the character of this number
unfoldable pub character : List ℕ → Option ℕ
character [] = None
character (b ∷ digits) = if b == 35 then numbered digits else None

abbrev pub named_character : List ℕ → List ℕ → Option ℕ → Result (ℕ × List ℕ) InstrRefusal
named_character name behind None = Err (UnknownVariable name)
named_character name behind (Some c) = Ok (c, behind)

abbrev pub closed_variable : List ℕ → Option (List ℕ × List ℕ) → Result (ℕ × List ℕ) InstrRefusal
closed_variable text None = Err (UnknownVariable text)
closed_variable text (Some halves) = named_character halves.0 halves.1 (character halves.0)

-- The character of the variable whose name, up to its `}` or to the end, the text begins with, and what stands behind.
unfoldable pub variable_of : List ℕ → Result (ℕ × List ℕ) InstrRefusal
variable_of text = closed_variable text (cut 125 text)

-- what a variable stands for, with what is read behind it
abbrev pub with_front : List ℕ → Result (List ℕ) InstrRefusal → Result (List ℕ) InstrRefusal
with_front front behind = behind >>= λ rest. Ok (front ++ rest)

-- The text with what its variables `${NAME}` stand for, where the first `taken` bytes belong to a variable before. It
-- is read once, from the left, so what a variable puts in is no part of another.
unfoldable pub expanded_from : ℕ → List ℕ → Result (List ℕ) InstrRefusal
expanded_from taken [] = Ok []
expanded_from (suc taken) (b ∷ text) = expanded_from taken text
expanded_from zero (b ∷ text) =
    if starts_with nat_eq (b ∷ text) (codes "${") then
    (variable_of (drop 1 text) >>= λ found. with_front (encode_utf8 found.0) (expanded_from (length text - length found.1) text))
    else with_front (b ∷ []) (expanded_from zero text)

abbrev pub expanded : List ℕ → Result (List ℕ) InstrRefusal
expanded text = expanded_from 0 text
