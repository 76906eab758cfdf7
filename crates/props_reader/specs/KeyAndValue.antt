-- The key and the value of a logical line.
use Rattle.std.specs.Prelude.{length, ◌==◌, ◌||◌, ◌&&◌, not, Bool, List, [], ◌∷◌, drop, if◌then◌else◌}
use Rattle.std.specs.List.{take_while}
use Rattle.props_reader.specs.LogicalLines.{is_blank}
use Rattle.props_reader.specs.declared.signs.Sign.{Sign}

-- an unescaped blank
abbrev pub is_blank_sign : Sign → Bool
is_blank_sign s = not s.escaped && is_blank s.byte

-- an unescaped `=` or `:`
abbrev pub is_separator : Sign → Bool
is_separator s = not s.escaped && (s.byte == 61 || s.byte == 58)

abbrev pub ends_key : Sign → Bool
ends_key s = is_blank_sign s || is_separator s

abbrev pub without_blank_signs : List Sign → List Sign
without_blank_signs signs = drop (length (take_while is_blank_sign signs)) signs

-- without one separator at the front
abbrev pub without_separator : List Sign → List Sign
without_separator [] = []
without_separator (s ∷ signs) = if is_separator s then signs else s ∷ signs

-- up to the first unescaped `=`, `:` or blank
abbrev pub key_of : List Sign → List Sign
key_of signs = take_while (λ s. not (ends_key s)) signs

-- behind the key: blanks, at most one `=` or `:`, and blanks again are left out
abbrev pub value_of : List Sign → List Sign
value_of signs =
    without_blank_signs (without_separator (without_blank_signs (drop (length (key_of signs)) signs)))
