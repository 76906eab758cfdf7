-- The natural lines of a text. Each ends by LF, CR or CRLF, or by the end of the text.
use Rattle.std.specs.Prelude.{ℕ, ◌==◌, ◌||◌, ◌&&◌, Bool, false, List, [], ◌∷◌, if◌then◌else◌}
use Rattle.std.specs.List.{onto_first}

-- LF or CR
abbrev pub ends_line : ℕ → Bool
ends_line b = b == 10 || b == 13

-- The byte is the CR of a CRLF: it is no byte of a line, and the LF after it ends the line.
abbrev pub is_cr_of_crlf : ℕ → List ℕ → Bool
is_cr_of_crlf b [] = false
is_cr_of_crlf b (c ∷ bytes) = b == 13 && c == 10

-- how many bytes the end of a line takes that the bytes begin with
abbrev pub end_width : List ℕ → ℕ
end_width [] = 1
end_width (b ∷ bytes) = if is_cr_of_crlf b bytes then 2 else 1

-- the lines without their ends
unfoldable pub natural_lines : List ℕ → List (List ℕ)
natural_lines [] = [] ∷ []
natural_lines (b ∷ bytes) =
    if is_cr_of_crlf b bytes then natural_lines bytes
    else (if ends_line b then [] ∷ natural_lines bytes else onto_first b (natural_lines bytes))
