-- The logical lines of a text: natural lines, joined where one ends with an odd number of backslashes.
use Rattle.std.specs.Prelude.{ℕ, ◌+◌, ◌-◌, ◌%◌, ◌==◌, ◌||◌, ◌&&◌, not, Bool, true, false, List, [], ◌∷◌, ◌++◌, length, take, drop, reverse, map, if◌then◌else◌}
use Rattle.std.specs.List.{take_while}
use Rattle.props_reader.specs.declared.logical.Placed.{Placed}

-- space, tab or form feed
abbrev pub is_blank : ℕ → Bool
is_blank b = b == 32 || b == 9 || b == 12

-- the line without its leading blanks
abbrev pub without_blanks : List ℕ → List ℕ
without_blanks line = drop (length (take_while is_blank line)) line

-- `#` or `!`
abbrev pub begins_comment : List ℕ → Bool
begins_comment [] = false
begins_comment (b ∷ bytes) = b == 35 || b == 33

abbrev pub is_empty : List ℕ → Bool
is_empty [] = true
is_empty (b ∷ bytes) = false

-- Blanks alone, or a comment: skipped where it begins a logical line.
abbrev pub is_skipped : List ℕ → Bool
is_skipped line = is_empty (without_blanks line) || begins_comment (without_blanks line)

abbrev pub backslashes_at_end : List ℕ → List ℕ
backslashes_at_end line = take_while (λ b. b == 92) (reverse line)

-- The line ends with an odd number of backslashes, so the next natural line belongs to the same logical line.
abbrev pub is_continued : List ℕ → Bool
is_continued line = (length (backslashes_at_end line) % 2) == 1

-- what a natural line gives to its logical line: not the backslash that joins, and no leading blanks
unfoldable pub kept : List ℕ → List ℕ
kept line = without_blanks (if is_continued line then take (length line - 1) line else line)

-- the same, where the line has this number
abbrev pub placed : ℕ → List ℕ → List Placed
placed number line = map (λ b. record { byte = b; line = number }) (kept line)

-- the lines, with more in front of the first
abbrev pub join_first : {X : Type 0} → List X → List (List X) → List (List X)
join_first front [] = front ∷ []
join_first front (line ∷ lines) = (front ++ line) ∷ lines

-- The logical lines of natural lines that are numbered from `number` on. Where the line before them goes on in
-- them, the first is its rest.
unfoldable pub logical_lines : Bool → ℕ → List (List ℕ) → List (List Placed)
logical_lines goes_on number [] = if goes_on then [] ∷ [] else []
logical_lines goes_on number (line ∷ lines) =
    if not goes_on && is_skipped line then logical_lines false (number + 1) lines
    else (if is_continued line then join_first (placed number line) (logical_lines true (number + 1) lines)
    else placed number line ∷ logical_lines false (number + 1) lines)
