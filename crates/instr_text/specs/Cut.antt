-- Parts of a text. White space is space, tab, LF, form feed or CR.
use Rattle.std.specs.Prelude.{ℕ, ◌+◌, ◌-◌, ◌==◌, nat_lt, Bool, List, [], ◌∷◌, length, take, drop, map, Option, Some, None, slice_index, if◌then◌else◌}
use Rattle.std.specs.List.{prefix_len, suffix_len, position_or_len, before_first, after_first}
use Rattle.std.specs.Char.{is_ascii_whitespace}
use Rattle.std.specs.Borrow.{Bor}

abbrev pub is_empty : {X : Type 0} → List X → Bool
is_empty xs = length xs == 0

-- without the white space at its front
abbrev pub trimmed_start : List ℕ → List ℕ
trimmed_start text = drop (prefix_len is_ascii_whitespace text) text

-- without the white space at its end
abbrev pub trimmed_end : List ℕ → List ℕ
trimmed_end text = take (length text - suffix_len is_ascii_whitespace text) text

unfoldable pub trimmed : List ℕ → List ℕ
trimmed text = trimmed_end (trimmed_start text)

-- what stands before the first of these marks and what stands behind it, where there is one
unfoldable pub cut : ℕ → List ℕ → Option (List ℕ × List ℕ)
cut mark text =
    if nat_lt (position_or_len (λ b. b == mark) text) (length text)
    then Some (before_first (λ b. b == mark) text, after_first (λ b. b == mark) text) else None

-- what stands before the mark that the text ends with
unfoldable pub before_last : ℕ → List ℕ → Option (List ℕ)
before_last mark text = if slice_index text (length text - 1) == mark then Some (take (length text - 1) text) else None

-- the texts behind references
abbrev pub seen : List (Bor (List ℕ)) → List (List ℕ)
seen slices = map (λ s. s.now) slices

-- how many bytes parts have, with one behind each
abbrev pub sizes : List (List ℕ) → ℕ
sizes [] = 0
sizes (part ∷ parts) = length part + 1 + sizes parts
