-- How a line is written: a word, and texts as fields, each behind one blank.
use Rattle.std.specs.Prelude.{ℕ, List, ◌∷◌, ◌++◌, map}
use Rattle.std.specs.List.{flat_map}
use Rattle.std.specs.Borrow.{Bor}
use Rattle.osgi_version.specs.Field.{field}

abbrev pub behind_blank : List ℕ → List ℕ
behind_blank bytes = 32 ∷ bytes

-- the pieces of a line behind its word
abbrev pub behind_blanks : List (List ℕ) → List ℕ
behind_blanks pieces = flat_map behind_blank pieces

abbrev pub line_of : List ℕ → List (List ℕ) → List ℕ
line_of word texts = word ++ behind_blanks (map field texts)

-- the bytes behind references
abbrev pub seen : List (Bor (List ℕ)) → List (List ℕ)
seen slices = map (λ s. s.now) slices
