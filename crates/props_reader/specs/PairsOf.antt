-- The pairs of a properties text.
use Rattle.std.specs.Prelude.{◌≢◌, ℕ, List, [], ◌∷◌, fold, false, Result, Ok, AllPairs, if◌then◌else◌}
use Rattle.std.specs.Str.{bytes_eq}
use Rattle.props_reader.specs.declared.logical.Placed.{Placed}
use Rattle.props_reader.specs.Gives.{◌>>=◌}
use Rattle.props_reader.specs.NaturalLines.{natural_lines}
use Rattle.props_reader.specs.LogicalLines.{logical_lines}
use Rattle.props_reader.specs.Signs.{signs}
use Rattle.props_reader.specs.KeyAndValue.{key_of, value_of}
use Rattle.props_reader.specs.Characters.{spelled}

-- a key and its value, in UTF-8
abbrev pub Pair : Type 0
Pair = List ℕ × List ℕ

-- the pair that a logical line spells
unfoldable pub pair_of : List Placed → Result Pair ℕ
pair_of line =
    let found = signs false line in
    spelled (key_of found) >>= λ key. spelled (value_of found) >>= λ value. Ok (key, value)

-- each line's pair, or the first escape that is refused
unfoldable pub rows_of : List (List Placed) → Result (List Pair) ℕ
rows_of [] = Ok []
rows_of (line ∷ lines) = pair_of line >>= λ pair. rows_of lines >>= λ rows. Ok (pair ∷ rows)

-- A later equal key replaces the value and keeps the first place.
unfoldable pub put : List Pair → Pair → List Pair
put [] pair = pair ∷ []
put (p ∷ pairs) pair = if bytes_eq pair.0 p.0 then (p.0, pair.1) ∷ pairs else p ∷ put pairs pair

-- the pairs that the logical lines spell
abbrev pub merged : List (List Placed) → Result (List Pair) ℕ
merged lines = rows_of lines >>= λ rows. Ok (fold put [] rows)

-- the pairs of the text, or the natural line, from 1, of the first escape that is refused
unfoldable pub pairs_of : List ℕ → Result (List Pair) ℕ
pairs_of bytes = merged (logical_lines false 1 (natural_lines bytes))

-- No key stands twice.
abbrev pub HasDistinctKeys : List Pair → Type 0
HasDistinctKeys pairs = AllPairs (λ p q. p.0 ≢ q.0) pairs
