use Rattle.std.specs.Prelude.{ℕ, List, map}
use Rattle.props_reader.specs.declared.key.Key.{Key}

-- the entries of a map by keys, as pairs
abbrev pub entries_seen : List (Key × List ℕ) → List (List ℕ × List ℕ)
entries_seen entries = map (λ e. (e.0.text, e.1)) entries
