-- Fronts of texts.
use Rattle.std.specs.Prelude.{ℕ, nat_eq, List, length, drop, Option, Some, None, if◌then◌else◌}
use Rattle.std.specs.List.{starts_with}

-- what stands behind this front, where the text begins with it
unfoldable pub behind : List ℕ → List ℕ → Option (List ℕ)
behind front text = if starts_with nat_eq text front then Some (drop (length front) text) else None
