use Rattle.std.specs.Prelude.{◌≡◌, ℕ, List, ◌++◌}
use Rattle.director_core.specs.Printed.{IsFront}

-- A front of the bytes, or all of them, stands behind what was written before.
abbrev pub WritesFront : List ℕ → List ℕ → List ℕ → Type 0
WritesFront old bytes new = (front : List ℕ) × IsFront front bytes × (new ≡ old ++ front)
