-- Places below a path.
use Rattle.std.specs.Prelude.{◌≡◌, ℕ, List, ◌∷◌, ◌++◌}

-- The name is the first on the way from the path to the place.
abbrev pub IsFirstBelow : List (List ℕ) → List ℕ → List (List ℕ) → Type 0
IsFirstBelow path name place = (rest : List (List ℕ)) × (place ≡ path ++ name ∷ rest)
