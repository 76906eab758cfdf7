use Rattle.std.specs.Prelude.{ℕ, List, [], ◌∷◌, ◌++◌}

-- the host's text of the place to which these names lead from a root: the root's text, and before each name a `/`
abbrev pub place_text : List ℕ → List (List ℕ) → List ℕ
place_text root [] = root
place_text root (name ∷ names) = place_text (root ++ 47 ∷ name) names
