-- Where the entries, their marks and the gate stand.
use Rattle.std.specs.Prelude.{◌≢◌, ℕ, List, [], ◌∷◌, ◌++◌, codes}
use Rattle.std.specs.Fmt.{decimal}
use Rattle.folder_core.specs.Node.{entries_path}

-- `.p2/e/K`
abbrev pub entry_path : ℕ → List (List ℕ)
entry_path k = entries_path ++ decimal k ∷ []

-- `.p2/e/K.ok`
abbrev pub mark_path : ℕ → List (List ℕ)
mark_path k = entries_path ++ (decimal k ++ codes ".ok") ∷ []

-- `.p2/undo`
abbrev pub gate_path : List (List ℕ)
gate_path = codes ".p2" ∷ codes "undo" ∷ []

-- The path neither is `.p2` nor lies below it.
abbrev pub IsOutside : List (List ℕ) → Type 0
IsOutside path = (rest : List (List ℕ)) → path ≢ codes ".p2" ∷ rest
