-- The first path of some kind, in the order of paths.
use Rattle.std.specs.Prelude.{◌≡◌, ◌⊎◌, ℕ, List, Option, Some, None}
use Rattle.folder_core.specs.PathOrder.{IsPathBefore}

-- The path has P, and no path before it has.
pub record IsFirst (P : List (List ℕ) → Type 0) (path : List (List ℕ)) : Type 0 where
  pub has : P path
  pub first : (other : List (List ℕ)) → P other → ¬ (IsPathBefore other path)

-- The first path that has P is found, or none has it.
abbrev pub Finds : (List (List ℕ) → Type 0) → Option (List (List ℕ)) → Type 0
Finds P None = (path : List (List ℕ)) → ¬ (P path)
Finds P (Some path) = IsFirst P path

-- Of two that were looked for, the earlier that was found.
abbrev pub IsEarlier : Option (List (List ℕ)) → Option (List (List ℕ)) → Option (List (List ℕ)) → Type 0
IsEarlier None second found = found ≡ second
IsEarlier (Some first) None found = found ≡ Some first
IsEarlier (Some first) (Some second) found =
    ((found ≡ Some first) × (¬ (IsPathBefore second first))) ⊎ ((found ≡ Some second) × IsPathBefore second first)
