use Rattle.std.specs.Prelude.{ℕ, ◌≤◌, List, [], ◌∷◌, length, codes, ⊤}
use Rattle.folder_core.specs.Path.{IsBelow}
use Rattle.folder_core.specs.declared.node.Node.{Node}
use Rattle.folder_core.specs.declared.node.Node.TheVariants.{File, Dir, Link}

-- A mode is at most 0o777, and a target has at most 4096 bytes.
abbrev pub IsNode : Node → Type 0
IsNode (File mode blob) = mode ≤ 511
IsNode Dir = ⊤
IsNode (Link target) = length target ≤ 4096

-- `.p2/e`, where the journal keeps its entries
abbrev pub entries_path : List (List ℕ)
entries_path = codes ".p2" ∷ codes "e" ∷ []

-- A file that isn't below `.p2/e` has at most 64 MiB.
abbrev pub IsSmallAt : List (List ℕ) → Node → Type 0
IsSmallAt path (File mode blob) = ¬ (IsBelow entries_path path) → length blob ≤ 67108864
IsSmallAt path Dir = ⊤
IsSmallAt path (Link target) = ⊤
