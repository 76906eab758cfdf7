use Rattle.std.specs.Prelude.{◌≡◌, ◌≢◌, ℕ, ◌-◌, ◌<◌, ◌≤◌, Bool, true, false, List, [], ◌∷◌, ◌++◌, length, take, All, nat_eq}
use Rattle.std.specs.List.{join_with_byte}
use Rattle.std.specs.Cmp.Lexicographic.{pointwise}
use Rattle.folder_core.specs.Name.{IsName}

-- at most 64 names
pub record IsPath (path : List (List ℕ)) : Type 0 where
  pub short : length path ≤ 64
  pub names : All IsName path

abbrev pub path_eqb : List (List ℕ) → List (List ℕ) → Bool
path_eqb = pointwise (pointwise nat_eq)

-- the names with `/` between each two
abbrev pub path_text : List (List ℕ) → List ℕ
path_text path = join_with_byte 47 path

-- This path has the text, and no other has.
pub record IsPathOf (text : List ℕ) (path : List (List ℕ)) : Type 0 where
  pub is_path : IsPath path
  pub spelling : path_text path ≡ text
  pub only : (other : List (List ℕ)) → IsPath other → path_text other ≡ text → other ≡ path

abbrev pub HasNoPath : List ℕ → Type 0
HasNoPath text = (path : List (List ℕ)) → IsPath path → path_text path ≢ text

-- A name is added at the end exactly where there is room.
abbrev pub Pushes : Bool → List (List ℕ) → List ℕ → List (List ℕ) → Type 0
Pushes true old name new = (length old < 64) × (new ≡ old ++ name ∷ [])
Pushes false old name new = (length old ≡ 64) × (new ≡ old)

-- all names but the last
abbrev pub parent : List (List ℕ) → List (List ℕ)
parent path = take (length path - 1) path

-- Some names more lead from the first path to the second.
abbrev pub IsBelow : List (List ℕ) → List (List ℕ) → Type 0
IsBelow path place = (name : List ℕ) × (rest : List (List ℕ)) × (place ≡ path ++ name ∷ rest)
