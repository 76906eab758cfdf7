-- What a shape has to hold for a call.
use Rattle.std.specs.Prelude.{◌≡◌, ◌⊎◌, ℕ, ◌&&◌, Bool, List, [], ◌∷◌, ◌++◌, length, Contains, filter, Some, None, is_some, IsSome, IsTrue, nat_eq, if◌then◌else◌, codes}
use Rattle.std.specs.Cmp.Lexicographic.{pointwise}
use Rattle.std.specs.List.{AllAdjacentBelow, starts_with}
use Rattle.folder_core.specs.Folder.{Map}
use Rattle.folder_core.specs.Path.{path_eqb}
use Rattle.folder_core.specs.PathOrder.{IsPathBefore}
use Rattle.folder_core.specs.declared.node.Touch.{Touch}
use Rattle.unit_model.specs.Profile.{IsProfile}
use Rattle.unit_model.specs.UnitId.{IsUnitId}
use Rattle.action_core.specs.declared.shape.Shape.{Shape}
use Rattle.action_core.specs.Places.{Site}

abbrev pub site_of : Shape → Site
site_of shape = record { install = shape.install; artifact = shape.artifact }

-- The paths rise, so that none comes twice.
abbrev pub AreRising : List Touch → Type 0
AreRising touches = AllAdjacentBelow (λ a b. IsPathBefore a.path b.path) touches (length touches)

-- what these say of a path
abbrev pub stands_in : List Touch → Map
stands_in [] path = None
stands_in (touch ∷ touches) path = if path_eqb touch.path path then touch.node else stands_in touches path

-- the shape as a map
abbrev pub map_of : Shape → Map
map_of shape = stands_in shape.nodes

abbrev pub is_at_or_below : List (List ℕ) → List (List ℕ) → Bool
is_at_or_below place path = starts_with (pointwise nat_eq) path place

abbrev pub stands_under : List (List ℕ) → Touch → Bool
stands_under place touch = is_at_or_below place touch.path && is_some touch.node

-- what stands at or below a path, in the order of paths
abbrev pub under_in : List Touch → List (List ℕ) → List Touch
under_in touches place = filter (stands_under place) touches

abbrev pub IsAtOrBelow : List (List ℕ) → List (List ℕ) → Type 0
IsAtOrBelow place path = (rest : List (List ℕ)) × (path ≡ place ++ rest)

-- The path is the place, or lies above or below it.
abbrev pub IsNear : List (List ℕ) → List (List ℕ) → Type 0
IsNear place path = IsAtOrBelow place path ⊎ IsAtOrBelow path place

abbrev pub SameNear : List (List ℕ) → Map → Map → Type 0
SameNear place m n = (path : List (List ℕ)) → IsNear place path → m path ≡ n path

-- These are what stands at or below the place, in the order of paths.
pub record IsUnder (m : Map) (place : List (List ℕ)) (touches : List Touch) : Type 0 where
  pub rising : AreRising touches
  pub each : (touch : Touch) → Contains touches touch → IsTrue (is_at_or_below place touch.path) × IsSome touch.node × (m touch.path ≡ touch.node)
  pub all : (path : List (List ℕ)) → IsTrue (is_at_or_below place path) → IsSome (m path) → Contains touches (record { path = path; node = m path })

-- `installs/P` of a profile
abbrev pub IsInstall : List (List ℕ) → Type 0
IsInstall path = (profile : List ℕ) × IsProfile profile × (path ≡ codes "installs" ∷ profile ∷ [])

-- `pool/CLASSIFIER/FILE`, where a classifier has the form of a unit's id
abbrev pub IsPooled : List (List ℕ) → Type 0
IsPooled path = (classifier file : List ℕ) × IsUnitId classifier × (path ≡ codes "pool" ∷ classifier ∷ file ∷ [])

-- The paths rise, and the bases are those of a profile and of an artifact in the pool.
pub record IsShape (shape : Shape) : Type 0 where
  pub rising : AreRising shape.nodes
  pub install : IsInstall shape.install
  pub artifact : (path : List (List ℕ)) → shape.artifact ≡ Some path → IsPooled path
