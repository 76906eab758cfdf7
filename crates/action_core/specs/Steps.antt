-- What steps do to a map, and what undoes them.
use Rattle.std.specs.Prelude.{◌≡◌, ℕ, List, [], ◌∷◌, ◌++◌, Option, IfSome, ⊤}
use Rattle.folder_core.specs.Folder.{Map, CanSet, set_at}
use Rattle.folder_core.specs.Node.{IsNode, IsSmallAt}
use Rattle.folder_core.specs.Path.{IsBelow}
use Rattle.folder_core.specs.declared.node.Node.{Node}
use Rattle.folder_core.specs.declared.node.Touch.{Touch}
use Rattle.action_core.specs.declared.step.Step.{Step}
use Rattle.action_core.specs.declared.step.Step.TheVariants.{Set, Note}

-- the map once the steps are done, in order
abbrev pub performed : Map → List Step → Map
performed m [] = m
performed m (Set path node ∷ steps) = performed (set_at m path node) steps
performed m (Note paths ∷ steps) = performed m steps

-- the paths that are noted once the steps are done
abbrev pub noted_after : List (List (List ℕ)) → List Step → List (List (List ℕ))
noted_after noted [] = noted
noted_after noted (Set path set ∷ steps) = noted_after noted steps
noted_after noted (Note paths ∷ steps) = noted_after paths steps

-- A node may be set there, in the profile's folder, with `set`'s condition.
pub record CanStep (install : List (List ℕ)) (m : Map) (path : List (List ℕ)) (node : Option Node) : Type 0 where
  pub place : CanSet m path
  pub is_node : IfSome node IsNode
  pub is_small : IfSome node (IsSmallAt path)
  pub inside : IsBelow install path

-- Each may be done when its turn comes.
abbrev pub CanPerform : List (List ℕ) → Map → List Step → Type 0
CanPerform install m [] = ⊤
CanPerform install m (Set path node ∷ steps) = CanStep install m path node × CanPerform install (set_at m path node) steps
CanPerform install m (Note paths ∷ steps) = CanPerform install m steps

-- what stood at the path of each step when its turn came, the newest first
abbrev pub old_nodes : Map → List Step → List Touch
old_nodes m [] = []
old_nodes m (Set path node ∷ steps) = old_nodes (set_at m path node) steps ++ record { path = path; node = m path } ∷ []
old_nodes m (Note paths ∷ steps) = old_nodes m steps

-- the map once these are set, in order
abbrev pub put_back : Map → List Touch → Map
put_back m [] = m
put_back m (touch ∷ touches) = put_back (set_at m touch.path touch.node) touches

-- Undone the newest first, the steps leave the map before.
abbrev pub Undoes : Map → List Step → Type 0
Undoes m steps = put_back (performed m steps) (old_nodes m steps) ≡ m
