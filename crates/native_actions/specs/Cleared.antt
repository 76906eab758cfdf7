-- The steps of `cleanupcopy`, by the paths that stand.
use Rattle.std.specs.Prelude.{ℕ, ◌&&◌, not, Bool, List, [], ◌∷◌, map, filter, None, if◌then◌else◌}
use Rattle.std.specs.List.{AllPairs, list_any}
use Rattle.folder_core.specs.Path.{path_eqb}
use Rattle.folder_core.specs.PathOrder.{IsPathBefore}
use Rattle.folder_core.specs.declared.node.Touch.{Touch}
use Rattle.action_core.specs.Standing.{is_at_or_below}
use Rattle.action_core.specs.declared.step.Step.{Step}
use Rattle.action_core.specs.declared.step.Step.TheVariants.{Set}

abbrev pub paths_of : List Touch → List (List (List ℕ))
paths_of touches = map (λ touch. touch.path) touches

abbrev pub ArePathsRising : List (List (List ℕ)) → Type 0
ArePathsRising paths = AllPairs IsPathBefore paths

-- something stands below the path
abbrev pub holds_child : List (List ℕ) → List (List (List ℕ)) → Bool
holds_child path left = list_any (λ place. is_at_or_below path place && not (path_eqb place path)) left

-- It stands, and nothing stands below it.
abbrev pub can_leave : List (List ℕ) → List (List (List ℕ)) → Bool
can_leave path left = list_any (λ place. path_eqb place path) left && not (holds_child path left)

abbrev pub without : List (List ℕ) → List (List (List ℕ)) → List (List (List ℕ))
without path left = filter (λ place. not (path_eqb place path)) left

-- Each path goes when its turn comes, where it can.
abbrev pub cleared : List (List (List ℕ)) → List (List (List ℕ)) → List Step
cleared [] left = []
cleared (path ∷ paths) left =
    if can_leave path left then Set path None ∷ cleared paths (without path left) else cleared paths left
