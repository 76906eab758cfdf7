-- The steps of `copy`.
use Rattle.std.specs.Prelude.{ℕ, List, [], ◌∷◌, map, Option}
use Rattle.folder_core.specs.declared.node.Node.{Node}
use Rattle.folder_core.specs.declared.node.Touch.{Touch}
use Rattle.action_core.specs.Rows.{copied_set, into_itself, link_as_source}
use Rattle.action_core.specs.Tests.{first_of, not_there, present}
use Rattle.action_core.specs.declared.fault.ActionFault.{ActionFault}
use Rattle.action_core.specs.declared.step.Step.{Step}
use Rattle.action_core.specs.declared.step.Step.TheVariants.{Set, Note}

-- the tests on what stands at the source
abbrev pub source_node : Option Node → List (List ℕ) → Option ActionFault
source_node node source = first_of (not_there node source ∷ link_as_source node source ∷ [])

-- the tests on the target of a directory
abbrev pub directory_target : Option Node → List (List ℕ) → List (List ℕ) → Option ActionFault
directory_target there source target = first_of (into_itself source target ∷ present there target ∷ [])

-- Each of these is set at its place below the target.
abbrev pub copied_sets : List (List ℕ) → List (List ℕ) → List Touch → List Step
copied_sets source target under = map (copied_set source target) under

-- the paths that steps set, in their order
abbrev pub set_paths : List Step → List (List (List ℕ))
set_paths [] = []
set_paths (Set path set ∷ steps) = path ∷ set_paths steps
set_paths (Note paths ∷ steps) = set_paths steps
