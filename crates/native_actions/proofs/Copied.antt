-- What the parts of a copy come to.
use Rattle.std.proofs.Common.{◌≡◌, ℕ, List, [], ◌∷◌, ◌++◌, map, Option, Some, None, Ok, refl, sym, ◌∙◌, ap}
use Rattle.folder_core.specs.Folder.{Map}
use Rattle.folder_core.specs.declared.node.Touch.{Touch}
use Rattle.action_core.specs.Rows.{copied_set, copy_directory, copy_source, into_itself, link_as_source, moved, too_deep_from, unless}
use Rattle.action_core.specs.Tests.{first_of, not_there, present, through_link}
use Rattle.action_core.specs.declared.fault.ActionFault.{ActionFault}
use Rattle.action_core.specs.declared.step.Step.{Step}
use Rattle.action_core.specs.declared.step.Step.TheVariants.{Note}
use Rattle.native_actions.specs.Copied.{copied_sets, directory_target, set_paths, source_node}
use Rattle.native_actions.proofs.Effects.{Outcome}

module _ (m : Map) (source : List (List ℕ)) where
  pub source_links : (fault : ActionFault) → through_link m source ≡ Some fault → copy_source m source ≡ Some fault
  unfolding copy_source
  source_links fault is = ap (λ (o : Option ActionFault). first_of (o ∷ not_there (m source) source ∷ link_as_source (m source) source ∷ [])) is

  pub source_there : through_link m source ≡ None → copy_source m source ≡ source_node (m source) source
  unfolding copy_source
  source_there passed = ap (λ (o : Option ActionFault). first_of (o ∷ not_there (m source) source ∷ link_as_source (m source) source ∷ [])) passed

set_paths-copied : (source target : List (List ℕ)) (under : List Touch) → set_paths (copied_sets source target under) ≡ map (λ (touch : Touch). moved source target touch.path) under
set_paths-copied source target [] = refl
set_paths-copied source target (touch ∷ under) = ap (λ (l : List (List (List ℕ))). moved source target touch.path ∷ l) (set_paths-copied source target under)

all_three : (a b c : Option ActionFault) → first_of (a ∷ b ∷ []) ≡ None → c ≡ None → first_of (a ∷ b ∷ c ∷ []) ≡ None
all_three None None c two three = ap (λ (o : Option ActionFault). first_of (o ∷ [])) three
all_three None (Some fault) c two three = absurd (let no : ⊥ = cc in no)
all_three (Some fault) b c two three = absurd (let no : ⊥ = cc in no)

pub directory_steps : (m : Map) (under : List Touch) (source target : List (List ℕ)) (steps noted : List Step)
    → directory_target (m target) source target ≡ None → too_deep_from source target under ≡ None → steps ≡ copied_sets source target under → noted ≡ steps ++ Note (set_paths steps) ∷ []
    → copy_directory m under source target ≡ Ok noted
directory_steps m under source target steps noted passed short sets all =
    let wanted = map (copied_set source target) under ++ Note (map (λ (touch : Touch). moved source target touch.path) under) ∷ [] in
    let same : wanted ≡ noted =
    ap (λ (l : List (List (List ℕ))). copied_sets source target under ++ Note l ∷ []) (sym (set_paths-copied source target under))
    ∙ ap (λ (l : List Step). l ++ Note (set_paths l) ∷ []) (sym sets) ∙ sym all in
    ap (λ (o : Option ActionFault). unless o wanted) (all_three (into_itself source target) (present (m target) target) (too_deep_from source target under) passed short)
    ∙ ap (λ (l : List Step). let outcome : Outcome = Ok l in outcome) same
