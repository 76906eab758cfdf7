-- A path that is too deep is refused before all else.
use Rattle.std.proofs.Common.{◌≡◌, ℕ, ◌≤◌, Bool, true, cond, List, [], ◌∷◌, length, Option, Some, Ok, Err, ◌∙◌, ap}
use Rattle.std.proofs.lemmas.Bool.{cases_Bool}
use Rattle.std.proofs.Common.{inl, inr}
use Rattle.folder_core.specs.Folder.{Map}
use Rattle.folder_core.specs.declared.node.Node.TheVariants.{Dir, Link}
use Rattle.folder_core.specs.declared.node.Touch.{Touch}
use Rattle.action_core.specs.Places.{Site}
use Rattle.action_core.specs.Rows.{mkdir, remove, rmdir, chmod, ln, unless, not_empty, with_mode}
use Rattle.native_actions.specs.Removals.{removals}
use Rattle.action_core.specs.Tests.{first_of, is_dir, too_deep, install_folder, through_link, no_parent, way, common, not_there, not_directory, not_file, present}
use Rattle.action_core.specs.declared.fault.ActionFault.{ActionFault}
use Rattle.action_core.specs.declared.step.Step.TheVariants.{Set}
use Rattle.action_core.proofs.Params.{not_deep}
use Rattle.std.proofs.Common.{None}

module _ (site : Site) (m : Map) (path : List (List ℕ)) where
  -- a directory that stands is left as it is
  pub mkdir_stands : length path ≤ 64 → is_dir (m path) ≡ true → mkdir site m path ≡ Ok []
  mkdir_stands short is =
      ap (λ (b : Bool). cond b (unless (too_deep path) []) (unless (first_of (common site m path ∷ present (m path) path ∷ [])) (Set path (Some Dir) ∷ []))) is
      ∙ ap (λ (o : Option ActionFault). unless o []) (not_deep path short)

  module _ (fault : ActionFault) (deep : too_deep path ≡ Some fault) where
    pub deep_way : way site m path ≡ Some fault
    unfolding way
    deep_way = ap (λ (o : Option ActionFault). first_of (o ∷ install_folder site path ∷ through_link m path ∷ [])) deep

    pub deep_common : common site m path ≡ Some fault
    unfolding common
    deep_common = ap (λ (o : Option ActionFault). first_of (o ∷ no_parent m path ∷ [])) deep_way

    pub deep_mkdir : mkdir site m path ≡ Err fault
    deep_mkdir = elim (cases_Bool (is_dir (m path))) [
      | inl is ↦ ap (λ (b : Bool). cond b (unless (too_deep path) []) (unless (first_of (common site m path ∷ present (m path) path ∷ [])) (Set path (Some Dir) ∷ []))) is ∙ ap (λ (o : Option ActionFault). unless o []) deep
      | inr other ↦ ap (λ (b : Bool). cond b (unless (too_deep path) []) (unless (first_of (common site m path ∷ present (m path) path ∷ [])) (Set path (Some Dir) ∷ []))) other ∙ ap (λ (o : Option ActionFault). unless (first_of (o ∷ present (m path) path ∷ [])) (Set path (Some Dir) ∷ [])) deep_common
    ]

    pub deep_rmdir : (under : List Touch) → rmdir site m under path ≡ Err fault
    deep_rmdir under = ap (λ (o : Option ActionFault). unless (first_of (o ∷ not_there (m path) path ∷ not_directory (m path) path ∷ not_empty path under ∷ [])) (Set path None ∷ [])) deep_common

    pub deep_chmod : (mode : ℕ) → chmod site m path mode ≡ Err fault
    deep_chmod mode = ap (λ (o : Option ActionFault). unless (first_of (o ∷ not_there (m path) path ∷ not_file (m path) path ∷ [])) (Set path (with_mode mode (m path)) ∷ [])) deep_way

    pub deep_ln : (target : List ℕ) → ln site m path target ≡ Err fault
    deep_ln target = ap (λ (o : Option ActionFault). unless (first_of (o ∷ present (m path) path ∷ [])) (Set path (Some (Link target)) ∷ [])) deep_common

    pub deep_remove : (under : List Touch) → remove site m under path ≡ Err fault
    deep_remove under = ap (λ (o : Option ActionFault). unless o (removals under)) deep_way
