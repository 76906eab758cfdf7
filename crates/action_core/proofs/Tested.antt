-- The common tests, one by one.
use Rattle.std.proofs.Common.{◌≡◌, ℕ, ◌≤◌, ◌-◌, Bool, true, false, cond, List, [], ◌∷◌, length, take, Option, Some, None, refl, sym, ◌∙◌, ap}
use Rattle.folder_core.specs.Folder.{Map}
use Rattle.folder_core.specs.Path.{path_eqb, parent}
use Rattle.action_core.specs.Places.{Site}
use Rattle.action_core.specs.Tests.{first_of, is_dir, install_folder, link_above, through, through_link, no_parent, way, common}
use Rattle.action_core.specs.declared.fault.ActionFault.{ActionFault}
use Rattle.action_core.specs.declared.fault.ActionFault.TheVariants.{InstallFolder, NoParent}
use Rattle.action_core.proofs.Params.{not_deep}

pub through_some : (m : Map) (path link : List (List ℕ)) → link_above m path ≡ Some link → through_link m path ≡ through (Some link)
unfolding through_link
through_some m path link is = ap through is

pub through_none : (m : Map) (path : List (List ℕ)) → link_above m path ≡ None → through_link m path ≡ None
unfolding through_link
through_none m path is = ap through is

module _ (site : Site) (m : Map) (path : List (List ℕ)) where
  pub way_install : length path ≤ 64 → path_eqb path site.install ≡ true → way site m path ≡ Some (InstallFolder path)
  unfolding way install_folder
  way_install short is =
      ap (λ (o : Option ActionFault). first_of (o ∷ install_folder site path ∷ through_link m path ∷ [])) (not_deep path short)
      ∙ ap (λ (b : Bool). first_of (cond b (Some (InstallFolder path)) None ∷ through_link m path ∷ [])) is

  pub way_links : length path ≤ 64 → path_eqb path site.install ≡ false → way site m path ≡ first_of (through_link m path ∷ [])
  unfolding way install_folder
  way_links short other =
      ap (λ (o : Option ActionFault). first_of (o ∷ install_folder site path ∷ through_link m path ∷ [])) (not_deep path short)
      ∙ ap (λ (b : Bool). first_of (cond b (Some (InstallFolder path)) None ∷ through_link m path ∷ [])) other

  pub common_way : (fault : ActionFault) → way site m path ≡ Some fault → common site m path ≡ Some fault
  unfolding common
  common_way fault is = ap (λ (o : Option ActionFault). first_of (o ∷ no_parent m path ∷ [])) is

  pub common_passed : way site m path ≡ None → is_dir (m (parent path)) ≡ true → common site m path ≡ None
  unfolding common no_parent
  common_passed passed is =
      ap (λ (o : Option ActionFault). first_of (o ∷ no_parent m path ∷ [])) passed
      ∙ ap (λ (b : Bool). first_of (cond b None (Some (NoParent path)) ∷ [])) is

  pub common_no_parent : way site m path ≡ None → is_dir (m (parent path)) ≡ false → common site m path ≡ Some (NoParent path)
  unfolding common no_parent
  common_no_parent passed other =
      ap (λ (o : Option ActionFault). first_of (o ∷ no_parent m path ∷ [])) passed
      ∙ ap (λ (b : Bool). first_of (cond b None (Some (NoParent path)) ∷ [])) other

pub first_of-same : (fault : Option ActionFault) → first_of (fault ∷ []) ≡ fault
first_of-same None = refl
first_of-same (Some fault) = refl

-- what a front of one name less says is what the parent says
pub parent_there : (names path : List (List ℕ)) (count : ℕ) (m : Map) → names ≡ path → count ≡ length names - 1 → is_dir (m (parent path)) ≡ is_dir (m (take count names))
parent_there names path count m same less =
    ap (λ (p : List (List ℕ)). is_dir (m (parent p))) (sym same) ∙ ap (λ (n : ℕ). is_dir (m (take n names))) (sym less)
