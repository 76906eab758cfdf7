-- Tests of a path ask a map near that path alone.
use Rattle.std.proofs.Common.{◌≡◌, ℕ, ◌-◌, cond, List, [], ◌∷◌, ◌++◌, length, drop, Option, Some, None, inl, inr, refl, sym, ◌∙◌, ap, append-nil, append_assoc, take-append-drop}
use Rattle.folder_core.specs.Folder.{Map}
use Rattle.folder_core.specs.Path.{parent}
use Rattle.folder_core.specs.declared.node.Node.{Node}
use Rattle.action_core.specs.Places.{Site}
use Rattle.action_core.specs.Standing.{SameNear}
use Rattle.action_core.specs.Tests.{first_of, is_dir, is_link, too_deep, install_folder, link_from, link_above, through, through_link, no_parent, way, common}
use Rattle.action_core.specs.declared.fault.ActionFault.{ActionFault}
use Rattle.action_core.specs.declared.fault.ActionFault.TheVariants.{NoParent}

module _ (m n : Map) where
  pub same_at : (path : List (List ℕ)) → SameNear path m n → m path ≡ n path
  same_at path near = near path (inl ([], sym (append-nil path)))

  same_above : (path front rest : List (List ℕ)) → SameNear path m n → path ≡ front ++ rest → m front ≡ n front
  same_above path front rest near is = near front (inr (rest, is))

  same_links : (path front rest : List (List ℕ)) → SameNear path m n → path ≡ front ++ rest → link_from m front rest ≡ link_from n front rest
  same_links path front [] near is = refl
  same_links path front (name ∷ rest) near is =
      ap (λ (o : Option Node). cond (is_link o) (Some front) (link_from m (front ++ name ∷ []) rest)) (same_above path front (name ∷ rest) near is)
      ∙ ap (λ (o : Option (List (List ℕ))). cond (is_link (n front)) (Some front) o)
      (same_links path (front ++ name ∷ []) rest near (is ∙ sym (append_assoc front (name ∷ []) rest)))

  pub same_through : (path : List (List ℕ)) → SameNear path m n → through_link m path ≡ through_link n path
  unfolding through_link link_above
  same_through path near = ap through (same_links path [] path near refl)

  pub same_way : (site : Site) (path : List (List ℕ)) → SameNear path m n → way site m path ≡ way site n path
  unfolding way
  same_way site path near = ap (λ (o : Option ActionFault). first_of (too_deep path ∷ install_folder site path ∷ o ∷ [])) (same_through path near)

  same_parent : (path : List (List ℕ)) → SameNear path m n → m (parent path) ≡ n (parent path)
  same_parent path near = same_above path (parent path) (drop (length path - 1) path) near (sym (take-append-drop (length path - 1) path))

  pub same_common : (site : Site) (path : List (List ℕ)) → SameNear path m n → common site m path ≡ common site n path
  unfolding common no_parent
  same_common site path near =
      ap (λ (o : Option ActionFault). first_of (o ∷ no_parent m path ∷ [])) (same_way site path near)
      ∙ ap (λ (o : Option Node). first_of (way site n path ∷ cond (is_dir o) None (Some (NoParent path)) ∷ [])) (same_parent path near)
