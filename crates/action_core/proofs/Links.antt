-- The first link on the way to a path.
use Rattle.std.proofs.Common.{◌≡◌, ℕ, ◌+◌, ◌<◌, Bool, true, false, cond, List, [], ◌∷◌, ◌++◌, length, get_or, take, drop, Some, sym, ◌∙◌, ap, add-one}
use Rattle.std.proofs.Math.Seq.{drop-cons}
use Rattle.std.proofs.lemmas.List.{take_more}
use Rattle.folder_core.specs.Folder.{Map}
use Rattle.action_core.specs.Tests.{is_link, link_from}

module _ (m : Map) (names : List (List ℕ)) (k : ℕ) (below : k < length names) where
  here : link_from m (take k names) (drop k names) ≡ cond (is_link (m (take k names))) (Some (take k names)) (link_from m (take k names ++ get_or names k [] ∷ []) (drop (k + 1) names))
  here = ap (link_from m (take k names)) (drop-cons names k [] below ∙ ap (λ (n : ℕ). get_or names k [] ∷ drop n names) (sym (add-one k)))

  pub link_next : is_link (m (take k names)) ≡ false → link_from m (take (k + 1) names) (drop (k + 1) names) ≡ link_from m (take k names) (drop k names)
  link_next other =
      ap (λ (l : List (List ℕ)). link_from m l (drop (k + 1) names)) (take_more names k [] below)
      ∙ sym (here ∙ ap (λ (b : Bool). cond b (Some (take k names)) (link_from m (take k names ++ get_or names k [] ∷ []) (drop (k + 1) names))) other)

  pub link_here : is_link (m (take k names)) ≡ true → link_from m (take k names) (drop k names) ≡ Some (take k names)
  link_here is = here ∙ ap (λ (b : Bool). cond b (Some (take k names)) (link_from m (take k names ++ get_or names k [] ∷ []) (drop (k + 1) names))) is
