-- The text so far, with the names that are left, is the text of them all.
use Rattle.std.proofs.Common.{◌≡◌, ◌∙◌, ◌+◌, ◌<◌, ◌≤◌, ℕ, List, ◌∷◌, ◌++◌, length, slice_index_or, drop, sym, ap}
use Rattle.std.proofs.lemmas.List.{at_drop_more, at_drop_all}
use Rattle.host_adapters.specs.PlaceText.{place_text}

pub place_text-drop_more : (root text longer name : List ℕ) (names : List (List ℕ)) (i : ℕ) → i < length names → name ≡ slice_index_or names i name → longer ≡ text ++ 47 ∷ name → place_text text (drop i names) ≡ place_text root names → place_text longer (drop (i + 1) names) ≡ place_text root names
place_text-drop_more root text longer name names i within item joined so_far =
    ap (λ t. place_text t (drop (i + 1) names)) joined ∙ ap (λ n. place_text (text ++ 47 ∷ n) (drop (i + 1) names)) item ∙ sym (at_drop_more (place_text text) names i name within) ∙ so_far

pub place_text-drop_all : (root text : List ℕ) (names : List (List ℕ)) (i : ℕ) → length names ≤ i → place_text text (drop i names) ≡ place_text root names → text ≡ place_text root names
place_text-drop_all root text names i all so_far = sym (at_drop_all (place_text text) names i all) ∙ so_far
