-- What stands behind a path on the way to a place.
use Rattle.std.proofs.Common.{◌≡◌, ◌≢◌, ℕ, List, [], ◌∷◌, ◌++◌, Option, Some, None, Bor, sym, ◌∙◌, ap}
use Rattle.std.specs.List.{slice_get}
use Rattle.std.specs.Option.{MatchOption, option_copied}
use Rattle.std.proofs.lemmas.List.{append_cancel_left}
use Rattle.folder_core.specs.Path.{IsBelow}
use Rattle.folder_memory.specs.Below.{IsFirstBelow}

pub apart_also : (path place front names : List (List ℕ)) → names ≡ place → front ≡ path → ((rest : List (List ℕ)) → names ≢ front ++ rest) → (rest : List (List ℕ)) → place ≢ path ++ rest
apart_also path place front names same_place same_path apart rest e = apart rest (same_place ∙ e ∙ ap (λ (l : List (List ℕ)). l ++ rest) (sym same_path))

pub behind_also : (path place front names rest : List (List ℕ)) → names ≡ place → front ≡ path → names ≡ front ++ rest → place ≡ path ++ rest
behind_also path place front names rest same_place same_path e = sym same_place ∙ e ∙ ap (λ (l : List (List ℕ)). l ++ rest) same_path

pub not_below : (path place : List (List ℕ)) → ((rest : List (List ℕ)) → place ≢ path ++ rest) → ¬ (IsBelow path place)
not_below path place apart below = apart (below.0 ∷ below.1) below.2

-- the first of the names behind the path
pub first_below : (path rest place : List (List ℕ)) (first : Option (Bor (List ℕ))) → place ≡ path ++ rest → option_copied first ≡ slice_get rest 0 → MatchOption first (¬ (IsBelow path place)) (λ name. IsFirstBelow path name.now place)
first_below path [] place None is at = λ below. let same = append_cancel_left path [] (below.0 ∷ below.1) (sym is ∙ below.2) in let no : ⊥ = cc in no
first_below path [] place (Some name) is at = absurd (let no : ⊥ = cc in no)
first_below path (x ∷ rest) place None is at = absurd (let no : ⊥ = cc in no)
first_below path (x ∷ rest) place (Some name) is at = let same : x ≡ name.now = cc in (rest, is ∙ ap (λ (l : List ℕ). path ++ l ∷ rest) same)
