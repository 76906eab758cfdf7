-- What a look for a place below a path found.
use Rattle.std.proofs.Common.{◌≡◌, ℕ, true, false, List, ◌∷◌, Option, Some, None, Bor, sym, ◌∙◌}
use Rattle.std.proofs.lemmas.List.{append_cancel_left}
use Rattle.std.specs.Option.{MatchOption, is_some}
use Rattle.folder_core.specs.Path.{IsBelow}
use Rattle.folder_memory.specs.Below.{IsFirstBelow}

pub below_found : (path place : List (List ℕ)) (found : Option (Bor (List ℕ))) → MatchOption found (¬ (IsBelow path place)) (λ name. IsFirstBelow path name.now place) → is_some found ≡ true → IsBelow path place
below_found path place None holds some = absurd (let no : ⊥ = cc in no)
below_found path place (Some name) holds some = (name.now, holds.0, holds.1)

pub none_found : (path place : List (List ℕ)) (found : Option (Bor (List ℕ))) → MatchOption found (¬ (IsBelow path place)) (λ name. IsFirstBelow path name.now place) → is_some found ≡ false → ¬ (IsBelow path place)
none_found path place None holds none = holds
none_found path place (Some name) holds none = absurd (let no : ⊥ = cc in no)

pub same_step : (path place : List (List ℕ)) (name other : List ℕ) → IsFirstBelow path name place → IsFirstBelow path other place → other ≡ name
same_step path place name other first second = let same = append_cancel_left path (name ∷ first.0) (other ∷ second.0) (sym first.1 ∙ second.1) in cc
