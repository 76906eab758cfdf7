-- The directory of the entries, and what is below it.
use Rattle.std.proofs.Common.{◌≡◌, ℕ, ◌≤◌, Bool, List, [], ◌∷◌, length, get_or, Decides, codes, sym, ◌∙◌, ap, arith}
use Rattle.folder_core.specs.Path.{IsBelow}
use Rattle.folder_core.specs.Node.{entries_path}

pub below_entries : (path : List (List ℕ)) (first second : List ℕ) (tested : Bool) → 3 ≤ length path → first ≡ get_or path 0 first → second ≡ get_or path 1 second → first ≡ codes ".p2" → Decides tested (second ≡ codes "e") → Decides tested (IsBelow entries_path path)
below_entries [] first second tested long at_first at_second is_first decides = absurd (omega arith)
below_entries (a ∷ []) first second tested long at_first at_second is_first decides = absurd (omega arith)
below_entries (a ∷ b ∷ []) first second tested long at_first at_second is_first decides = absurd (omega arith)
below_entries (a ∷ b ∷ c ∷ path) first second tested long at_first at_second is_first decides = (
  λ yes. (c, path, ap (λ (x : List ℕ). x ∷ b ∷ c ∷ path) (sym at_first ∙ is_first) ∙ ap (λ (x : List ℕ). codes ".p2" ∷ x ∷ c ∷ path) (sym at_second ∙ decides.0 yes)),
  λ below. decides.1 (at_second ∙ ap (λ (l : List (List ℕ)). get_or l 1 b) below.2),
)
