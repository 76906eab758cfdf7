-- What the names below the root say of the folder.
use Rattle.std.proofs.Common.{◌≡◌, ◌↔◌, ℕ, List, [], ◌∷◌, Option, Some, None, IsSome, Contains, length, refl, sym, subst, ◌<◌, arith}
use Rattle.folder_core.specs.Folder.{Told, IsFormed, IsKid}
use Rattle.folder_core.specs.Step.{OnTold}
use Rattle.folder_core.specs.declared.node.Node.{Node}
use Rattle.director_core.specs.Answer.{HasChild}
use Rattle.director_core.specs.Laid.{IsBare}

none_from : (o : Option Node) → (IsSome o → ⊥) → o ≡ None
none_from None h = refl
none_from (Some x) h = absurd (h refl)

nothing_contained : (name : List ℕ) → Contains {X = List ℕ} [] name → ⊥
nothing_contained name h = absurd (omega (arith, h.1))

pub bare_root : (a : Option Told) (root : List (List ℕ)) (names : List (List ℕ)) → OnTold a (λ s. IsFormed s.now) → root ≡ []
    → OnTold a (λ s. (name : List ℕ) → Contains names name ↔ IsKid s.now root name)
    → names ≡ []
    → OnTold a (λ s. IsBare s.now)
bare_root None root names formed at_root kids empty = tt
bare_root (Some s) root names formed at_root kids empty = λ name.
    none_from (s.now (name ∷ [])) (λ stands.
    let P : List (List ℕ) → Type 0 = λ r. IsKid s.now r name in
    let kid : IsKid s.now root name = subst P (sym at_root) (record { directory = formed.root; stands = stands }) in
    let Q : List (List ℕ) → Type 0 = λ ns. Contains ns name in
    nothing_contained name (subst Q empty ((kids name).1 kid)))

pub child_of_root : (a : Option Told) (root : List (List ℕ)) (names : List (List ℕ)) → root ≡ []
    → OnTold a (λ s. (name : List ℕ) → Contains names name ↔ IsKid s.now root name)
    → (names ≡ [] → ⊥)
    → OnTold a (λ s. HasChild s.now)
child_of_root None root names at_root kids some = tt
child_of_root (Some s) root [] at_root kids some = absurd (some refl)
child_of_root (Some s) root (name ∷ names) at_root kids some =
    let P : List (List ℕ) → Type 0 = λ r. IsKid s.now r name in
    let first : 0 < length (name ∷ names) = omega arith in
    (name, (subst P at_root ((kids name).0 (0, first, refl))).stands)
