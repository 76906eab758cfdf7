-- Paths below a path stand together in the order.
use Rattle.std.proofs.Common.{◌≡◌, ◌≢◌, ℕ, List, [], ◌∷◌, ◌++◌, Ordering, refl, sym, ◌∙◌, ap, subst}
use Rattle.std.specs.Ordering.{nat_cmp, ordering_then, ordering_reverse}
use Rattle.std.specs.Cmp.Lexicographic.{slice_cmp}
use Rattle.std.specs.declared.cmp.Ordering.TheVariants.{Less, Equal, Greater}
use Rattle.std.proofs.lemmas.Cmp.{nat_list_cmp_total, tied_itself}
use Rattle.std.proofs.lemmas.Map.Lookups.{exact_bytes}
use Rattle.folder_core.specs.Path.{IsBelow}
use Rattle.folder_core.specs.PathOrder.{path_cmp, IsPathBefore}
use Rattle.folder_core.proofs.PathOrder.{above_first, path_cmp_total}

abbrev Place : Type 0
Place = List (List ℕ)

less_not_greater : (o : Ordering) → o ≡ Less → o ≢ Greater
less_not_greater o is other = let bad : ⊥ = cc in bad

reversed_not_greater : (o p : Ordering) → o ≡ ordering_reverse p → p ≢ Less → o ≢ Greater
reversed_not_greater o Less is other = absurd (other refl)
reversed_not_greater o Equal is other = λ e. let bad : ⊥ = cc in bad
reversed_not_greater o Greater is other = λ e. let bad : ⊥ = cc in bad

pub before_not_after : (a b : Place) → IsPathBefore a b → path_cmp a b ≢ Greater
before_not_after a b before = less_not_greater (path_cmp a b) before

-- a place isn't behind one that isn't before it
pub not_before : (a b : Place) → ¬ (IsPathBefore a b) → path_cmp b a ≢ Greater
not_before a b none = reversed_not_greater (path_cmp b a) (path_cmp a b) (path_cmp_total.antisymm b a) none

pub below_is_after : (path place : Place) → IsBelow path place → IsPathBefore path place
below_is_after path place below = subst (λ p. IsPathBefore path p) (sym below.2) (above_first path below.0 below.1)

pub apart_before : (path : Place) → ¬ (IsPathBefore path path)
apart_before path before = let same = tied_itself path_cmp_total path in let bad : ⊥ = cc in bad

-- what stands from a path on, up to a place that begins with it, begins with it
pub between : (path place rest : Place) → path_cmp path place ≢ Greater → path_cmp place (path ++ rest) ≢ Greater → (more : Place) × (place ≡ path ++ more)
between [] place rest from to = (place, refl)
between (x ∷ path) [] rest from to = absurd (from refl)
between (x ∷ path) (y ∷ place) rest from to = at (λ f t. between path place rest f t) (slice_cmp nat_cmp x y) refl
  where
    at : (path_cmp path place ≢ Greater → path_cmp place (path ++ rest) ≢ Greater → (more : Place) × (place ≡ path ++ more)) → (o : Ordering) → slice_cmp nat_cmp x y ≡ o → (more : Place) × (y ∷ place ≡ x ∷ (path ++ more))
    at later Less is =
        let back : slice_cmp nat_cmp y x ≡ Greater = nat_list_cmp_total.antisymm y x ∙ ap ordering_reverse is in
        absurd (to (ap (λ (o : Ordering). ordering_then o (path_cmp place (path ++ rest))) back))
    at later Greater is = absurd (from (ap (λ (o : Ordering). ordering_then o (path_cmp path place)) is))
    at later Equal is =
        let same = exact_bytes x y is in
        let back : slice_cmp nat_cmp y x ≡ Equal = nat_list_cmp_total.antisymm y x ∙ ap ordering_reverse is in
        let behind = later
        (λ e. from (ap (λ (o : Ordering). ordering_then o (path_cmp path place)) is ∙ e))
        (λ e. to (ap (λ (o : Ordering). ordering_then o (path_cmp place (path ++ rest))) back ∙ e)) in
        (behind.0, ap (λ (l : List ℕ). l ∷ place) (sym same) ∙ ap (λ (l : Place). x ∷ l) behind.1)
