-- The order of paths is total. In it a path comes before those below it, and in its reverse after them.
use Rattle.std.proofs.Common.{◌≡◌, ℕ, List, [], ◌∷◌, ◌++◌, Ordering, refl, ◌∙◌, ap}
use Rattle.std.specs.Cmp.{IsTotalOrder}
use Rattle.std.specs.Ordering.{ordering_then}
use Rattle.std.specs.declared.cmp.Ordering.TheVariants.{Greater}
use Rattle.std.proofs.lemmas.Cmp.{nat_list_cmp_total, lists_total, tied_itself}
use Rattle.folder_core.specs.PathOrder.{path_cmp, IsPathBefore}

pub path_cmp_total : IsTotalOrder path_cmp
path_cmp_total = lists_total nat_list_cmp_total

pub above_first : (path : List (List ℕ)) (name : List ℕ) (rest : List (List ℕ)) → IsPathBefore path (path ++ name ∷ rest)
above_first [] name rest = refl
above_first (x ∷ path) name rest =
    ap (λ (o : Ordering). ordering_then o (path_cmp path (path ++ name ∷ rest))) (tied_itself nat_list_cmp_total x) ∙ above_first path name rest

pub below_last : (path : List (List ℕ)) (name : List ℕ) (rest : List (List ℕ)) → path_cmp (path ++ name ∷ rest) path ≡ Greater
below_last [] name rest = refl
below_last (x ∷ path) name rest =
    ap (λ (o : Ordering). ordering_then o (path_cmp (path ++ name ∷ rest) path)) (tied_itself nat_list_cmp_total x) ∙ below_last path name rest
