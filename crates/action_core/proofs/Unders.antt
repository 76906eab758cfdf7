-- What stands at or below a place is one list.
use Rattle.std.proofs.Common.{◌≡◌, ◌⊎◌, ℕ, zero, suc, List, [], ◌∷◌, inl, inr, refl, sym, ◌∙◌, ap, subst, arith}
use Rattle.std.specs.Prelude.{is_some}
use Rattle.std.specs.List.{AllPairs, Contains}
use Rattle.folder_core.specs.Folder.{Map}
use Rattle.folder_core.specs.PathOrder.{IsPathBefore}
use Rattle.folder_core.specs.declared.node.Touch.{Touch}
use Rattle.folder_core.proofs.PathOrder.{path_cmp_total}
use Rattle.install_journal.proofs.Orders.{not_before_itself}
use Rattle.action_core.specs.Standing.{IsUnder}
use Rattle.action_core.proofs.Lookups.{rises_far}

abbrev IsBefore : Touch → Touch → Type 0
IsBefore a b = IsPathBefore a.path b.path

module _ (x : Touch) (xs : List Touch) where
  first_or_behind : (t : Touch) → Contains (x ∷ xs) t → (x ≡ t) ⊎ Contains xs t
  first_or_behind t (zero, below, is) = inl is
  first_or_behind t (suc k, below, is) = inr (k, omega arith, is)

  behind : (t : Touch) → Contains xs t → Contains (x ∷ xs) t
  behind t (k, below, is) = (suc k, omega arith, is)

  module _ (rise : AllPairs IsBefore (x ∷ xs)) where
    tail_rises : AllPairs IsBefore xs
    tail_rises i j d less below = rise (suc i) (suc j) d (omega arith) (omega arith)

    first_before : (t : Touch) → Contains xs t → IsBefore x t
    first_before t (k, below, is) = subst (IsBefore x) is (rise 0 (suc k) t (omega arith) (omega arith))

    not_behind : Contains xs x → ⊥
    not_behind there = not_before_itself x.path (first_before x there)

-- Lists that rise have one first touch where each has those of the other.
same_first : (x y : Touch) (xs ys : List Touch) → AllPairs IsBefore (x ∷ xs) → AllPairs IsBefore (y ∷ ys) → Contains (y ∷ ys) x → Contains (x ∷ xs) y → x ≡ y
same_first x y xs ys x_rises y_rises x_there y_there = elim (first_or_behind y ys x x_there) [
  | inl same ↦ sym same
  | inr x_behind ↦ elim (first_or_behind x xs y y_there) [
    | inl same ↦ same
    | inr y_behind ↦
        absurd (not_before_itself x.path (path_cmp_total.trans x.path y.path x.path (first_before x xs x_rises y y_behind) (first_before y ys y_rises x x_behind)))
  ]
]

-- Each of the first behind its head is behind the head of the other.
behind_both : (x y : Touch) (xs ys : List Touch) → AllPairs IsBefore (x ∷ xs) → x ≡ y → ((t : Touch) → Contains (x ∷ xs) t → Contains (y ∷ ys) t) → (t : Touch) → Contains xs t → Contains ys t
behind_both x y xs ys rise same there t t_behind = elim (first_or_behind y ys t (there t (behind x xs t t_behind))) [
  | inl is ↦ absurd (not_behind x xs rise (subst (Contains xs) (sym (same ∙ is)) t_behind))
  | inr t_there ↦ t_there
]

same_list : (xs ys : List Touch) → AllPairs IsBefore xs → AllPairs IsBefore ys → ((t : Touch) → Contains xs t → Contains ys t) → ((t : Touch) → Contains ys t → Contains xs t) → xs ≡ ys
same_list [] [] xs_rise ys_rise there back = refl
same_list [] (y ∷ ys) xs_rise ys_rise there back = absurd (let none = (back y (0, omega arith, refl)).1 in omega arith)
same_list (x ∷ xs) [] xs_rise ys_rise there back = absurd (let none = (there x (0, omega arith, refl)).1 in omega arith)
same_list (x ∷ xs) (y ∷ ys) xs_rise ys_rise there back =
    let same = same_first x y xs ys xs_rise ys_rise (there x (0, omega arith, refl)) (back y (0, omega arith, refl)) in
    ap (λ (t : Touch). t ∷ xs) same
    ∙ ap (λ (l : List Touch). y ∷ l)
    (same_list xs ys (tail_rises x xs xs_rise) (tail_rises y ys ys_rise) (behind_both x y xs ys xs_rise same there)
    (behind_both y x ys xs ys_rise (sym same) back))

module _ (m : Map) (place : List (List ℕ)) where
  stands_in_both : (xs ys : List Touch) → IsUnder m place xs → IsUnder m place ys → (t : Touch) → Contains xs t → Contains ys t
  stands_in_both xs ys under_xs under_ys t there =
      let each = under_xs.each t there in
      let it : record { path = t.path; node = m t.path } ≡ t = λ i. record { path = t.path; node = each.2 i } in
      subst (Contains ys) it (under_ys.all t.path each.0 (ap is_some each.2 ∙ each.1))

  -- Two lists of what a map has at or below a place are the same.
  pub one_list_under : (xs ys : List Touch) → IsUnder m place xs → IsUnder m place ys → xs ≡ ys
  one_list_under xs ys under_xs under_ys =
      same_list xs ys (rises_far xs under_xs.rising) (rises_far ys under_ys.rising) (stands_in_both xs ys under_xs under_ys) (stands_in_both ys xs under_ys under_xs)
