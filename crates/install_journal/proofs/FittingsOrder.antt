-- What stands in order, and what a search finds there.
use Rattle.std.proofs.Common.{◌≡◌, ℕ, zero, suc, ◌+◌, ◌<◌, List, [], ◌∷◌, ◌++◌, length, get_or, Ok, Err, Ordering, inl, inr, refl, sym, ◌∙◌, ap, subst, arith, add-one}
use Rattle.std.specs.Cmp.{IsTotalOrder}
use Rattle.std.specs.Cmp.Lexicographic.{slice_cmp, lists_ties, texts_ties}
use Rattle.std.specs.List.{AllAdjacentBelow, Contains}
use Rattle.std.specs.List.Sorted.{IsBinarySearchResult, IsNonDecreasingBy}
use Rattle.std.specs.Ordering.{nat_cmp, ordering_then, ordering_reverse, ordering_index, is_lt, is_eq}
use Rattle.std.specs.declared.cmp.Ordering.TheVariants.{Less, Equal, Greater}
use Rattle.std.proofs.lemmas.Bool.{cases_eq, cases_lt}
use Rattle.std.proofs.lemmas.Cmp.{nat_list_cmp_total, tied_itself}
use Rattle.std.proofs.lemmas.List.{get_or_default}
use Rattle.std.proofs.lemmas.List.Sorted.{searchable_from_sorted}
use Rattle.folder_core.specs.PathOrder.{path_cmp, IsPathBefore}
use Rattle.folder_core.proofs.Maps.{path_eqb-Decides}
use Rattle.folder_core.proofs.PathOrder.{path_cmp_total}
use Rattle.backup_store.specs.declared.entry.EntryNumber.{EntryNumber}
use Rattle.install_journal.specs.Fitting.{AreInOrder, HasOldest}
use Rattle.install_journal.specs.declared.plan.Oldest.{Oldest}
use Rattle.install_journal.specs.declared.plan.OldKind.TheVariants.{Nothing}
use Rattle.install_journal.proofs.Orders.{not_before_itself}

exact_paths : (a b : List (List ℕ)) → path_cmp a b ≡ Equal → a ≡ b
exact_paths a b e = (path_eqb-Decides a b).0 (lists_ties (slice_cmp nat_cmp) texts_ties a b ∙ ap is_eq e)

-- what rises from each to the next rises from each to all behind it
rises_far : {X K : Type 0} {R : K → K → Ordering} → IsTotalOrder R → (key : X → K) (xs : List X)
    → AllAdjacentBelow (λ a b. R (key a) (key b) ≡ Less) xs (length xs)
    → (i j : ℕ) (d : X) → i < j → j < length xs → R (key (get_or xs i d)) (key (get_or xs j d)) ≡ Less
rises_far {R} o key xs up i zero d less below = absurd (omega arith)
rises_far {R} o key xs up i (suc j) d less below =
    let step : R (key (get_or xs j d)) (key (get_or xs (suc j) d)) ≡ Less = subst (λ n. R (key (get_or xs j d)) (key (get_or xs n d)) ≡ Less) (add-one j) (up j d (omega arith)) in
    elim (cases_eq i j) [
      | inl same ↦ subst (λ n. R (key (get_or xs n d)) (key (get_or xs (suc j) d)) ≡ Less) (sym same) step
      | inr other ↦ o.trans _ _ _ (rises_far {R = R} o key xs up i j d (omega arith) (omega arith)) step
    ]

then_equal : (o : Ordering) → ordering_then o Equal ≡ o
then_equal Less = refl
then_equal Equal = refl
then_equal Greater = refl

-- the children of one path stand in the order of their names
child_cmp : (above : List (List ℕ)) (a b : List ℕ) → path_cmp (above ++ a ∷ []) (above ++ b ∷ []) ≡ slice_cmp nat_cmp a b
child_cmp [] a b = then_equal (slice_cmp nat_cmp a b)
child_cmp (x ∷ above) a b =
    ap (λ (o : Ordering). ordering_then o (path_cmp (above ++ a ∷ []) (above ++ b ∷ []))) (tied_itself nat_list_cmp_total x) ∙ child_cmp above a b

pub children_rise : (above : List (List ℕ)) (names : List (List ℕ)) → AllAdjacentBelow (λ a b. slice_cmp nat_cmp a b ≡ Less) names (length names)
    → (i j : ℕ) → i < j → j < length names → IsPathBefore (above ++ get_or names i [] ∷ []) (above ++ get_or names j [] ∷ [])
children_rise above names up i j less below =
    child_cmp above (get_or names i []) (get_or names j []) ∙ rises_far {R = slice_cmp nat_cmp} nat_list_cmp_total (λ name. name) names up i j [] less below

abbrev pub no_oldest : Oldest
no_oldest = let none : EntryNumber = record { 0 = 0 } in record { path = []; number = none; kind = Nothing }

module _ (oldest : List Oldest) (rising : AreInOrder oldest) where
  pub oldest_rise : (i j : ℕ) → i < j → j < length oldest → IsPathBefore (get_or oldest i no_oldest).path (get_or oldest j no_oldest).path
  oldest_rise i j less below = rises_far {R = path_cmp} path_cmp_total (λ one. one.path) oldest rising i j no_oldest less below

  -- a path has one at most
  pub one_of_path : (a b : Oldest) → Contains oldest a → Contains oldest b → a.path ≡ b.path → a ≡ b
  one_of_path a b (i, below, at) (j, under, on) same = elim (cases_eq i j) [
    | inl here ↦ sym first ∙ ap (λ (n : ℕ). get_or oldest n no_oldest) here ∙ second
    | inr apart ↦ absurd (omega (arith, apart, not_less, not_more))
  ]
    where
      first : get_or oldest i no_oldest ≡ a
      first = get_or_default oldest i no_oldest a below ∙ at

      second : get_or oldest j no_oldest ≡ b
      second = get_or_default oldest j no_oldest b under ∙ on

      paths : (get_or oldest i no_oldest).path ≡ (get_or oldest j no_oldest).path
      paths = ap (λ (one : Oldest). one.path) first ∙ same ∙ sym (ap (λ (one : Oldest). one.path) second)

      not_less : ¬ (i < j)
      not_less less = not_before_itself (get_or oldest j no_oldest).path (subst (λ (p : List (List ℕ)). IsPathBefore p (get_or oldest j no_oldest).path) paths (oldest_rise i j less under))

      not_more : ¬ (j < i)
      not_more less = not_before_itself (get_or oldest j no_oldest).path (subst (λ (p : List (List ℕ)). IsPathBefore (get_or oldest j no_oldest).path p) paths (oldest_rise j i less below))

  module _ (path : List (List ℕ)) where
    searchable : IsNonDecreasingBy (λ one. ordering_index (path_cmp one.path path)) oldest
    searchable = searchable_from_sorted path_cmp_total (λ (one : Oldest). one.path) oldest path
        (λ k d low below. ap is_lt (path_cmp_total.antisymm (get_or oldest (k + 1) d).path (get_or oldest k d).path ∙ ap ordering_reverse (rising k d below)))

    none_there : (place : ℕ) → IsBinarySearchResult (λ one. path_cmp one.path path) oldest (Err place) → ¬ (HasOldest oldest path)
    none_there place parted (one, ((k, below, at), same)) =
        let tied : path_cmp (get_or oldest k one).path path ≡ Equal = ap (λ (o : Oldest). path_cmp o.path path) at ∙ ap (λ (p : List (List ℕ)). path_cmp p path) same ∙ tied_itself path_cmp_total path in
        elim (cases_lt k place) [
          | inl low ↦ let less = (parted searchable).0 k one (omega arith) low in let no : ⊥ = cc in no
          | inr high ↦ let more = (parted searchable).1 k one high below in let no : ⊥ = cc in no
        ]

    pub search_none : (place : ℕ) → IsBinarySearchResult (λ one. path_cmp one.path path) oldest (Err place) → ¬ (HasOldest oldest path)
    search_none place parted = none_there place parted

  pub search_some : (path : List (List ℕ)) (place : ℕ) (one : Oldest) → place < length oldest → one ≡ get_or oldest place one → IsBinarySearchResult (λ one. path_cmp one.path path) oldest (Ok place) → Contains oldest one × (one.path ≡ path)
  search_some path place one below is found = (
    (place, below, sym is),
    ap (λ (o : Oldest). o.path) is ∙ exact_paths (get_or oldest place one).path path (found one),
  )
