-- What a search in the order of paths finds, and what a walk over what stands finds.
use Rattle.std.proofs.Common.{◌≡◌, ◌≢◌, ℕ, zero, suc, ◌+◌, ◌<◌, Bool, true, false, cond, List, [], ◌∷◌, length, get_or, None, Ok, Err, inl, inr, refl, sym, ◌∙◌, ap, subst, arith, add-one}
use Rattle.std.specs.Prelude.{◌&&◌, ◌||◌}
use Rattle.std.specs.Cmp.Lexicographic.{slice_cmp, lists_ties, texts_ties}
use Rattle.std.specs.List.{filter, list_any}
use Rattle.std.specs.List.Sorted.{IsBinarySearchResult, IsNonDecreasingBy}
use Rattle.std.specs.Ordering.{nat_cmp, ordering_reverse, ordering_index, is_lt, is_eq}
use Rattle.std.specs.declared.cmp.Ordering.TheVariants.{Equal}
use Rattle.std.proofs.lemmas.Bool.{cases_eq, cases_lt, cases_Bool}
use Rattle.std.proofs.lemmas.Cmp.{tied_itself}
use Rattle.std.proofs.lemmas.List.Sorted.{searchable_from_sorted}
use Rattle.folder_core.specs.Path.{path_eqb}
use Rattle.folder_core.specs.PathOrder.{path_cmp, IsPathBefore}
use Rattle.folder_core.specs.declared.node.Touch.{Touch}
use Rattle.folder_core.proofs.Maps.{path_eqb-Decides}
use Rattle.folder_core.proofs.PathOrder.{path_cmp_total}
use Rattle.install_journal.proofs.Orders.{not_before_itself}
use Rattle.action_core.specs.Standing.{AreRising, stands_in}

pub exact_paths : (a b : List (List ℕ)) → path_cmp a b ≡ Equal → a ≡ b
exact_paths a b e = (path_eqb-Decides a b).0 (lists_ties (slice_cmp nat_cmp) texts_ties a b ∙ ap is_eq e)

-- the first of the path says what stands there
pub stands_first : (nodes : List Touch) (place : ℕ) (d : Touch) (path : List (List ℕ)) → ((k : ℕ) → k < place → (get_or nodes k d).path ≢ path) → place < length nodes → (get_or nodes place d).path ≡ path → stands_in nodes path ≡ (get_or nodes place d).node
stands_first [] place d path before below is = absurd (omega arith)
stands_first (touch ∷ nodes) zero d path before below is =
    ap (λ (b : Bool). cond b touch.node (stands_in nodes path)) ((path_eqb-Decides touch.path path).1 is)
stands_first (touch ∷ nodes) (suc place) d path before below is = elim (cases_Bool (path_eqb touch.path path)) [
  | inl same ↦ absurd (before 0 (omega arith) ((path_eqb-Decides touch.path path).0 same))
  | inr other ↦
      ap (λ (b : Bool). cond b touch.node (stands_in nodes path)) other
      ∙ stands_first nodes place d path (λ k less. before (suc k) (omega arith)) (omega arith) is
]

pub stands_none : (nodes : List Touch) (path : List (List ℕ)) → ((k : ℕ) (d : Touch) → k < length nodes → (get_or nodes k d).path ≢ path) → stands_in nodes path ≡ None
stands_none [] path none = refl
stands_none (touch ∷ nodes) path none = elim (cases_Bool (path_eqb touch.path path)) [
  | inl same ↦ absurd (none 0 touch (omega arith) ((path_eqb-Decides touch.path path).0 same))
  | inr other ↦
      ap (λ (b : Bool). cond b touch.node (stands_in nodes path)) other
      ∙ stands_none nodes path (λ k d below. none (suc k) d (omega arith))
]

module _ (nodes : List Touch) (rising : AreRising nodes) where
  -- what rises from each to the next rises from each to all behind it
  pub rises_far : (i j : ℕ) (d : Touch) → i < j → j < length nodes → IsPathBefore (get_or nodes i d).path (get_or nodes j d).path
  rises_far i zero d less below = absurd (omega arith)
  rises_far i (suc j) d less below =
      let step : IsPathBefore (get_or nodes j d).path (get_or nodes (suc j) d).path = subst (λ n. IsPathBefore (get_or nodes j d).path (get_or nodes n d).path) (add-one j) (rising j d (omega arith)) in
      elim (cases_eq i j) [
        | inl same ↦ subst (λ n. IsPathBefore (get_or nodes n d).path (get_or nodes (suc j) d).path) (sym same) step
        | inr other ↦ path_cmp_total.trans (get_or nodes i d).path (get_or nodes j d).path (get_or nodes (suc j) d).path (rises_far i j d (omega arith) (omega arith)) step
      ]

  module _ (path : List (List ℕ)) where
    searchable : IsNonDecreasingBy (λ touch. ordering_index (path_cmp touch.path path)) nodes
    searchable = searchable_from_sorted path_cmp_total (λ (touch : Touch). touch.path) nodes path
        (λ k d low below. ap is_lt (path_cmp_total.antisymm (get_or nodes (k + 1) d).path (get_or nodes k d).path ∙ ap ordering_reverse (rising k d below)))

    pub search_none : (place : ℕ) → IsBinarySearchResult (λ touch. path_cmp touch.path path) nodes (Err place) → stands_in nodes path ≡ None
    search_none place parted = stands_none nodes path none
      where
        none : (k : ℕ) (d : Touch) → k < length nodes → (get_or nodes k d).path ≢ path
        none k d below same =
            let tied : path_cmp (get_or nodes k d).path path ≡ Equal = ap (λ (p : List (List ℕ)). path_cmp p path) same ∙ tied_itself path_cmp_total path in
            elim (cases_lt k place) [
              | inl low ↦ let less = (parted searchable).0 k d (omega arith) low in let no : ⊥ = cc in no
              | inr high ↦ let more = (parted searchable).1 k d high below in let no : ⊥ = cc in no
            ]

    pub search_some : (place : ℕ) (touch : Touch) → place < length nodes → IsBinarySearchResult (λ touch. path_cmp touch.path path) nodes (Ok place) → stands_in nodes path ≡ (get_or nodes place touch).node
    search_some place touch below found =
        let here : (get_or nodes place touch).path ≡ path = exact_paths (get_or nodes place touch).path path (found touch) in
        stands_first nodes place touch path
        (λ k less same. not_before_itself path (subst (λ (p : List (List ℕ)). IsPathBefore p path) same (subst (λ (p : List (List ℕ)). IsPathBefore (get_or nodes k touch).path p) here (rises_far k place touch less below))))
        below here

-- one that passes both tests is found
pub any_filter_at : {X : Type 0} (p q : X → Bool) (xs : List X) (i : ℕ) (d : X) → i < length xs → q (get_or xs i d) ≡ true → p (get_or xs i d) ≡ true → list_any p (filter q xs) ≡ true
any_filter_at p q [] i d below kept is = absurd (omega arith)
any_filter_at p q (x ∷ xs) zero d below kept is =
    ap (λ (b : Bool). list_any p (cond b (x ∷ filter q xs) (filter q xs))) kept ∙ ap (λ (b : Bool). b || list_any p (filter q xs)) is
any_filter_at p q (x ∷ xs) (suc i) d below kept is = elim (cases_Bool (q x)) [
  | inl here ↦
      ap (λ (b : Bool). list_any p (cond b (x ∷ filter q xs) (filter q xs))) here
      ∙ ap (λ (b : Bool). p x || b) (any_filter_at p q xs i d (omega arith) kept is) ∙ either (p x)
  | inr not_here ↦
      ap (λ (b : Bool). list_any p (cond b (x ∷ filter q xs) (filter q xs))) not_here
      ∙ any_filter_at p q xs i d (omega arith) kept is
]
  where
    either : (b : Bool) → (b || true) ≡ true
    either true = refl
    either false = refl

-- none passes both tests
pub none_filter : {X : Type 0} (p q : X → Bool) (xs : List X) → ((i : ℕ) (d : X) → i < length xs → (q (get_or xs i d) && p (get_or xs i d)) ≡ false) → list_any p (filter q xs) ≡ false
none_filter p q [] none = refl
none_filter p q (x ∷ xs) none = elim (cases_Bool (q x)) [
  | inl here ↦
      ap (λ (b : Bool). list_any p (cond b (x ∷ filter q xs) (filter q xs))) here
      ∙ ap (λ (b : Bool). b || list_any p (filter q xs)) (sym (ap (λ (b : Bool). b && p x) here) ∙ none 0 x (omega arith))
      ∙ none_filter p q xs (λ i d below. none (suc i) d (omega arith))
  | inr not_here ↦
      ap (λ (b : Bool). list_any p (cond b (x ∷ filter q xs) (filter q xs))) not_here
      ∙ none_filter p q xs (λ i d below. none (suc i) d (omega arith))
]
