-- The places of a plan are in the order of their paths.
use Rattle.std.proofs.Common.{◌≡◌, ◌≢◌, ℕ, zero, suc, ◌+◌, ◌<◌, List, [], ◌∷◌, ◌++◌, length, get_or, Contains, inl, inr, ⊎_elim, sym, ◌∙◌, ap, subst, arith}
use Rattle.std.proofs.lemmas.Bool.{cases_order}
use Rattle.std.proofs.lemmas.List.{get_or_default}
use Rattle.folder_core.specs.Path.{IsBelow, parent}
use Rattle.folder_core.specs.PathOrder.{path_cmp, IsPathBefore}
use Rattle.folder_core.proofs.Maps.{front_last}
use Rattle.folder_core.proofs.PathOrder.{path_cmp_total, above_first}
use Rattle.std.specs.List.{AllAdjacentBelow}
use Rattle.install_journal.specs.Plan.{IsPathBelow}
use Rattle.install_journal.specs.declared.plan.Oldest.{Oldest}
use Rattle.install_journal.proofs.Orders.{not_before_itself}

-- At this place of the list stands this.
pub record IsAt (list : List Oldest) (place : ℕ) (oldest : Oldest) : Type 0 where
  pub below : place < length list
  pub is : get_or list place oldest ≡ oldest

pub at_contained : (list : List Oldest) (oldest : Oldest) → Contains list oldest → (place : ℕ) × IsAt list place oldest
at_contained list oldest (place, below, is) = (place, record { below = below; is = is })

pub contained_at : (list : List Oldest) (place : ℕ) (oldest : Oldest) → IsAt list place oldest → Contains list oldest
contained_at list place oldest at = (place, at.below, at.is)

pub at_one : (list : List Oldest) (place other : ℕ) (a b : Oldest) → IsAt list place a → IsAt list other b → place ≡ other → a ≡ b
at_one list place other a b first second same =
    sym first.is ∙ get_or_default list place a b first.below ∙ ap (λ (n : ℕ). get_or list n b) same ∙ second.is

module _ (list : List Oldest) (rising : AllAdjacentBelow IsPathBelow list (length list)) where
  next_before : (place other : ℕ) (a b : Oldest) → IsAt list place a → IsAt list other b → place + 1 ≡ other → IsPathBefore a.path b.path
  next_before place other a b first second next =
      let less : IsPathBefore (get_or list place a).path (get_or list (place + 1) a).path = rising place a (omega (arith, second.below, next)) in
      let here : (get_or list place a).path ≡ a.path = ap (λ (o : Oldest). o.path) first.is in
      let there : (get_or list (place + 1) a).path ≡ b.path =
      ap (λ (n : ℕ). (get_or list n a).path) next ∙ ap (λ (o : Oldest). o.path) (get_or_default list other a b second.below ∙ second.is) in
      sym (ap (λ (p : List (List ℕ)). path_cmp p (get_or list (place + 1) a).path) here ∙ ap (λ (p : List (List ℕ)). path_cmp a.path p) there) ∙ less

  pub rising_before : (place other : ℕ) (a b : Oldest) → IsAt list place a → IsAt list other b → place < other → IsPathBefore a.path b.path
  rising_before place zero a b first second less = absurd (omega arith)
  rising_before place (suc other) a b first second less = elim (cases_order place other) [
    | inl same ↦ next_before place (suc other) a b first second (omega arith)
    | inr apart ↦
        let nearer : place < other = ⊎_elim (λ lt. lt) (λ gt. absurd (omega arith)) apart in
        let mid : Oldest = get_or list other a in
        let mid_at : IsAt list other mid = record { below = omega (arith, second.below); is = get_or_default list other mid a (omega (arith, second.below)) } in
        path_cmp_total.trans a.path mid.path b.path
        (rising_before place other a mid first mid_at nearer)
        (next_before other (suc other) mid b mid_at second (omega arith))
  ]

  -- of two paths the first has the lower place
  pub before_lower : (place other : ℕ) (a b : Oldest) → IsAt list place a → IsAt list other b → IsPathBefore a.path b.path → place < other
  before_lower place other a b first second before = elim (cases_order place other) [
    | inl same ↦
        let one : a ≡ b = at_one list place other a b first second same in
        absurd (not_before_itself a.path (subst (λ (o : Oldest). IsPathBefore a.path o.path) (sym one) before))
    | inr apart ↦ ⊎_elim (λ lt. lt)
        (λ gt. absurd (not_before_itself a.path (path_cmp_total.trans a.path b.path a.path before (rising_before other place b a second first gt))))
        apart
  ]

  -- what lies below has the higher place
  pub below_higher : (place other : ℕ) (a b : Oldest) → IsAt list place a → IsAt list other b → IsBelow a.path b.path → place < other
  below_higher place other a b first second (name, rest, is) =
      before_lower place other a b first second (subst (IsPathBefore a.path) (sym is) (above_first a.path name rest))

  -- the parent has the lower place
  pub parent_lower : (place other : ℕ) (a b : Oldest) → IsAt list place a → IsAt list other b → b.path ≢ [] → a.path ≡ parent b.path → place < other
  parent_lower place other a b first second some is =
      let last = front_last b.path some in
      below_higher place other a b first second (last.0, [], last.1 ∙ ap (λ (p : List (List ℕ)). p ++ last.0 ∷ []) (sym is))

  -- one path stands at one place
  pub path_one : (place other : ℕ) (a b : Oldest) → IsAt list place a → IsAt list other b → a.path ≡ b.path → place ≡ other
  path_one place other a b first second same = elim (cases_order place other) [
    | inl is ↦ is
    | inr apart ↦ absurd (⊎_elim
        (λ lt. not_before_itself b.path (subst (λ (p : List (List ℕ)). IsPathBefore p b.path) same (rising_before place other a b first second lt)))
        (λ gt. not_before_itself b.path (subst (λ (p : List (List ℕ)). IsPathBefore b.path p) same (rising_before other place b a second first gt)))
        apart)
  ]
