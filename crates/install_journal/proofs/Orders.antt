-- The order of paths, and the first of several.
use Rattle.std.proofs.Common.{◌≡◌, ℕ, zero, suc, ◌+◌, ◌-◌, ◌<◌, ◌⊎◌, List, [], ◌∷◌, ◌++◌, length, get_or, Option, Some, None, Ordering, refl, sym, ◌∙◌, ap, subst, inl, inr, ⊎_elim, arith}
use Rattle.std.specs.Ordering.{nat_cmp, ordering_then, ordering_reverse}
use Rattle.std.specs.Cmp.Lexicographic.{slice_cmp}
use Rattle.std.specs.declared.cmp.Ordering.TheVariants.{Less, Equal, Greater}
use Rattle.std.proofs.lemmas.Bool.{cases_order}
use Rattle.std.proofs.lemmas.Cmp.{nat_list_cmp_total, tied_itself, alike_right}
use Rattle.std.proofs.lemmas.List.{append-nil}
use Rattle.std.proofs.lemmas.Map.Lookups.{exact_bytes}
use Rattle.folder_core.specs.Name.{IsBefore, AreRising}
use Rattle.folder_core.specs.PathOrder.{path_cmp, IsPathBefore}
use Rattle.folder_core.proofs.PathOrder.{path_cmp_total, above_first}
use Rattle.install_journal.specs.Firsts.{IsFirst, Finds, IsEarlier}

abbrev Place : Type 0
Place = List (List ℕ)

pub not_before_itself : (path : Place) → ¬ (IsPathBefore path path)
not_before_itself path before = let same = tied_itself path_cmp_total path in let no : ⊥ = cc in no

pub one_way : (a b : Place) → IsPathBefore a b → ¬ (IsPathBefore b a)
one_way a b first second = not_before_itself a (path_cmp_total.trans a b a first second)

-- what comes before a path comes before each that isn't before that path
pub before_other : (a b other : Place) → ¬ (IsPathBefore a b) → IsPathBefore other b → IsPathBefore other a
before_other a b other none before = at (path_cmp a b) refl
  where
    at : (o : Ordering) → path_cmp a b ≡ o → IsPathBefore other a
    at Less is = absurd (none is)
    at Equal is = alike_right path_cmp_total a b other is ∙ before
    at Greater is = path_cmp_total.trans other b a before (path_cmp_total.antisymm b a ∙ ap ordering_reverse is)

-- no path below another comes before it
pub not_above : (path rest : Place) → ¬ (IsPathBefore (path ++ rest) path)
not_above path [] before = not_before_itself path (subst (λ (p : Place). IsPathBefore p path) (append-nil path) before)
not_above path (name ∷ rest) before = one_way path (path ++ name ∷ rest) (above_first path name rest) before

below_cmp : (path : Place) (a b : List ℕ) (r s : Place) → path_cmp (path ++ a ∷ r) (path ++ b ∷ s) ≡ ordering_then (slice_cmp nat_cmp a b) (path_cmp r s)
below_cmp [] a b r s = refl
below_cmp (x ∷ path) a b r s = ap (λ (o : Ordering). ordering_then o (path_cmp (path ++ a ∷ r) (path ++ b ∷ s))) (tied_itself nat_list_cmp_total x) ∙ below_cmp path a b r s

then_cases : (o p : Ordering) → ordering_then o p ≡ Less → (o ≡ Less) ⊎ ((o ≡ Equal) × (p ≡ Less))
then_cases Less p is = inl refl
then_cases Equal p is = inr (refl, is)
then_cases Greater p is = absurd (let no : ⊥ = cc in no)

-- Below one path the first name decides, and where it is the same, the rest.
pub before_below : (path : Place) (a b : List ℕ) (r s : Place) → IsPathBefore (path ++ a ∷ r) (path ++ b ∷ s) → IsBefore a b ⊎ ((a ≡ b) × IsPathBefore r s)
before_below path a b r s before = ⊎_elim (λ less. inl less) (λ tied. inr (exact_bytes a b tied.0, tied.1))
    (then_cases (slice_cmp nat_cmp a b) (path_cmp r s) (sym (below_cmp path a b r s) ∙ before))

name_one_way : (a b : List ℕ) → IsBefore a b → ¬ (IsBefore b a)
name_one_way a b first second = let back = nat_list_cmp_total.trans a b a first second in let same = tied_itself nat_list_cmp_total a in let no : ⊥ = cc in no

rising_to : (names : List (List ℕ)) → AreRising names → (gap i j : ℕ) → j ≡ i + gap + 1 → j < length names → IsBefore (get_or names i []) (get_or names j [])
rising_to names rising zero i j is below =
    let next : i + 1 ≡ j = omega arith in
    subst (λ (n : ℕ). IsBefore (get_or names i []) (get_or names n [])) next (rising i [] (omega arith))
rising_to names rising (suc gap) i j is below =
    let before : j - 1 ≡ i + gap + 1 = omega arith in
    let next : j - 1 + 1 ≡ j = omega arith in
    nat_list_cmp_total.trans (get_or names i []) (get_or names (j - 1) []) (get_or names j [])
    (rising_to names rising gap i (j - 1) before (omega arith))
    (subst (λ (n : ℕ). IsBefore (get_or names (j - 1) []) (get_or names n [])) next (rising (j - 1) [] (omega arith)))

-- among rising names the lower one is at the lower place
pub lower_place : (names : List (List ℕ)) → AreRising names → (i j : ℕ) → j < length names → IsBefore (get_or names j []) (get_or names i []) → j < i
lower_place names rising i j below before = ⊎_elim
    (λ same. absurd (let at : get_or names j [] ≡ get_or names i [] = ap (λ (n : ℕ). get_or names n []) same in
    let tied = tied_itself nat_list_cmp_total (get_or names i []) in let no : ⊥ = cc in no))
    (λ order. ⊎_elim (λ lower. lower)
    (λ upper. absurd (name_one_way (get_or names i []) (get_or names j []) (rising_to names rising (j - i - 1) i j (omega arith) below) before))
    order)
    (cases_order j i)

-- Where each that has R has one with P or Q at or before it, the earlier of the first with P and the first with Q is the
-- first with R.
module _ (P Q R : Place → Type 0)
    (one : (path : Place) → P path → R path)
    (other : (path : Place) → Q path → R path)
    (covers : (path : Place) → R path → (at : Place) × ((P at ⊎ Q at) × (¬ (IsPathBefore path at)))) where
  not_any : ((path : Place) → ¬ (P path)) → ((path : Place) → ¬ (Q path)) → (path : Place) → ¬ (R path)
  not_any none nor path has = let at = covers path has in ⊎_elim (none at.0) (nor at.0) at.1.0

  first_is : (path : Place) → R path → ((at : Place) → P at → ¬ (IsPathBefore at path)) → ((at : Place) → Q at → ¬ (IsPathBefore at path)) → IsFirst R path
  first_is path has none nor = record {
    has = has;
    first = λ place holds before.
        let at = covers place holds in
        let later : ¬ (IsPathBefore at.0 path) = ⊎_elim (none at.0) (nor at.0) at.1.0 in
        at.1.1 (before_other at.0 path place later before);
  }

  pub finds_earlier : (a b found : Option Place) → Finds P a → Finds Q b → IsEarlier a b found → Finds R found
  finds_earlier None None found none nor is = subst (Finds R) (sym is) (not_any none nor)
  finds_earlier None (Some b) found none second is = subst (Finds R) (sym is) (first_is b (other b second.has) (λ at p before. none at p) second.first)
  finds_earlier (Some a) None found first nor is = subst (Finds R) (sym is) (first_is a (one a first.has) first.first (λ at q before. nor at q))
  finds_earlier (Some a) (Some b) found first second is = ⊎_elim
      (λ left. subst (Finds R) (sym left.0) (first_is a (one a first.has) first.first (λ at q before. second.first at q (before_other b a at left.1 before))))
      (λ right. subst (Finds R) (sym right.0) (first_is b (other b second.has) (λ at p before. first.first at p (path_cmp_total.trans at b a before right.1)) second.first))
      is
