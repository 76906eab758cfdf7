-- A source gives one outcome.
use Rattle.std.proofs.Common.{◌≡◌, ◌⊎◌, inl, inr, ⊎_elim, ℕ, zero, suc, ◌<◌, List, [], ◌∷◌, length, get_or, Contains, Result, Ok, Err, refl, sym, ap, ◌∙◌, subst, arith}
use Rattle.std.specs.List.{AllByRecursion}
use Rattle.std.specs.List.Sorted.{IsStrictlySortedBy}
use Rattle.std.specs.Ordering.{nat_cmp, ordering_reverse}
use Rattle.std.specs.Cmp.{IsTotalOrder}
use Rattle.std.specs.Cmp.Lexicographic.{slice_cmp}
use Rattle.std.specs.declared.cmp.Ordering.TheVariants.{Less}
use Rattle.std.proofs.lemmas.Cmp.{nat_cmp_total, lists_total}
use Rattle.std.proofs.lemmas.Map.Keys.{sorted_head, sorted_tail, sorted_from_all_adjacent}
use Rattle.folder_core.specs.Name.{IsBefore, AreRising}
use Rattle.folder_core.specs.Tree.{Files}
use Rattle.unit_model.specs.declared.unit.Unit.{Unit}
use Rattle.inf_reader.proofs.ReadingLemmas.{readings_once}
use Rattle.director_words.specs.declared.status.Status.{Status}
use Rattle.director_source.specs.Source.{AreFolders, source_units, SourceGives}

-- ---- elements

module _ {X : Type 0} where
  pub first_there : (x : X) (xs : List X) → Contains (x ∷ xs) x
  first_there x xs = (0, omega arith, refl)

  pub later_there : (x : X) (xs : List X) (y : X) → Contains xs y → Contains (x ∷ xs) y
  later_there x xs y has = let inside = has.1 in (suc has.0, omega arith, has.2)

  at_place : (x : X) (xs : List X) (y : X) (k : ℕ) → k < length (x ∷ xs) → get_or (x ∷ xs) k y ≡ y → (x ≡ y) ⊎ (Contains xs y)
  at_place x xs y zero inside is = inl is
  at_place x xs y (suc k) inside is = inr (k, omega arith, is)

  pub there_cases : (x : X) (xs : List X) (y : X) → Contains (x ∷ xs) y → (x ≡ y) ⊎ (Contains xs y)
  there_cases x xs y has = at_place x xs y has.0 has.1 has.2

  pub none_there : (y : X) → Contains [] y → ⊥
  none_there y has = let inside = has.1 in omega arith

  each_of : (P : X → Type 0) (xs : List X) (y : X) → AllByRecursion P xs → Contains xs y → P y
  each_of P [] y all has = absurd (none_there y has)
  each_of P (x ∷ xs) y all has = ⊎_elim (λ e. subst P e all.0) (λ later. each_of P xs y all.1 later) (there_cases x xs y has)

-- ---- rising names

names_total : IsTotalOrder (slice_cmp nat_cmp)
names_total = lists_total nat_cmp_total

less_not_itself : (a : List ℕ) → IsBefore a a → ⊥
less_not_itself a h = let other = names_total.antisymm a a in let e : Less ≡ ordering_reverse Less = sym h ∙ (other ∙ ap ordering_reverse h) in cc

less_not_both : (a b : List ℕ) → IsBefore a b → IsBefore b a → ⊥
less_not_both a b h k = less_not_itself a (names_total.trans a b a h k)

abbrev Sorted : List (List ℕ) → Type 0
Sorted names = IsStrictlySortedBy (slice_cmp nat_cmp) names

head_before : (x : List ℕ) (xs : List (List ℕ)) (y : List ℕ) → Sorted (x ∷ xs) → Contains xs y → IsBefore x y
head_before x xs y sorted has = each_of (λ z. slice_cmp nat_cmp x z ≡ Less) xs y (sorted_head (slice_cmp nat_cmp) x xs sorted) has

abbrev Same : List (List ℕ) → List (List ℕ) → Type 0
Same xs ys = (name : List ℕ) → Contains xs name → Contains ys name

heads_same : (x y : List ℕ) (xs ys : List (List ℕ)) → Sorted (x ∷ xs) → Sorted (y ∷ ys) → Same (x ∷ xs) (y ∷ ys) → Same (y ∷ ys) (x ∷ xs) → x ≡ y
heads_same x y xs ys s t f g =
    ⊎_elim (λ e. sym e)
    (λ in_ys. ⊎_elim (λ e. e) (λ in_xs. absurd (less_not_both y x (head_before y ys x t in_ys) (head_before x xs y s in_xs))) (there_cases x xs y (g y (first_there y ys))))
    (there_cases y ys x (f x (first_there x xs)))

tails_same : (x y : List ℕ) (xs ys : List (List ℕ)) → x ≡ y → Sorted (x ∷ xs) → Same (x ∷ xs) (y ∷ ys) → Same xs ys
tails_same x y xs ys e s f name has =
    ⊎_elim
    (λ is. absurd (less_not_itself name (let P : List ℕ → Type 0 = λ n. IsBefore n name in subst P (e ∙ is) (head_before x xs name s has))))
    (λ later. later)
    (there_cases y ys name (f name (later_there x xs name has)))

sorted_same : (xs ys : List (List ℕ)) → Sorted xs → Sorted ys → Same xs ys → Same ys xs → xs ≡ ys
sorted_same [] [] s t f g = refl
sorted_same [] (y ∷ ys) s t f g = absurd (none_there y (g y (first_there y ys)))
sorted_same (x ∷ xs) [] s t f g = absurd (none_there x (f x (first_there x xs)))
sorted_same (x ∷ xs) (y ∷ ys) s t f g =
    let head = heads_same x y xs ys s t f g in
    let tail = sorted_same xs ys (sorted_tail (slice_cmp nat_cmp) x xs s) (sorted_tail (slice_cmp nat_cmp) y ys t) (tails_same x y xs ys head s f) (tails_same y x ys xs (sym head) t g) in
    λ i. head i ∷ tail i

rising_sorted : (names : List (List ℕ)) → AreRising names → Sorted names
rising_sorted names rising = sorted_from_all_adjacent names_total names [] (λ k more. rising k [] more)

folders_same : (files : Files) (a b : List (List ℕ)) → AreFolders files a → AreFolders files b → a ≡ b
folders_same files a b one other =
    sorted_same a b (rising_sorted a one.rising) (rising_sorted b other.rising)
    (λ name has. (other.those name).1 ((one.those name).0 has))
    (λ name has. (one.those name).1 ((other.those name).0 has))

-- ---- outcomes

pub gives_same : (files : Files) (a b : Result (List Unit) Status) → SourceGives files a → SourceGives files b → a ≡ b
gives_same files a b one other =
    let reads = readings_once one.read other.read one.reads other.reads in
    let folders = folders_same files one.folders other.folders one.are_folders other.are_folders in
    sym one.gives ∙ ((λ i. source_units (reads i) files (folders i)) ∙ other.gives)

pub given_not_refused : (files : Files) (units : List Unit) (s : Status) → SourceGives files (Ok units) → SourceGives files (Err s) → ⊥
given_not_refused files units s one other = let e = gives_same files (Ok units) (Err s) one other in cc

pub units_same : (files : Files) (a b : List Unit) → SourceGives files (Ok a) → SourceGives files (Ok b) → a ≡ b
units_same files a b one other = let e = gives_same files (Ok a) (Ok b) one other in cc

pub refusal_same : (files : Files) (s t : Status) → SourceGives files (Err s) → SourceGives files (Err t) → s ≡ t
refusal_same files s t one other = let e = gives_same files (Err s) (Err t) one other in cc
