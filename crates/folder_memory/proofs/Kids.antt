-- The names that a loop gathers in a set.
use Rattle.std.proofs.Common.{◌≡◌, ◌⊎◌, ◌↔◌, inl, inr, ⊎_elim, ℕ, Bool, true, cond, List, [], ◌∷◌, ◌++◌, length, take, get_or, ◌+◌, ◌<◌, IsTrue, Ordering, refl, sym, ◌∙◌, ap, subst}
use Rattle.std.specs.Ordering.{nat_cmp, is_eq}
use Rattle.std.specs.declared.cmp.Ordering.TheVariants.{Less, Equal, Greater}
use Rattle.std.specs.BTreeMap.{is_at}
use Rattle.std.specs.Cmp.Lexicographic.{slice_cmp}
use Rattle.std.proofs.lemmas.Bool.{cases_Bool, both_ways}
use Rattle.std.proofs.lemmas.List.{take_more}
use Rattle.std.proofs.lemmas.Cmp.{nat_list_cmp_total, tied_itself}
use Rattle.std.proofs.lemmas.Map.Lookups.{exact_bytes}

equal_from : (o : Ordering) → is_eq o ≡ true → o ≡ Equal
equal_from Less is = cc
equal_from Equal is = refl
equal_from Greater is = cc

-- some element has P
abbrev pub AnyOf : {T : Type 0} → (T → Type 0) → List T → Type 0
AnyOf P [] = ⊥
AnyOf P (x ∷ xs) = P x ⊎ AnyOf P xs

pub AnyOf-earlier : {T : Type 0} (P : T → Type 0) (xs : List T) (x : T) → AnyOf P xs → AnyOf P (xs ++ x ∷ [])
AnyOf-earlier P [] x any = absurd any
AnyOf-earlier P (y ∷ xs) x (inl here) = inl here
AnyOf-earlier P (y ∷ xs) x (inr there) = inr (AnyOf-earlier P xs x there)

pub AnyOf-last : {T : Type 0} (P : T → Type 0) (xs : List T) (x : T) → P x → AnyOf P (xs ++ x ∷ [])
AnyOf-last P [] x here = inl here
AnyOf-last P (y ∷ xs) x here = inr (AnyOf-last P xs x here)

pub AnyOf-cases : {T : Type 0} (P : T → Type 0) (xs : List T) (x : T) → AnyOf P (xs ++ x ∷ []) → AnyOf P xs ⊎ P x
AnyOf-cases P [] x (inl here) = inr here
AnyOf-cases P [] x (inr none) = absurd none
AnyOf-cases P (y ∷ xs) x (inl here) = inl (inl here)
AnyOf-cases P (y ∷ xs) x (inr there) = ⊎_elim (λ e. inl (inr e)) (λ e. inr e) (AnyOf-cases P xs x there)

-- the front of a list with one more of its elements
pub take_next : {T : Type 0} (xs : List T) (i : ℕ) (x : T) → i < length xs → x ≡ get_or xs i x → take (i + 1) xs ≡ take i xs ++ x ∷ []
take_next xs i x below at = take_more xs i x below ∙ ap (λ y. take i xs ++ y ∷ []) (sym at)

pub AnyOf-next : {T : Type 0} (P : T → Type 0) (xs : List T) (i : ℕ) (x : T) → i < length xs → x ≡ get_or xs i x → AnyOf P (take (i + 1) xs) → AnyOf P (take i xs) ⊎ P x
AnyOf-next P xs i x below at any = AnyOf-cases P (take i xs) x (subst (AnyOf P) (take_next xs i x below at) any)

-- the set has the names that some of these give
abbrev pub Gathers : {T : Type 0} → (T → List ℕ → Type 0) → (List ℕ → Bool) → List T → Type 0
Gathers Gives has done = (name : List ℕ) → IsTrue (has name) ↔ AnyOf (λ t. Gives t name) done

module _ {T : Type 0} (Gives : T → List ℕ → Type 0) where
  -- one more gives this name, which is inserted
  pub Gathers-push : (old new : List ℕ → Bool) (done : List T) (t : T) (name : List ℕ) → Gives t name → ((other : List ℕ) → Gives t other → other ≡ name) → ((other : List ℕ) → new other ≡ cond (is_at (slice_cmp nat_cmp name) other) true (old other)) → Gathers Gives old done → Gathers Gives new (done ++ t ∷ [])
  Gathers-push old new done t name gives only inserts so_far other = (there, back)
    where
      here_is : other ≡ name → is_at (slice_cmp nat_cmp name) other ≡ true
      here_is is = ap (λ (o : Ordering). is_eq o) (subst (λ (n : List ℕ). slice_cmp nat_cmp name n ≡ Equal) (sym is) (tied_itself nat_list_cmp_total name))

      there : IsTrue (new other) → AnyOf (λ t. Gives t other) (done ++ t ∷ [])
      there has = elim (cases_Bool (is_at (slice_cmp nat_cmp name) other)) [
        | inl at ↦ AnyOf-last (λ t. Gives t other) done t (subst (λ n. Gives t n) (exact_bytes name other (equal_from _ at)) gives)
        | inr apart ↦ AnyOf-earlier (λ t. Gives t other) done t ((so_far other).0 (sym (inserts other ∙ ap (λ (b : Bool). cond b true (old other)) apart) ∙ has))
      ]

      back : AnyOf (λ t. Gives t other) (done ++ t ∷ []) → IsTrue (new other)
      back any = elim (cases_Bool (is_at (slice_cmp nat_cmp name) other)) [
        | inl at ↦ inserts other ∙ ap (λ (b : Bool). cond b true (old other)) at
        | inr apart ↦ ⊎_elim
            (λ e. inserts other ∙ ap (λ (b : Bool). cond b true (old other)) apart ∙ (so_far other).1 e)
            (λ e. absurd (both_ways _ apart (here_is (only other e))))
            (AnyOf-cases (λ t. Gives t other) done t any)
      ]

  -- one more gives no name
  pub Gathers-skip : (has : List ℕ → Bool) (done : List T) (t : T) → ((name : List ℕ) → ¬ (Gives t name)) → Gathers Gives has done → Gathers Gives has (done ++ t ∷ [])
  Gathers-skip has done t none so_far name = (
    λ is. AnyOf-earlier (λ t. Gives t name) done t ((so_far name).0 is),
    λ any. ⊎_elim (λ e. (so_far name).1 e) (λ e. absurd (none name e)) (AnyOf-cases (λ t. Gives t name) done t any),
  )
