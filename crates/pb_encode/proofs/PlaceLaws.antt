-- The places of numbers in a table.
use Rattle.std.proofs.Common.{◌≡◌, ◌≢◌, ℕ, zero, suc, ◌+◌, ◌-◌, ◌<◌, ◌⊎◌, inl, inr, Some, None, List, [], ◌∷◌, ◌++◌, length, get_or, set, replicate, take, AllPairs, refl, sym, ◌∙◌, ap, subst, arith, eqb, Bool, true, false, get_or-set_other, get_or-set_same}
use Rattle.std.specs.List.{slice_get, slice_index}
use Rattle.std.proofs.lemmas.Bool.Decides.{nat_tests}
use Rattle.std.proofs.lemmas.List.{length-take-le, get_or-take, take_more}
use Rattle.std.proofs.lemmas.Option.{same_Some, slice_get_within, get_or_from_slice_get}
use Rattle.pb_encode.specs.Places.{HasPlaces, IsVariableOfNumber, IsVariableAt}

pub get_pushed : {X : Type 0} (xs : List X) (x : X) → slice_get (xs ++ x ∷ []) (length xs) ≡ Some x
get_pushed [] x = refl
get_pushed (y ∷ xs) x = get_pushed xs x

pub get_kept : {X : Type 0} (xs : List X) (x y : X) (k : ℕ) → slice_get xs k ≡ Some y → slice_get (xs ++ x ∷ []) k ≡ Some y
get_kept [] x y k e = absurd (cc)
get_kept (z ∷ xs) x y zero e = e
get_kept (z ∷ xs) x y (suc k) e = get_kept xs x y k e

pub get_either : {X : Type 0} (xs : List X) (x y : X) (k : ℕ) → slice_get (xs ++ x ∷ []) k ≡ Some y → (slice_get xs k ≡ Some y) ⊎ ((k ≡ length xs) × (x ≡ y))
get_either [] x y zero e = inr (refl, same_Some x y e)
get_either [] x y (suc k) e = absurd (cc)
get_either (z ∷ xs) x y zero e = inl e
get_either (z ∷ xs) x y (suc k) e = elim (get_either xs x y k e) [ inl old ↦ inl old | inr new ↦ inr (ap suc new.0, new.1) ]

all_zero : (n k : ℕ) → slice_index (replicate n zero) k ≡ zero
all_zero zero k = refl
all_zero (suc n) zero = refl
all_zero (suc n) (suc k) = all_zero n k

pub places_none : (units : ℕ) → HasPlaces [] (replicate units 0)
places_none units n k = (λ e. absurd (let none = all_zero units n in omega (arith, e, none)), λ e. absurd (cc))

pub places_more : (numbers places : List ℕ) (n : ℕ) → n < length places → ((k : ℕ) → slice_get numbers k ≢ Some n) → HasPlaces numbers places → HasPlaces (numbers ++ n ∷ []) (set places n (length numbers + 1))
places_more numbers places n within new has m k = by (eqb m n) refl
  where
    by : (b : Bool) → eqb m n ≡ b → ((get_or (set places n (length numbers + 1)) m 0 ≡ k + 1 → slice_get (numbers ++ n ∷ []) k ≡ Some m) × (slice_get (numbers ++ n ∷ []) k ≡ Some m → get_or (set places n (length numbers + 1)) m 0 ≡ k + 1))
    by true t =
        let same : m ≡ n = grind (arith, nat_tests) in
        let now : get_or (set places n (length numbers + 1)) m 0 ≡ length numbers + 1 = rw same (get_or-set_same places n (length numbers + 1) 0 within) in (
          λ e. let last : length numbers ≡ k = omega (arith, now, e) in subst (λ i. slice_get (numbers ++ n ∷ []) i ≡ Some m) last (get_pushed numbers n ∙ ap Some (sym same)),
          λ e. elim (get_either numbers n m k e) [
            | inl old ↦ absurd (new k (old ∙ ap Some same))
            | inr last ↦ now ∙ ap (λ i. i + 1) (sym last.0)
          ],
        )
    by false f =
        let other : m ≢ n = grind (arith, nat_tests) in
        let kept : get_or (set places n (length numbers + 1)) m 0 ≡ get_or places m 0 = get_or-set_other places n m (length numbers + 1) 0 other in (
          λ e. get_kept numbers n m k ((has m k).0 (sym kept ∙ e)),
          λ e. elim (get_either numbers n m k e) [
            | inl old ↦ kept ∙ (has m k).1 old
            | inr last ↦ absurd (other (sym last.1))
          ],
        )

pub places_next : (numbers places : List ℕ) (i : ℕ) → i < length numbers → get_or numbers i 0 < length places → AllPairs (λ m n. m ≢ n) numbers → HasPlaces (take i numbers) places → HasPlaces (take (i + 1) numbers) (set places (get_or numbers i 0) (i + 1))
places_next numbers places i h within apart has =
    let cut : length (take i numbers) ≡ i = length-take-le i numbers (omega arith) in
    let P : List ℕ → ℕ → Type 0 = λ ns j. HasPlaces ns (set places (get_or numbers i 0) (j + 1)) in
    let next : HasPlaces (take i numbers ++ get_or numbers i 0 ∷ []) (set places (get_or numbers i 0) (length (take i numbers) + 1)) =
    places_more (take i numbers) places (get_or numbers i 0) within new has in
    subst (λ ns. P ns i) (sym (take_more numbers i 0 h)) (subst (λ j. P (take i numbers ++ get_or numbers i 0 ∷ []) j) cut next)
  where
    new : (k : ℕ) → slice_get (take i numbers) k ≢ Some (get_or numbers i 0)
    new k = λ e.
        let inside : k < length (take i numbers) = slice_get_within (take i numbers) k (get_or numbers i 0) e in
        let cut : length (take i numbers) ≡ i = length-take-le i numbers (omega arith) in
        let before : k < i = omega arith in
        let same : get_or (take i numbers) k 0 ≡ get_or numbers i 0 = get_or_from_slice_get (take i numbers) k (get_or numbers i 0) 0 e in
        let read : get_or (take i numbers) k 0 ≡ get_or numbers k 0 = get_or-take i numbers k 0 before in
        apart k i 0 before h (sym read ∙ same)

pub none_at : (numbers places : List ℕ) (n v : ℕ) → HasPlaces numbers places → v ≡ slice_index places n → v ≡ 0 → IsVariableAt numbers n None
none_at numbers places n v has e is k = λ here. let at = (has n k).1 here in absurd (omega arith)

pub some_at : (numbers places : List ℕ) (n v : ℕ) → HasPlaces numbers places → v ≡ slice_index places n → (v ≡ 0 → ⊥) → IsVariableOfNumber numbers n v
some_at numbers places n v has e some =
    let is : v ≡ (v - 1) + 1 = omega arith in
    record { place = v - 1; is = is; here = (has n (v - 1)).0 (sym e ∙ is) }
