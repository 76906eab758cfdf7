-- Numbers that rise, and lists of them.
use Rattle.std.proofs.Common.{◌≡◌, ◌≢◌, ℕ, ◌+◌, ◌-◌, ◌<◌, ◌≤◌, ◌⊎◌, inl, inr, List, [], ◌∷◌, ◌++◌, length, get_or, take, ap, ◌∙◌, subst, arith}
use Rattle.std.specs.Prelude.{Some, Contains, slice_get}
use Rattle.std.proofs.lemmas.Bool.{cases_lt}
use Rattle.std.proofs.lemmas.List.{get_or-take, length-take}
use Rattle.std.proofs.lemmas.List.Elements.{All-push, All-take, Contains-push_cases}
use Rattle.std.proofs.lemmas.List.Quantifiers.{all_pairs_push}
use Rattle.std.proofs.lemmas.Option.{slice_get-get_or, slice_get_within, get_or_from_slice_get}
use Rattle.unit_catalog.specs.Listed.{RisesBelow}

-- Numbers below the next of which the last isn't this one are all below it.
pub below_last : (xs : List ℕ) (n : ℕ) → RisesBelow (n + 1) xs → (slice_get xs (length xs - 1) ≡ Some n → ⊥) → (k d : ℕ) → k < length xs → get_or xs k d < n
below_last xs n rises other k d inside =
    let last : length xs - 1 < length xs = omega arith in
    let top : get_or xs (length xs - 1) d < n + 1 = rises.below (length xs - 1) d last in
    let differs : get_or xs (length xs - 1) d ≢ n = λ e. other (slice_get-get_or xs (length xs - 1) d last ∙ ap Some e) in
    by_place (cases_lt k (length xs - 1)) top differs last
  where
    by_place : (k < length xs - 1) ⊎ (length xs - 1 ≤ k) → get_or xs (length xs - 1) d < n + 1 → get_or xs (length xs - 1) d ≢ n → length xs - 1 < length xs → get_or xs k d < n
    by_place (inl early) top differs last = let below : get_or xs k d < get_or xs (length xs - 1) d = rises.order k (length xs - 1) d early last in omega arith
    by_place (inr late) top differs last =
        let same : length xs - 1 ≡ k = omega arith in
        subst (λ i. get_or xs i d < n) same (omega arith)

pub rises_more : (xs : List ℕ) (n : ℕ) → RisesBelow (n + 1) xs → (slice_get xs (length xs - 1) ≡ Some n → ⊥) → RisesBelow (n + 1) (xs ++ n ∷ [])
rises_more xs n rises other = record {
  order = all_pairs_push (λ a b. a < b) xs n rises.order (below_last xs n rises other);
  below = All-push (λ m. m < n + 1) xs n rises.below (omega arith);
}

pub rises_none : (top : ℕ) → RisesBelow top []
rises_none top = record { order = λ i j d before inside. absurd (omega arith); below = λ k d inside. absurd (omega arith) }

pub rises_one : (n : ℕ) → RisesBelow (n + 1) (n ∷ [])
rises_one n = rises_more [] n (rises_none (n + 1)) (λ e. absurd (cc))

pub rises_front : (top k : ℕ) (xs : List ℕ) → RisesBelow top xs → RisesBelow top (take k xs)
rises_front top k xs rises = record {
  order = λ i j d before inside.
      let long = length-take k xs in
      let low : i < k = omega arith in
      let high : j < k = omega arith in
      let within : j < length xs = omega arith in
      rw (get_or-take k xs i d low, get_or-take k xs j d high) (rises.order i j d before within);
  below = All-take (λ m. m < top) k xs rises.below;
}

pub rises_higher : (low high : ℕ) (xs : List ℕ) → low ≤ high → RisesBelow low xs → RisesBelow high xs
rises_higher low high xs below rises = record { order = rises.order; below = λ k d inside. let under = rises.below k d inside in omega arith }

pub contains_at : {X : Type 0} (xs : List X) (i : ℕ) (x : X) → slice_get xs i ≡ Some x → Contains xs x
contains_at xs i x here = (i, slice_get_within xs i x here, get_or_from_slice_get xs i x x here)

pub contains_here : {X : Type 0} (xs : List X) (x : X) → Contains xs x → (i : ℕ) × (slice_get xs i ≡ Some x)
contains_here xs x has = (has.0, slice_get-get_or xs has.0 x has.1 ∙ ap Some has.2)

-- what stands in a list, but isn't its last
pub contains_front : (xs front : List ℕ) (last n : ℕ) → xs ≡ front ++ last ∷ [] → n < last → Contains xs n → Contains front n
contains_front xs front last n whole below has =
    elim (Contains-push_cases front last n (subst (λ l. Contains l n) whole has)) [
      | inl before ↦ before
      | inr same ↦ absurd (omega arith)
    ]
