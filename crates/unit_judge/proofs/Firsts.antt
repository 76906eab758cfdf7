-- The first element that fails.
use Rattle.std.proofs.Common.{◌≡◌, ℕ, ◌+◌, ◌<◌, ◌≤◌, ◌⊎◌, inl, inr, List, length, get_or, refl, ◌∙◌, subst, arith}
use Rattle.std.specs.Prelude.{All}
use Rattle.std.proofs.lemmas.Bool.{cases_lt}
use Rattle.std.proofs.lemmas.List.{get_or_default}
use Rattle.std.proofs.lemmas.Option.{slice_get_read, get_or_from_slice_get, slice_get_within}
use Rattle.unit_judge.specs.Judged.{FailsFirst}

pub all_more : {X : Type 0} (P : X → Type 0) (xs : List X) (at : ℕ) (x : X) → at < length xs → x ≡ get_or xs at x → P x → ((k : ℕ) (d : X) → k < at → P (get_or xs k d))
    → (k : ℕ) (d : X) → k < at + 1 → P (get_or xs k d)
all_more P xs at x inside is here before k d below = by_size (cases_lt k at)
  where
    by_size : (k < at) ⊎ (at ≤ k) → P (get_or xs k d)
    by_size (inl low) = before k d low
    by_size (inr high) =
        let place : at ≡ k = omega arith in
        subst (λ n. P (get_or xs n d)) place (subst P (is ∙ get_or_default xs at x d inside) here)

pub first_here : {X : Type 0} (P : X → Type 0) (xs : List X) (at : ℕ) (x : X) → at < length xs → x ≡ get_or xs at x → (P x → ⊥) → ((k : ℕ) (d : X) → k < at → P (get_or xs k d))
    → FailsFirst P xs at x
first_here P xs at x inside is fails before = record {
  here = slice_get_read xs (length xs) at x refl inside is;
  fails = fails;
  before = λ k y below here. subst P (get_or_from_slice_get xs k y y here) (before k y below);
}

pub first_not_all : {X : Type 0} (P : X → Type 0) (xs : List X) (at : ℕ) (x : X) → FailsFirst P xs at x → All P xs → ⊥
first_not_all P xs at x first all =
    first.fails (subst P (get_or_from_slice_get xs at x x first.here) (all at x (slice_get_within xs at x first.here)))
