-- Sums of signed shares.
use Rattle.std.proofs.Common.{◌≡◌, ℕ, ◌+◌, ◌<◌, List, [], ◌∷◌, ◌++◌, length, get_or, take, map, fold, sum_by, ℤ, pos, ◌+ℤ◌, IsPermutation, arith}
use Rattle.std.proofs.lemmas.Int.{ints}
use Rattle.std.proofs.lemmas.List.{map-append, take_more}
use Rattle.std.proofs.lemmas.List.Sums.{fold_push, sum_by-cons}
use Rattle.std.proofs.lemmas.List.Sorted.{sum_by-IsPermutation}
use borrow.Author.Differences.{up, down}

pub total_push : {X : Type 0} (g : X → ℤ) (xs : List X) (x : X) → fold ◌+ℤ◌ (pos 0) (map g (xs ++ x ∷ [])) ≡ fold ◌+ℤ◌ (pos 0) (map g xs) +ℤ g x
total_push g xs x = rw (map-append g xs (x ∷ [])) (fold_push ◌+ℤ◌ (pos 0) (map g xs) (g x))

pub total_more : {X : Type 0} (g : X → ℤ) (xs : List X) (i : ℕ) (d : X) → i < length xs → fold ◌+ℤ◌ (pos 0) (map g (take (i + 1) xs)) ≡ fold ◌+ℤ◌ (pos 0) (map g (take i xs)) +ℤ g (get_or xs i d)
total_more g xs i d within = rw (take_more xs i d within) (total_push g (take i xs) (get_or xs i d))

from_start : {X : Type 0} (g : X → ℤ) (a : ℤ) (xs : List X) → fold ◌+ℤ◌ a (map g xs) +ℤ pos (sum_by (λ x. down (g x)) xs) ≡ a +ℤ pos (sum_by (λ x. up (g x)) xs)
from_start g a [] = omega (arith, ints)
from_start g a (x ∷ xs) =
    let rest = from_start g (a +ℤ g x) xs in
    let ups = sum_by-cons (λ y. up (g y)) x xs in
    let downs = sum_by-cons (λ y. down (g y)) x xs in
    omega (arith, ints)

-- the order of the terms doesn't matter
pub total-IsPermutation : {X : Type 0} (g : X → ℤ) (xs ys : List X) → IsPermutation xs ys → fold ◌+ℤ◌ (pos 0) (map g ys) ≡ fold ◌+ℤ◌ (pos 0) (map g xs)
total-IsPermutation g xs ys same =
    let one = from_start g (pos 0) xs in
    let other = from_start g (pos 0) ys in
    let ups = sum_by-IsPermutation (λ y. up (g y)) xs ys same in
    let downs = sum_by-IsPermutation (λ y. down (g y)) xs ys same in
    omega (arith, ints)
