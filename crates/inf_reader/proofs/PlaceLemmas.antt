-- Facts on places.
use Rattle.std.proofs.Common.{◌≡◌, ◌⊎◌, ℕ, ◌+◌, ◌<◌, ◌==◌, ◌&&◌, Bool, true, false, not, List, map, filter, inl, inr, refl, ap, arith}
use Rattle.std.proofs.lemmas.Bool.Decides.{nat_tests}
use Rattle.std.specs.Ordering.{nat_cmp, is_le}
use Rattle.std.specs.declared.cmp.Ordering.TheVariants.{Less}
use Rattle.std.specs.declared.ops.Bound.TheVariants.{Included, Excluded}
use Rattle.std.specs.BTreeMap.Range.{range_contains}
use Rattle.inf_values.proofs.NumberOrder.{less, equal, greater, ordered}
use Rattle.inf_values.specs.declared.keys.Place.{Place}
use Rattle.inf_reader.specs.Placing.{place_cmp, stands_in, rows_in}

from_zero : (n : ℕ) → is_le (nat_cmp 0 n) ≡ true
from_zero n = elim (ordered 0 n) [
  | inl h ↦ ap is_le (less 0 n h)
  | inr r ↦ elim r [ inl h ↦ ap is_le (equal 0 n h) | inr h ↦ absurd (omega arith) ]
]

abbrev place : ℕ → ℕ → ℕ → Place
place owner list row = record { owner = owner; list = list; row = row }

-- the first row of a list comes before the first of the next
pub first_before : (owner list : ℕ) → place_cmp (place owner list 0) (place owner (list + 1) 0) ≡ Less
first_before owner list = let same = equal owner owner refl in let next = less list (list + 1) (omega arith) in rw (same, next) refl

within : (owner list : ℕ) (p : Place) → range_contains place_cmp (Included (place owner list 0)) (Excluded (place owner (list + 1) 0)) p ≡ stands_in owner list p
within owner list p = by (ordered owner p.owner) (ordered list p.list)
  where
    Goal : Type 0
    Goal = (is_le (place_cmp (place owner list 0) p) && not (is_le (place_cmp (place owner (list + 1) 0) p))) ≡ ((p.owner == owner) && (p.list == list))

    next : owner ≡ p.owner → list < p.list → (list + 1 < p.list) ⊎ ((list + 1 ≡ p.list) ⊎ (p.list < list + 1)) → Goal
    next same h (inl more) =
        let o = equal owner p.owner same in let l = less list p.list h in let m = less (list + 1) p.list more in
        let other : (p.list == list) ≡ false = grind (arith, nat_tests) in let there : (p.owner == owner) ≡ true = grind (arith, nat_tests) in
        rw (o, l, m, other, there) refl
    next same h (inr (inl more)) =
        let o = equal owner p.owner same in let l = less list p.list h in let m = equal (list + 1) p.list more in let z = from_zero p.row in
        let other : (p.list == list) ≡ false = grind (arith, nat_tests) in let there : (p.owner == owner) ≡ true = grind (arith, nat_tests) in
        rw (o, l, m, z, other, there) refl
    next same h (inr (inr more)) = absurd (omega arith)

    by : (owner < p.owner) ⊎ ((owner ≡ p.owner) ⊎ (p.owner < owner)) → (list < p.list) ⊎ ((list ≡ p.list) ⊎ (p.list < list)) → Goal
    by (inl h) any =
        let o = less owner p.owner h in let other : (p.owner == owner) ≡ false = grind (arith, nat_tests) in rw (o, other) refl
    by (inr (inr h)) any =
        let o = greater owner p.owner h in let other : (p.owner == owner) ≡ false = grind (arith, nat_tests) in rw (o, other) refl
    by (inr (inl same)) (inl h) = next same h (ordered (list + 1) p.list)
    by (inr (inl same)) (inr (inl h)) =
        let o = equal owner p.owner same in let l = equal list p.list h in let m = greater (list + 1) p.list (omega arith) in let z = from_zero p.row in
        let here : (p.list == list) ≡ true = grind (arith, nat_tests) in let there : (p.owner == owner) ≡ true = grind (arith, nat_tests) in
        rw (o, l, m, z, here, there) refl
    by (inr (inl same)) (inr (inr h)) =
        let o = equal owner p.owner same in let l = greater list p.list h in
        let other : (p.list == list) ≡ false = grind (arith, nat_tests) in let there : (p.owner == owner) ≡ true = grind (arith, nat_tests) in
        rw (o, l, other, there) refl

filter-along : (p q : Place → Bool) → ((x : Place) → p x ≡ q x) → (xs : List Place) → filter p xs ≡ filter q xs
filter-along p q same xs = ap (λ (f : Place → Bool). filter f xs) (λ i x. same x i)

-- the rows between the first place of a list and the first of the next are those of the list
pub rows_in-between : (places : List Place) (owner list : ℕ)
    → map (λ p. p.row) (filter (range_contains place_cmp (Included (place owner list 0)) (Excluded (place owner (list + 1) 0))) places) ≡ rows_in places owner list
unfolding rows_in
rows_in-between places owner list = ap (map (λ (p : Place). p.row)) (filter-along _ (stands_in owner list) (within owner list) places)
