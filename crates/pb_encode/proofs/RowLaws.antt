-- Rows of numbered elements, one after the other.
use Rattle.std.proofs.Common.{◌≡◌, ℕ, ◌+◌, ◌<◌, ◌≤◌, List, ◌++◌, ◌∷◌, [], length, get_or, take, map, sym, ◌∙◌, ap, subst, arith}
use Rattle.std.specs.List.{flat_map, enumerate_from}
use Rattle.std.proofs.lemmas.List.{take_more, take_all, map-append}
use Rattle.std.proofs.lemmas.List.FromFn.{length-enumerate_from, get_or-enumerate_from}
use Rattle.pb_core.specs.declared.constraint.Constraint.{Constraint}
use Rattle.pb_rows.specs.Normalising.{Adds, AreTooMany}
use Rattle.pb_rows.specs.Rows.{Row}
use Rattle.pb_rows.proofs.AddingLaws.{adds_more, too_many_at}

read : {X : Type 0} (xs : List X) (i n : ℕ) (x : X) → i < length xs → get_or xs i x ≡ x → n ≡ i + 1 → (n, x) ≡ get_or (enumerate_from 1 xs) i (n, x)
read xs i n x h here e =
    let number : n ≡ 1 + i = omega arith in
    (λ j. (number j, sym here j)) ∙ sym (get_or-enumerate_from 1 xs i (n, x) h)

inside : {X : Type 0} (xs : List X) (i : ℕ) → i < length xs → i < length (enumerate_from 1 xs)
inside xs i h = rw (length-enumerate_from 1 xs) h

pub numbered_more : {X : Type 0} (f : ℕ × X → List Row) (xs : List X) (i n : ℕ) (x : X) (old mid new : List Constraint) → i < length xs → get_or xs i x ≡ x → n ≡ i + 1 → Adds (flat_map f (take i (enumerate_from 1 xs))) old mid → Adds (f (n, x)) mid new → Adds (flat_map f (take (i + 1) (enumerate_from 1 xs))) old new
numbered_more {X} f xs i n x old mid new h here e first second =
    let P : ℕ × X → Type 0 = λ m. Adds (f m) mid new in
    adds_more f (enumerate_from 1 xs) i (n, x) old mid new (inside xs i h) first (subst P (read xs i n x h here e) second)

pub numbered_many : {X : Type 0} (f : ℕ × X → List Row) (xs : List X) (i n : ℕ) (x : X) (old mid : List Constraint) → i < length xs → get_or xs i x ≡ x → n ≡ i + 1 → Adds (flat_map f (take i (enumerate_from 1 xs))) old mid → AreTooMany (f (n, x)) mid → AreTooMany (flat_map f (enumerate_from 1 xs)) old
numbered_many {X} f xs i n x old mid h here e first many =
    let P : ℕ × X → Type 0 = λ m. AreTooMany (f m) mid in
    too_many_at f (enumerate_from 1 xs) i (n, x) old mid (inside xs i h) first (subst P (read xs i n x h here e) many)

pub numbered_all : {X : Type 0} (f : ℕ × X → List Row) (xs : List X) (i : ℕ) (old new : List Constraint) → length xs ≤ i → Adds (flat_map f (take i (enumerate_from 1 xs))) old new → Adds (flat_map f (enumerate_from 1 xs)) old new
numbered_all {X} f xs i old new end all =
    let long : length (enumerate_from 1 xs) ≡ length xs = length-enumerate_from 1 xs in
    let whole : take i (enumerate_from 1 xs) ≡ enumerate_from 1 xs = take_all i (enumerate_from 1 xs) (omega arith) in
    let P : List (ℕ × X) → Type 0 = λ ms. Adds (flat_map f ms) old new in
    subst P whole all

pub map_more : {X Y : Type 0} (f : X → Y) (xs : List X) (i : ℕ) (x : X) → i < length xs → get_or xs i x ≡ x → map f (take i xs) ++ f x ∷ [] ≡ map f (take (i + 1) xs)
map_more f xs i x h here =
    sym (ap (map f) (take_more xs i x h) ∙ (map-append f (take i xs) (get_or xs i x ∷ []) ∙ ap (λ y. map f (take i xs) ++ f y ∷ []) here))
