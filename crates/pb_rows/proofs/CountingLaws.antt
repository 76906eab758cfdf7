-- Counting what is true, and sums of signed shares.
use Rattle.std.proofs.Common.{◌≡◌, ℕ, zero, suc, ◌+◌, ◌<◌, ◌≤◌, Bool, true, false, cond, List, [], ◌∷◌, ◌++◌, length, get_or, map, fold, count_by, ℤ, pos, ◌+ℤ◌, All, Any, refl, sym, ◌∙◌, ap, arith}
use Rattle.std.specs.List.{filter}
use Rattle.std.proofs.lemmas.Int.{ints}
use Rattle.std.proofs.lemmas.List.Elements.{All-head, All-tail}
use Rattle.std.proofs.lemmas.List.Sums.{sum_by-cons, get_or-le-sum_by}
use Rattle.pb_core.specs.Normalised.{signed_share, signed_sum}
use Rattle.pb_core.specs.declared.literal.SignedTerm.{SignedTerm}
use Rattle.pb_rows.specs.Rows.{term, positives, negatives}

-- ---- counts

pub one_where_true : (b : Bool) → b ≡ true → cond {A = ℕ} b 1 0 ≡ 1
one_where_true true e = refl
one_where_true false e = cc

pub none_where_false : (b : Bool) → b ≡ false → cond {A = ℕ} b 1 0 ≡ 0
none_where_false true e = cc
none_where_false false e = refl

pub count_cons : {X : Type 0} (p : X → Bool) (x : X) (xs : List X) → count_by p (x ∷ xs) ≡ cond (p x) 1 0 + count_by p xs
count_cons p x xs = sum_by-cons (λ y. cond (p y) 1 0) x xs

pub count_yes : {X : Type 0} (p : X → Bool) (x : X) (xs : List X) → p x ≡ true → count_by p (x ∷ xs) ≡ 1 + count_by p xs
count_yes p x xs e = count_cons p x xs ∙ rw e refl

pub count_no : {X : Type 0} (p : X → Bool) (x : X) (xs : List X) → p x ≡ false → count_by p (x ∷ xs) ≡ count_by p xs
count_no p x xs e = count_cons p x xs ∙ rw e (omega arith)

pub count_none : {X : Type 0} (p : X → Bool) (xs : List X) → All (λ x. p x ≡ false) xs → count_by p xs ≡ 0
count_none p [] none = refl
count_none p (x ∷ xs) none =
    count_no p x xs (All-head (λ y. p y ≡ false) x xs none) ∙ count_none p xs (All-tail (λ y. p y ≡ false) x xs none)

-- an element that passes is counted
pub count_some : {X : Type 0} (p : X → Bool) (xs : List X) (k : ℕ) (d : X) → k < length xs → p (get_or xs k d) ≡ true → 1 ≤ count_by p xs
count_some p xs k d h e =
    let le = get_or-le-sum_by (λ y. cond (p y) 1 0) xs k d h in
    let one = one_where_true (p (get_or xs k d)) e in
    omega arith

-- where none is counted, none passes
pub none_counted : {X : Type 0} (p : X → Bool) (xs : List X) → count_by p xs ≡ 0 → All (λ x. p x ≡ false) xs
none_counted p xs none k d h = by (p (get_or xs k d)) refl
  where
    by : (b : Bool) → p (get_or xs k d) ≡ b → p (get_or xs k d) ≡ false
    by true e = let some = count_some p xs k d h e in absurd (omega arith)
    by false e = e

pub some_counted : {X : Type 0} (p : X → Bool) (xs : List X) → 1 ≤ count_by p xs → Any (λ x. p x ≡ true) xs
some_counted p [] some = absurd (omega arith)
some_counted p (x ∷ xs) some = by (some_counted p xs) (p x) refl
  where
    by : (1 ≤ count_by p xs → Any (λ y. p y ≡ true) xs) → (b : Bool) → p x ≡ b → Any (λ y. p y ≡ true) (x ∷ xs)
    by later true e = (0, x, omega arith, refl, e)
    by later false e =
        let same = count_no p x xs e in
        let rest = later (omega arith) in
        (suc rest.0, rest.1, omega (arith, rest.2), rest.3, rest.4)

-- two elements that pass are counted twice
pub count_two : {X : Type 0} (p : X → Bool) (xs : List X) (i j : ℕ) (d : X) → i < j → j < length xs → p (get_or xs i d) ≡ true → p (get_or xs j d) ≡ true → 2 ≤ count_by p xs
count_two p [] i j d lt h e f = absurd (omega arith)
count_two p (x ∷ xs) zero zero d lt h e f = absurd (omega arith)
count_two p (x ∷ xs) zero (suc j) d lt h e f =
    let one = count_yes p x xs e in
    let some = count_some p xs j d (omega arith) f in
    omega arith
count_two p (x ∷ xs) (suc i) zero d lt h e f = absurd (omega arith)
count_two p (x ∷ xs) (suc i) (suc j) d lt h e f =
    let rest = count_two p xs i j d (omega arith) (omega arith) e f in
    let cons = count_cons p x xs in
    omega arith

-- Those that pass one test of those that pass another, either way.
pub crossed : {X Y : Type 0} (p : X → Bool) (q : Y → Bool) (ms : List (X × Y)) → count_by p (map (λ m. m.0) (filter (λ m. q m.1) ms)) ≡ count_by q (map (λ m. m.1) (filter (λ m. p m.0) ms))
crossed p q [] = refl
crossed {X} {Y} p q (m ∷ ms) = by (crossed p q ms) (p m.0) (q m.1) refl refl
  where
    by : count_by p (map (λ (k : X × Y). k.0) (filter (λ k. q k.1) ms)) ≡ count_by q (map (λ (k : X × Y). k.1) (filter (λ k. p k.0) ms)) → (b h : Bool) → p m.0 ≡ b → q m.1 ≡ h → count_by p (map (λ (k : X × Y). k.0) (cond h (m ∷ filter (λ k. q k.1) ms) (filter (λ k. q k.1) ms))) ≡ count_by q (map (λ (k : X × Y). k.1) (cond b (m ∷ filter (λ k. p k.0) ms) (filter (λ k. p k.0) ms)))
    by rest true true e f =
        count_yes p m.0 (map (λ (k : X × Y). k.0) (filter (λ k. q k.1) ms)) e
        ∙ (ap (λ n. 1 + n) rest ∙ sym (count_yes q m.1 (map (λ (k : X × Y). k.1) (filter (λ k. p k.0) ms)) f))
    by rest true false e f = rest ∙ sym (count_no q m.1 (map (λ (k : X × Y). k.1) (filter (λ k. p k.0) ms)) f)
    by rest false true e f = count_no p m.0 (map (λ (k : X × Y). k.0) (filter (λ k. q k.1) ms)) e ∙ rest
    by rest false false e f = rest

-- ---- sums of signed shares

fold_from : (a : ℤ) (zs : List ℤ) → fold ◌+ℤ◌ a zs ≡ a +ℤ fold ◌+ℤ◌ (pos 0) zs
fold_from a [] = omega (arith, ints)
fold_from a (z ∷ zs) =
    let one = fold_from (a +ℤ z) zs in
    let other = fold_from (pos 0 +ℤ z) zs in
    omega (arith, ints)

pub signed_cons : (full : ℕ → Bool) (t : SignedTerm) (ts : List SignedTerm) → signed_sum full (t ∷ ts) ≡ signed_share full t +ℤ signed_sum full ts
signed_cons full t ts = let one = fold_from (pos 0 +ℤ signed_share full t) (map (signed_share full) ts) in omega (arith, ints)

pub signed_append : (full : ℕ → Bool) (ts us : List SignedTerm) → signed_sum full (ts ++ us) ≡ signed_sum full ts +ℤ signed_sum full us
signed_append full [] us = omega (arith, ints)
signed_append full (t ∷ ts) us =
    let rest = signed_append full ts us in
    let one = signed_cons full t (ts ++ us) in
    let other = signed_cons full t ts in
    omega (arith, ints)

positive_share : (full : ℕ → Bool) (v : ℕ) → signed_share full (term 1 true v) ≡ pos (cond (full v) 1 0)
positive_share full v = by (full v) refl
  where
    by : (b : Bool) → full v ≡ b → cond (full v) (pos 1) (pos 0) ≡ pos (cond (full v) 1 0)
    by true e = rw e refl
    by false e = rw e refl

pub negative_true : (full : ℕ → Bool) (n v : ℕ) → full v ≡ true → signed_share full (term n false v) ≡ pos 0
negative_true full n v e = rw e refl

pub negative_false : (full : ℕ → Bool) (n v : ℕ) → full v ≡ false → signed_share full (term n false v) ≡ pos n
negative_false full n v e = rw e refl

pub positives_sum : (full : ℕ → Bool) (vs : List ℕ) → signed_sum full (positives vs) ≡ pos (count_by full vs)
positives_sum full [] = refl
positives_sum full (v ∷ vs) =
    let rest = positives_sum full vs in
    let one = signed_cons full (term 1 true v) (positives vs) in
    let share = positive_share full v in
    let count = count_cons full v vs in
    omega (arith, ints)

pub negatives_sum : (full : ℕ → Bool) (vs : List ℕ) → signed_sum full (negatives vs) +ℤ pos (count_by full vs) ≡ pos (length vs)
negatives_sum full [] = refl
negatives_sum full (v ∷ vs) = by (negatives_sum full vs) (full v) refl
  where
    by : signed_sum full (negatives vs) +ℤ pos (count_by full vs) ≡ pos (length vs) → (b : Bool) → full v ≡ b → signed_sum full (negatives (v ∷ vs)) +ℤ pos (count_by full (v ∷ vs)) ≡ pos (suc (length vs))
    by rest true e =
        let one = signed_cons full (term 1 false v) (negatives vs) in
        let share = negative_true full 1 v e in
        let count = count_yes full v vs e in
        omega (arith, ints)
    by rest false e =
        let one = signed_cons full (term 1 false v) (negatives vs) in
        let share = negative_false full 1 v e in
        let count = count_no full v vs e in
        omega (arith, ints)
