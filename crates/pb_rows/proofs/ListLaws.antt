-- What holds of each element of lists that are made of others.
use Rattle.std.proofs.Common.{◌≡◌, ℕ, ◌+◌, ◌<◌, Bool, true, false, cond, List, [], ◌∷◌, ◌++◌, length, map, All, AllPairs, ◌↔◌, refl, arith, length-append}
use Rattle.std.specs.List.{filter, flat_map, enumerate_from}
use Rattle.std.proofs.lemmas.List.{get_or_append_left, get_or-append-add, get_or-map, length-map}
use Rattle.std.proofs.lemmas.List.Elements.{All-nil, All-cons, All-head, All-tail, All-append, All-map, All-filter}
use Rattle.std.proofs.lemmas.List.FromFn.{length-enumerate_from, get_or-enumerate_from}
use Rattle.std.proofs.lemmas.List.Kept.{AllPairs-filter}
use Rattle.unit_model.specs.declared.unit.Unit.{Unit as Package}
use Rattle.pb_rows.specs.Members.{numbered, selected}

pub All-left : {X : Type 0} (P : X → Type 0) (xs ys : List X) → All P (xs ++ ys) → All P xs
All-left P xs ys all k d h = rw (get_or_append_left xs ys d k h) at (all k d (omega (arith, length-append xs ys)))

pub All-right : {X : Type 0} (P : X → Type 0) (xs ys : List X) → All P (xs ++ ys) → All P ys
All-right P xs ys all k d h = rw (get_or-append-add xs ys k d) at (all (length xs + k) d (omega (arith, length-append xs ys)))

-- what holds of the pieces of each element
pub All-flat_map : {X Y : Type 0} (P : Y → Type 0) (f : X → List Y) (Q : X → Type 0) → ((x : X) → All P (f x) ↔ Q x) → (xs : List X) → All P (flat_map f xs) ↔ All Q xs
All-flat_map P f Q each [] = (λ all. All-nil Q, λ all. All-nil P)
All-flat_map P f Q each (x ∷ xs) =
    let rest = All-flat_map P f Q each xs in (
      λ all. All-cons Q x xs ((each x).0 (All-left P (f x) (flat_map f xs) all)) (rest.0 (All-right P (f x) (flat_map f xs) all)),
      λ all. All-append P (f x) (flat_map f xs) ((each x).1 (All-head Q x xs all)) (rest.1 (All-tail Q x xs all)),
    )

pub All-from_map : {X Y : Type 0} (P : Y → Type 0) (f : X → Y) (xs : List X) → All P (map f xs) → All (λ x. P (f x)) xs
All-from_map P f xs all k d h =
    let within : k < length (map f xs) = rw (length-map xs f) h in
    rw (get_or-map f xs k d (f d) h) at (all k (f d) within)

-- the elements behind their numbers
pub All-enumerate : {X : Type 0} (P : X → Type 0) (n : ℕ) (xs : List X) → All P xs → All (λ m. P m.1) (enumerate_from n xs)
All-enumerate P n xs all k d h =
    let within : k < length xs = rw (length-enumerate_from n xs) at h in
    rw (get_or-enumerate_from n xs k d within) (all k d.1 within)

pub All-from_enumerate : {X : Type 0} (P : X → Type 0) (n : ℕ) (xs : List X) → All (λ m. P m.1) (enumerate_from n xs) → All P xs
All-from_enumerate P n xs all k d h =
    let within : k < length (enumerate_from n xs) = rw (length-enumerate_from n xs) h in
    rw (get_or-enumerate_from n xs k (0, d) h) at (all k (0, d) within)

pub AllPairs-map : {X Y : Type 0} (R : Y → Y → Type 0) (f : X → Y) (xs : List X) → AllPairs (λ a b. R (f a) (f b)) xs → AllPairs R (map f xs)
AllPairs-map R f [] pairs i j d lt h = absurd (omega arith)
AllPairs-map R f (x ∷ xs) pairs i j d lt h =
    let second : j < length (x ∷ xs) = rw (length-map (x ∷ xs) f) at h in
    let first : i < length (x ∷ xs) = omega arith in
    rw (get_or-map f (x ∷ xs) i x d first, get_or-map f (x ∷ xs) j x d second) (pairs i j x lt second)

-- ---- selected members

pub All-selected : (P : Package → Type 0) (full : ℕ → Bool) (members : List Package) → All P members → All P (selected full members)
All-selected P full members all =
    All-map P (λ (m : ℕ × Package). m.1) (filter (λ m. full m.0) (numbered members))
    (All-filter (λ m. full m.0) (λ m. P m.1) (numbered members) (All-enumerate P 1 members all))

pub AllPairs-selected : (R : Package → Package → Type 0) (full : ℕ → Bool) (members : List Package) → AllPairs R members → AllPairs R (selected full members)
AllPairs-selected R full members pairs =
    AllPairs-map R (λ (m : ℕ × Package). m.1) (filter (λ m. full m.0) (numbered members))
    (AllPairs-filter (λ a b. R a.1 b.1) (λ m. full m.0) (numbered members) numbered_pairs)
  where
    numbered_pairs : AllPairs (λ a b. R a.1 b.1) (numbered members)
    numbered_pairs i j d lt h =
        let second : j < length members = rw (length-enumerate_from 1 members) at h in
        let first : i < length members = omega arith in
        rw (get_or-enumerate_from 1 members i d first, get_or-enumerate_from 1 members j d second) (pairs i j d.1 lt second)

-- what holds of each member whose variable is true
pub All-where_true : (Q : Package → Type 0) (full : ℕ → Bool) (ms : List (ℕ × Package)) → All (λ m. full m.0 ≡ true → Q m.1) ms ↔ All Q (map (λ m. m.1) (filter (λ m. full m.0) ms))
All-where_true Q full [] = (λ all. All-nil Q, λ all. All-nil (λ (m : ℕ × Package). full m.0 ≡ true → Q m.1))
All-where_true Q full (m ∷ ms) = by (All-where_true Q full ms) (full m.0) refl
  where
    by : (All (λ (k : ℕ × Package). full k.0 ≡ true → Q k.1) ms ↔ All Q (map (λ (k : ℕ × Package). k.1) (filter (λ k. full k.0) ms))) → (b : Bool) → full m.0 ≡ b → All (λ k. full k.0 ≡ true → Q k.1) (m ∷ ms) ↔ All Q (map (λ (k : ℕ × Package). k.1) (cond b (m ∷ filter (λ k. full k.0) ms) (filter (λ k. full k.0) ms)))
    by rest true e = (
      λ all. All-cons Q m.1 (map (λ (k : ℕ × Package). k.1) (filter (λ k. full k.0) ms))
          (All-head (λ (k : ℕ × Package). full k.0 ≡ true → Q k.1) m ms all e)
          (rest.0 (All-tail (λ (k : ℕ × Package). full k.0 ≡ true → Q k.1) m ms all)),
      λ all. All-cons (λ (k : ℕ × Package). full k.0 ≡ true → Q k.1) m ms
          (λ t. All-head Q m.1 (map (λ (k : ℕ × Package). k.1) (filter (λ k. full k.0) ms)) all)
          (rest.1 (All-tail Q m.1 (map (λ (k : ℕ × Package). k.1) (filter (λ k. full k.0) ms)) all)),
    )
    by rest false e = (
      λ all. rest.0 (All-tail (λ (k : ℕ × Package). full k.0 ≡ true → Q k.1) m ms all),
      λ all. All-cons (λ (k : ℕ × Package). full k.0 ≡ true → Q k.1) m ms (λ t. cc) (rest.1 all),
    )
