-- Units that are added one after the other.
use Rattle.std.proofs.Common.{◌≡◌, ℕ, ◌+◌, ◌<◌, ◌≤◌, ◌⊎◌, inl, inr, List, [], ◌∷◌, ◌++◌, length, get_or, take, refl, sym, ap, ◌∙◌, subst, append_assoc, arith, length-append, take_all}
use Rattle.std.specs.Prelude.{Any, Contains}
use Rattle.std.proofs.Math.Seq.{get_or-append_seam}
use Rattle.std.proofs.lemmas.Bool.{cases_lt}
use Rattle.std.proofs.lemmas.List.{append-nil, get_or_append_left, get_or_default, get_or-take, length-take-le, take_more}
use Rattle.std.proofs.lemmas.List.Elements.{All-nil, All-append, All-contains, All-weaker, Contains-append_left, Contains-append_cases}
use Rattle.std.proofs.lemmas.List.Quantifiers.{Any-push}
use Rattle.unit_slicer.specs.Found.{Numbers, Adds, AreTooMany}

pub adds_none : (A : ℕ → Type 0) (old : Numbers) → ((n : ℕ) → A n → Contains old.found n) → Adds A old old
adds_none A old there = record {
  units = refl;
  added = [];
  front = sym (append-nil old.found);
  each = All-nil A;
  every = there;
}

pub adds_same : (A B : ℕ → Type 0) (old new : Numbers) → ((n : ℕ) → A n → B n) → ((n : ℕ) → B n → A n) → Adds A old new → Adds B old new
adds_same A B old new to from adds = record {
  units = adds.units;
  added = adds.added;
  front = adds.front;
  each = All-weaker A B to adds.added adds.each;
  every = λ n b. adds.every n (from n b);
}

pub adds_then : (A B C : ℕ → Type 0) (old mid new : Numbers) → ((n : ℕ) → A n → C n) → ((n : ℕ) → B n → C n) → ((n : ℕ) → C n → A n ⊎ B n) → Adds A old mid → Adds B mid new → Adds C old new
adds_then A B C old mid new left right cases first second = record {
  units = second.units ∙ first.units;
  added = first.added ++ second.added;
  front = second.front ∙ (ap (λ xs. xs ++ second.added) first.front ∙ append_assoc old.found first.added second.added);
  each = All-append C first.added second.added (All-weaker A C left first.added first.each) (All-weaker B C right second.added second.each);
  every = λ n c. elim (cases n c) [
    | inl a ↦ subst (λ (xs : List ℕ). Contains xs n) (sym second.front) (Contains-append_left mid.found second.added n (first.every n a))
    | inr b ↦ second.every n b
  ];
}

pub too_many_same : (A B : ℕ → Type 0) (old : Numbers) → ((n : ℕ) → A n → B n) → AreTooMany A old → AreTooMany B old
too_many_same A B old to many = record {
  numbers = many.numbers;
  distinct = many.distinct;
  each = All-weaker (λ n. Contains old.found n ⊎ A n) (λ n. Contains old.found n ⊎ B n) (λ n x. elim x [ inl there ↦ inl there | inr a ↦ inr (to n a) ]) many.numbers many.each;
  many = many.many;
}

pub too_many_then : (A B C : ℕ → Type 0) (old mid : Numbers) → ((n : ℕ) → A n → C n) → ((n : ℕ) → B n → C n) → Adds A old mid → AreTooMany B mid → AreTooMany C old
too_many_then A B C old mid left right first many = record {
  numbers = many.numbers;
  distinct = many.distinct;
  each = All-weaker (λ n. Contains mid.found n ⊎ B n) (λ n. Contains old.found n ⊎ C n) (λ n x. elim x [ inl there ↦ before n there | inr b ↦ inr (right n b) ]) many.numbers many.each;
  many = many.many;
}
  where
    before : (n : ℕ) → Contains mid.found n → Contains old.found n ⊎ C n
    before n there = elim (Contains-append_cases old.found first.added n (subst (λ (xs : List ℕ). Contains xs n) first.front there)) [
      | inl early ↦ inl early
      | inr late ↦ inr (left n (All-contains A first.added n first.each late))
    ]

-- ---- in a loop

Any-take : {X : Type 0} (P : X → Type 0) (xs : List X) (x : X) → Any P xs → Any P (xs ++ x ∷ [])
Any-take P xs x any =
    let long = length-append xs (x ∷ []) in
    let inside = any.2 in
    (any.0, any.1, omega arith, get_or_append_left xs (x ∷ []) any.1 any.0 any.2 ∙ any.3, any.4)

Any-cases : {X : Type 0} (P : X → Type 0) (xs : List X) (x : X) → Any P (xs ++ x ∷ []) → Any P xs ⊎ P x
Any-cases {X} P xs x any = by_place (cases_lt any.0 (length xs))
  where
    long : length (xs ++ x ∷ []) ≡ length xs + length (x ∷ [])
    long = length-append xs (x ∷ [])

    by_place : (any.0 < length xs) ⊎ (length xs ≤ any.0) → Any P xs ⊎ P x
    by_place (inl low) = inl (any.0, any.1, low, sym (get_or_append_left xs (x ∷ []) any.1 any.0 low) ∙ any.3, any.4)
    by_place (inr high) =
        let inside = any.2 in
        let place : length xs ≡ any.0 = omega (arith, long) in
        let same : x ≡ any.1 = sym (get_or-append_seam xs x [] any.1) ∙ (ap (λ k. get_or (xs ++ x ∷ []) k any.1) place ∙ any.3) in
        inr (subst P (sym same) any.4)

module _ {X : Type 0} (F : X → ℕ → Type 0) (xs : List X) where
  -- what the first so many of the elements lead to
  abbrev pub Through : ℕ → ℕ → Type 0
  Through i n = Any (λ x. F x n) (take i xs)

  pub adds_begun : (old : Numbers) → Adds (Through 0) old old
  adds_begun old = adds_none (Through 0) old (λ n any. let none = any.2 in absurd (omega arith))

  pub adds_more : (i : ℕ) (d : X) (old mid new : Numbers) → i < length xs → Adds (Through i) old mid → Adds (F (get_or xs i d)) mid new → Adds (Through (i + 1)) old new
  adds_more i d old mid new inside first second =
      adds_then (Through i) (F (get_or xs i d)) (Through (i + 1)) old mid new
      (λ n any. rw (take_more xs i d inside) (Any-take (λ x. F x n) (take i xs) (get_or xs i d) any))
      (λ n here. rw (take_more xs i d inside) (Any-push (λ x. F x n) (take i xs) (get_or xs i d) here))
      (λ n any. Any-cases (λ x. F x n) (take i xs) (get_or xs i d) (rw (take_more xs i d inside) at any))
      first second

  pub adds_all : (i : ℕ) (old new : Numbers) → length xs ≤ i → Adds (Through i) old new → Adds (λ n. Any (λ x. F x n) xs) old new
  adds_all i old new all adds = subst (λ (ys : List X). Adds (λ n. Any (λ x. F x n) ys) old new) (take_all i xs all) adds

  pub too_many_at : (i : ℕ) (d : X) (old mid : Numbers) → i < length xs → Adds (Through i) old mid → AreTooMany (F (get_or xs i d)) mid → AreTooMany (λ n. Any (λ x. F x n) xs) old
  too_many_at i d old mid inside first many =
      too_many_then (Through i) (F (get_or xs i d)) (λ n. Any (λ x. F x n) xs) old mid
      (λ n any. any_taken n any)
      (λ n here. (i, get_or xs i d, inside, get_or_default xs i (get_or xs i d) d inside, here))
      first many
    where
      any_taken : (n : ℕ) → Any (λ x. F x n) (take i xs) → Any (λ x. F x n) xs
      any_taken n any =
          let long : length (take i xs) ≡ i = length-take-le i xs (omega arith) in
          let low = any.2 in
          let early : any.0 < i = omega arith in
          (any.0, any.1, omega arith, sym (get_or-take i xs any.0 any.1 early) ∙ any.3, any.4)
