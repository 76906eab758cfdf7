-- A number more, and its mark.
use Rattle.std.proofs.Common.{◌≡◌, ◌≢◌, ℕ, ◌<◌, ◌⊎◌, inl, inr, Bool, true, false, List, [], ◌∷◌, ◌++◌, length, get_or, set, refl, sym, ◌∙◌, subst, arith, length-append}
use Rattle.std.specs.Prelude.{◌↔◌, IsTrue, AllPairs, Contains}
use Rattle.std.proofs.lemmas.Bool.{cases_eq}
use Rattle.std.proofs.lemmas.List.{get_or-set_same, get_or-set_other, length-set}
use Rattle.std.proofs.lemmas.List.Elements.{All-nil, All-cons, All-push, Contains-append_left, Contains-push, Contains-push_cases, Contains-get_or}
use Rattle.std.proofs.lemmas.List.Quantifiers.{all_pairs_push}
use Rattle.unit_slicer.specs.Found.{Numbers, AreMarked, Adds, AreTooMany}
use Rattle.unit_slicer.proofs.AddingLaws.{adds_none}

-- a number whose mark is false is none of the numbers
new_number : (numbers : List ℕ) (marks : List Bool) (m : ℕ) → AreMarked numbers marks → m < length marks → get_or marks m false ≡ false → Contains numbers m → ⊥
new_number numbers marks m marked inside clear has = let yes : get_or marks m false ≡ true = (marked.marked m inside).1 has in cc

distinct_more : (numbers : List ℕ) (m : ℕ) → AllPairs (λ a b. a ≢ b) numbers → (Contains numbers m → ⊥) → AllPairs (λ a b. a ≢ b) (numbers ++ m ∷ [])
distinct_more numbers m distinct new =
    all_pairs_push (λ a b. a ≢ b) numbers m distinct (λ k d inside same. new (subst (Contains numbers) same (Contains-get_or numbers k d inside)))

pub marked_more : (numbers : List ℕ) (marks : List Bool) (m : ℕ) → AreMarked numbers marks → m < length marks → get_or marks m false ≡ false → (length numbers ≡ 8192 → ⊥) → AreMarked (numbers ++ m ∷ []) (set marks m true)
marked_more numbers marks m marked inside clear room = record {
  few = let few = marked.few in omega (arith, length-append numbers (m ∷ []));
  distinct = distinct_more numbers m marked.distinct (new_number numbers marks m marked inside clear);
  within = rw (length-set marks m true) (All-push (λ n. n < length marks) numbers m marked.within inside);
  marked = each;
}
  where
    each : (n : ℕ) → n < length (set marks m true) → IsTrue (get_or (set marks m true) n false) ↔ Contains (numbers ++ m ∷ []) n
    each n within = by (cases_eq m n)
      where
        by : (m ≡ n) ⊎ (m ≢ n) → IsTrue (get_or (set marks m true) n false) ↔ Contains (numbers ++ m ∷ []) n
        by (inl same) = (
          λ yes. subst (Contains (numbers ++ m ∷ [])) same (Contains-push numbers m),
          λ has. subst (λ k. get_or (set marks m true) k false ≡ true) same (get_or-set_same marks m true false inside),
        )
        by (inr other) =
            let apart : n ≢ m = λ e. other (sym e) in
            let low : n < length marks = subst (λ l. n < l) (length-set marks m true) within in
            let kept : get_or (set marks m true) n false ≡ get_or marks n false = get_or-set_other marks m n true false apart in (
              λ yes. Contains-append_left numbers (m ∷ []) n ((marked.marked n low).0 (sym kept ∙ yes)),
              λ has. elim (Contains-push_cases numbers m n has) [ inl there ↦ kept ∙ (marked.marked n low).1 there | inr same ↦ absurd (other same) ],
            )

pub adds_marked : (numbers : List ℕ) (marks : List Bool) (m : ℕ) → AreMarked numbers marks → m < length marks → get_or marks m false ≡ true → Adds (λ n. n ≡ m) (record { units = length marks; found = numbers }) (record { units = length marks; found = numbers })
adds_marked numbers marks m marked inside seen =
    adds_none (λ n. n ≡ m) (record { units = length marks; found = numbers }) (λ n same. subst (Contains numbers) (sym same) ((marked.marked m inside).0 seen))

pub adds_new : (old new : Numbers) (m : ℕ) → new.units ≡ old.units → new.found ≡ old.found ++ m ∷ [] → Adds (λ n. n ≡ m) old new
adds_new old new m units grown = record {
  units = units;
  added = m ∷ [];
  front = grown;
  each = All-cons (λ n. n ≡ m) m [] refl (All-nil (λ n. n ≡ m));
  every = λ n same. subst (λ (xs : List ℕ). Contains xs n) (sym grown) (subst (Contains (old.found ++ m ∷ [])) (sym same) (Contains-push old.found m));
}

pub too_many_new : (numbers : List ℕ) (marks : List Bool) (m : ℕ) → AreMarked numbers marks → m < length marks → get_or marks m false ≡ false → length numbers ≡ 8192 → AreTooMany (λ n. n ≡ m) (record { units = length marks; found = numbers })
too_many_new numbers marks m marked inside clear full = record {
  numbers = numbers ++ m ∷ [];
  distinct = distinct_more numbers m marked.distinct (new_number numbers marks m marked inside clear);
  each = All-push (λ n. Contains numbers n ⊎ (n ≡ m)) numbers m (λ k d within. inl (Contains-get_or numbers k d within)) (inr refl);
  many = omega (arith, length-append numbers (m ∷ []));
}

pub marked_none : (marks : List Bool) (units : ℕ) → length marks ≡ units → ((k : ℕ) → k < units → get_or marks k false ≡ false) → AreMarked [] marks
marked_none marks units long clear = record {
  few = omega arith;
  distinct = λ i j d before inside. absurd (omega arith);
  within = All-nil (λ n. n < length marks);
  marked = λ n inside. (λ yes. let no = clear n (omega arith) in absurd (cc), λ has. absurd (let none = has.1 in omega arith));
}
