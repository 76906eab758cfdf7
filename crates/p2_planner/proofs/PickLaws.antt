-- Elements whose variables are true.
use Rattle.std.proofs.Common.{◌≡◌, ℕ, suc, ◌+◌, ◌<◌, ◌≤◌, inl, inr, Bool, true, false, cond, Some, List, [], ◌∷◌, ◌++◌, length, get_or, map, take, refl, sym, ap, ◌∙◌, subst, arith}
use Rattle.std.specs.Prelude.{◌↔◌, All, AllPairs, Contains, slice_get}
use Rattle.std.specs.List.{enumerate_from, filter}
use Rattle.std.proofs.lemmas.List.{append-nil, length-take-le, take_more}
use Rattle.std.proofs.lemmas.List.Elements.{All-nil, All-cons, All-head, All-tail, All-contains_itself}
use Rattle.std.proofs.lemmas.List.Kept.{AllPairs-cons}
use Rattle.unit_model.specs.declared.unit.Unit.{Unit as Package}
use Rattle.unit_catalog.specs.Order.{AreMembers, IsBefore, units_at}
use Rattle.unit_slicer.specs.WholeCatalog.{IsPart}
use Rattle.pb_encode.proofs.MemberLaws.{unit_there}
use Rattle.p2_planner.specs.Selecting.{picked}

-- the same where the first has this variable
abbrev pub picked_from : {X : Type 0} → ℕ → (ℕ → Bool) → List X → List X
picked_from {X} k full xs = map (λ (m : ℕ × X). m.1) (filter (λ (m : ℕ × X). full m.0) (enumerate_from k xs))

module _ {X : Type 0} where
  pub pick_cons : (k : ℕ) (full : ℕ → Bool) (x : X) (xs : List X) → picked_from k full (x ∷ xs) ≡ cond (full k) (x ∷ picked_from (k + 1) full xs) (picked_from (k + 1) full xs)
  pick_cons k full x xs = by (full k)
    where
      rest : List (ℕ × X)
      rest = filter (λ (m : ℕ × X). full m.0) (enumerate_from (k + 1) xs)

      by : (b : Bool) → map (λ (m : ℕ × X). m.1) (cond b ((k, x) ∷ rest) rest) ≡ cond b (x ∷ map (λ (m : ℕ × X). m.1) rest) (map (λ (m : ℕ × X). m.1) rest)
      by true = refl
      by false = refl

  -- what holds whether the first is picked or not
  pub pick_by : (P : List X → Type 0) (k : ℕ) (full : ℕ → Bool) (x : X) (xs : List X)
      → (full k ≡ true → P (x ∷ picked_from (k + 1) full xs)) → (full k ≡ false → P (picked_from (k + 1) full xs)) → P (picked_from k full (x ∷ xs))
  pick_by P k full x xs taken left = subst P (sym (pick_cons k full x xs)) (by (full k) refl)
    where
      by : (b : Bool) → full k ≡ b → P (cond b (x ∷ picked_from (k + 1) full xs) (picked_from (k + 1) full xs))
      by true e = taken e
      by false e = left e

  pub pick_all : (Q : X → Type 0) (k : ℕ) (full : ℕ → Bool) (xs : List X) → All Q xs → All Q (picked_from k full xs)
  pick_all Q k full [] all = All-nil Q
  pick_all Q k full (x ∷ xs) all =
      let rest = pick_all Q (k + 1) full xs (All-tail Q x xs all) in
      pick_by (All Q) k full x xs (λ e. All-cons Q x (picked_from (k + 1) full xs) (All-head Q x xs all) rest) (λ e. rest)

  pub pick_pairs : (R : X → X → Type 0) (k : ℕ) (full : ℕ → Bool) (xs : List X) → AllPairs R xs → AllPairs R (picked_from k full xs)
  pick_pairs R k full [] pairs = pairs
  pick_pairs R k full (x ∷ xs) pairs =
      let head : All (R x) xs = λ j d inside. pairs 0 (suc j) d (omega arith) (omega arith) in
      let tail : AllPairs R xs = λ i j d below inside. pairs (suc i) (suc j) d (omega arith) (omega arith) in
      let rest = pick_pairs R (k + 1) full xs tail in
      pick_by (AllPairs R) k full x xs (λ e. AllPairs-cons R x (picked_from (k + 1) full xs) (pick_all (R x) (k + 1) full xs head) rest) (λ e. rest)

  pub pick_short : (k : ℕ) (full : ℕ → Bool) (xs : List X) → length (picked_from k full xs) ≤ length xs
  pick_short k full [] = omega arith
  pick_short k full (x ∷ xs) =
      let rest = pick_short (k + 1) full xs in
      pick_by (λ ys. length ys ≤ length (x ∷ xs)) k full x xs (λ e. omega arith) (λ e. omega arith)

  -- one element more
  pub pick_more : (k : ℕ) (full : ℕ → Bool) (xs : List X) (y : X) → picked_from k full (xs ++ y ∷ []) ≡ picked_from k full xs ++ cond (full (k + length xs)) (y ∷ []) []
  pick_more k full [] y =
      let here : k + 0 ≡ k = omega arith in
      pick_cons k full y [] ∙ ap (λ n. cond (full n) (y ∷ []) []) (sym here)
  pick_more k full (x ∷ xs) y =
      let rest = pick_more (k + 1) full xs y in
      let here : k + 1 + length xs ≡ k + suc (length xs) = omega arith in
      let last : List X = cond (full (k + suc (length xs))) (y ∷ []) [] in
      let more : picked_from (k + 1) full (xs ++ y ∷ []) ≡ picked_from (k + 1) full xs ++ last = rest ∙ ap (λ n. picked_from (k + 1) full xs ++ cond (full n) (y ∷ []) []) here in
      pick_cons k full x (xs ++ y ∷ []) ∙ (ap (λ zs. cond (full k) (x ∷ zs) zs) more ∙ (split (full k) last (picked_from (k + 1) full xs) ∙ ap (λ zs. zs ++ last) (sym (pick_cons k full x xs))))
    where
      split : (b : Bool) (last ys : List X) → cond b (x ∷ (ys ++ last)) (ys ++ last) ≡ cond b (x ∷ ys) ys ++ last
      split true last ys = refl
      split false last ys = refl

  -- truths that agree on the variables pick the same
  pub pick_same : (k : ℕ) (full other : ℕ → Bool) (xs : List X) → ((j : ℕ) → j < length xs → full (k + j) ≡ other (k + j)) → picked_from k full xs ≡ picked_from k other xs
  pick_same k full other [] agree = refl
  pick_same k full other (x ∷ xs) agree =
      let here : k + 0 ≡ k = omega arith in
      let first : full k ≡ other k = ap full (sym here) ∙ (agree 0 (omega arith) ∙ ap other here) in
      let rest : picked_from (k + 1) full xs ≡ picked_from (k + 1) other xs = pick_same (k + 1) full other xs
      (λ j inside. let there : k + 1 + j ≡ k + suc j = omega arith in ap full there ∙ (agree (suc j) (omega arith) ∙ ap other (sym there))) in
      pick_cons k full x xs ∙ ((λ i. cond (first i) (x ∷ rest i) (rest i)) ∙ sym (pick_cons k other x xs))

  later : (P : X → Type 0) (k : ℕ) (full : ℕ → Bool) (x : X) (xs : List X) → ((j : ℕ) (d : X) → j < length (x ∷ xs) → (full (k + j) ≡ true) ↔ P (get_or (x ∷ xs) j d))
      → (j : ℕ) (d : X) → j < length xs → (full (k + 1 + j) ≡ true) ↔ P (get_or xs j d)
  later P k full x xs test j d inside =
      let there : k + suc j ≡ k + 1 + j = omega arith in
      subst (λ n. (full n ≡ true) ↔ P (get_or xs j d)) there (test (suc j) d (omega arith))

  first : (P : X → Type 0) (k : ℕ) (full : ℕ → Bool) (x : X) (xs : List X) → ((j : ℕ) (d : X) → j < length (x ∷ xs) → (full (k + j) ≡ true) ↔ P (get_or (x ∷ xs) j d)) → (full k ≡ true) ↔ P x
  first P k full x xs test = let here : k + 0 ≡ k = omega arith in subst (λ n. (full n ≡ true) ↔ P x) here (test 0 x (omega arith))

  -- the part that has a property is picked by its test
  pub pick_part : (P : X → Type 0) (k : ℕ) (full : ℕ → Bool) (xs part : List X) → IsPart P xs part → ((j : ℕ) (d : X) → j < length xs → (full (k + j) ≡ true) ↔ P (get_or xs j d)) → part ≡ picked_from k full xs
  pick_part P k full [] part is test = is
  pick_part P k full (x ∷ xs) part (inl in') test =
      let rest : in'.1 ≡ picked_from (k + 1) full xs = pick_part P (k + 1) full xs in'.1 in'.3 (later P k full x xs test) in
      pick_by (λ ys. part ≡ ys) k full x xs (λ e. in'.2 ∙ ap (λ ys. x ∷ ys) rest) (λ e. let is : full k ≡ true = (first P k full x xs test).1 in'.0 in absurd (cc))
  pick_part P k full (x ∷ xs) part (inr out) test =
      let rest : part ≡ picked_from (k + 1) full xs = pick_part P (k + 1) full xs part out.1 (later P k full x xs test) in
      pick_by (λ ys. part ≡ ys) k full x xs (λ e. absurd (out.0 ((first P k full x xs test).0 e))) (λ e. rest)

-- ---- of members

pub pick_members : (units : List Package) (full : ℕ → Bool) (numbers : List ℕ) → AreMembers units numbers → AreMembers units (picked full numbers)
pick_members units full numbers are = record {
  few = let short = pick_short 1 full numbers in let few = are.few in omega arith;
  there = pick_all (λ n. n < length units) 1 full numbers are.there;
  rising = pick_pairs (IsBefore units) 1 full numbers are.rising;
}

pub pick_among : (full : ℕ → Bool) (numbers : List ℕ) → All (Contains numbers) (picked full numbers)
pick_among full numbers = pick_all (Contains numbers) 1 full numbers (All-contains_itself numbers)

units_cons : (units : List Package) (n : ℕ) (ns : List ℕ) (u : Package) → slice_get units n ≡ Some u → units_at units (n ∷ ns) ≡ u ∷ units_at units ns
units_cons units n ns u here = rw here refl

-- the units of what is picked are what is picked of the units
pub pick_units : (units : List Package) (k : ℕ) (full : ℕ → Bool) (numbers : List ℕ) → All (λ n. n < length units) numbers → units_at units (picked_from k full numbers) ≡ picked_from k full (units_at units numbers)
pick_units units k full [] there = refl
pick_units units k full (n ∷ ns) there =
    let at = unit_there units n (All-head (λ m. m < length units) n ns there) in
    let rest = pick_units units (k + 1) full ns (All-tail (λ m. m < length units) n ns there) in
    let whole : units_at units (n ∷ ns) ≡ at.0 ∷ units_at units ns = units_cons units n ns at.0 at.1 in
    let step : units_at units (cond (full k) (n ∷ picked_from (k + 1) full ns) (picked_from (k + 1) full ns)) ≡ cond (full k) (at.0 ∷ picked_from (k + 1) full (units_at units ns)) (picked_from (k + 1) full (units_at units ns)) =
    choose units n at.0 (picked_from (k + 1) full ns) (picked_from (k + 1) full (units_at units ns)) at.1 rest (full k) in
    ap (units_at units) (pick_cons k full n ns) ∙ (step ∙ (sym (pick_cons k full at.0 (units_at units ns)) ∙ ap (picked_from k full) (sym whole)))
  where
    choose : (units : List Package) (n : ℕ) (u : Package) (ms : List ℕ) (us : List Package) → slice_get units n ≡ Some u → units_at units ms ≡ us → (b : Bool) → units_at units (cond b (n ∷ ms) ms) ≡ cond b (u ∷ us) us
    choose units n u ms us here same true = units_cons units n ms u here ∙ ap (λ vs. u ∷ vs) same
    choose units n u ms us here same false = same

-- ---- in a loop

module _ (full : ℕ → Bool) (items : List ℕ) (i : ℕ) (kept : List ℕ) (inside : i < length items) (same : kept ≡ picked full (take i items)) where
  taken : (b : Bool) → full (i + 1) ≡ b → picked full (take (i + 1) items) ≡ picked full (take i items) ++ cond b (get_or items i 0 ∷ []) []
  taken b e =
      let long : length (take i items) ≡ i = length-take-le i items (omega arith) in
      let there : 1 + length (take i items) ≡ i + 1 = omega (arith, long) in
      let test : full (1 + length (take i items)) ≡ b = ap full there ∙ e in
      ap (picked full) (take_more items i 0 inside)
      ∙ (pick_more 1 full (take i items) (get_or items i 0) ∙ ap (λ t. picked full (take i items) ++ cond t (get_or items i 0 ∷ []) []) test)

  pub next_taken : full (i + 1) ≡ true → kept ++ get_or items i 0 ∷ [] ≡ picked full (take (i + 1) items)
  next_taken e = ap (λ ys. ys ++ get_or items i 0 ∷ []) same ∙ sym (taken true e)

  pub next_left : full (i + 1) ≡ false → kept ≡ picked full (take (i + 1) items)
  next_left e = same ∙ (sym (append-nil (picked full (take i items))) ∙ sym (taken false e))
