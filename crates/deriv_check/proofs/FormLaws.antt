-- Facts on lines that begin with those of a value.
use Rattle.std.proofs.Common.{◌≡◌, ℕ, ◌+◌, ◌-◌, ◌<◌, arith, suc, List, [], ◌∷◌, ◌++◌, length, take, drop, map, replicate, get_or, Some, None, refl, sym, ap, subst, ◌∙◌, append_assoc}
use Rattle.std.proofs.lemmas.List.{append_cancel_left, map-append, length-map, length-append, length-take, length-replicate, take-append-drop, take-take, drop-drop, get_or-take, get_or-map, get_or_append_left}
use Rattle.std.proofs.lemmas.List.Elements.{All-append, All-replicate, All-get_or}
use Rattle.deriv_check.specs.Reading.{Reading, IsFront, Begun, Stops, IsListOf, IsPairOf, pair_lines}

-- lists that begin alike and are as long are the same
pub same_front : {W : Type 0} (a b x y : List W) → length a ≡ length b → a ++ x ≡ b ++ y → a ≡ b
same_front [] [] x y n e = refl
same_front [] (w ∷ b) x y n e = absurd (omega arith)
same_front (v ∷ a) [] x y n e = absurd (omega arith)
same_front (v ∷ a) (w ∷ b) x y n e =
    let rest : a ≡ b = same_front a b x y (omega arith) (cc) in
    cc

-- one line that was read
pub begun-one : {X W : Type 0} (Valid : X → Type 0) (line : X → W) (w : W) (rest : List W) (x : X)
    → Reading Valid line w (Some x) → Begun Valid (λ y. line y ∷ []) (w ∷ rest) x
begun-one Valid line w rest x r = record {
  valid = r.0;
  spelled = ap (λ v. v ∷ rest) r.1;
  only = λ y a b valid e. let same : line y ≡ line x = cc in r.2 y valid (r.1 ∙ sym same);
}

pub stops-one : {X W : Type 0} (Valid : X → Type 0) (line : X → W) (w : W) (rest : List W) (filler : X) → Valid filler
    → Reading Valid line w None → Stops Valid (λ y. line y ∷ []) (w ∷ rest) 0
stops-one Valid line w rest filler valid r = record {
  within = omega arith;
  before = record { value = filler; more = line filler ∷ []; valid = valid; spelled = refl };
  fails = λ lt x more behind is e. let same : w ≡ line x = cc in r x is same;
  refused = λ x behind is e. let same : w ≡ line x = cc in r x is same;
}

pub stops-empty : {X W : Type 0} (Valid : X → Type 0) (line : X → W) (filler : X) → Valid filler → Stops Valid (λ y. line y ∷ []) [] 0
stops-empty Valid line filler valid = record {
  within = omega arith;
  before = record { value = filler; more = line filler ∷ []; valid = valid; spelled = refl };
  fails = λ lt x more behind is e. absurd (omega arith);
  refused = λ x behind is e. cc;
}

-- so many lines that were read
pub begun-list : {X W : Type 0} (Valid : X → Type 0) (line : X → W) (written : List W) (count : ℕ) (found : List X)
    → IsFront Valid line (take count written) found → length found ≡ count → Begun (IsListOf Valid count) (map line) written found
begun-list Valid line written count found front n = record {
  valid = (n, front.valid);
  spelled =
      let whole : take count written ≡ map line found =
      sym (ap (λ k. take k (take count written)) n ∙ take-take count count written (omega arith)) ∙ front.spelled in
      let places : length (map line found) ≡ count = length-map found line ∙ n in
      sym (ap (λ k. map line found ++ drop k written) places ∙ ap (λ f. f ++ drop count written) (sym whole) ∙ take-append-drop count written);
  only = λ ys a b valid e.
      let lengths : length (map line ys) ≡ length (map line found) = omega (arith, length-map ys line, length-map found line, n, valid.0) in
      front.only ys valid.1 (same_front (map line ys) (map line found) a b lengths e);
}

list_clash : {X W : Type 0} (Valid : X → Type 0) (line : X → W) (written whole rest : List W) (count : ℕ) (found ys : List X) (filler : X)
    → IsFront Valid line (take count written) found → length found < count → length found < length written
    → get_or whole (length found) (line filler) ≡ get_or written (length found) (line filler)
    → IsListOf Valid count ys → whole ≡ map line ys ++ rest → ⊥
list_clash {X} {W} Valid line written whole rest count found ys filler front h k at valid e =
    let n = length found in
    let inside : n < length (take count written) = omega (arith, length-take count written) in
    let here : get_or (take count written) n (line filler) ≡ get_or written n (line filler) = get_or-take count written n (line filler) h in
    let within : n < length (map line ys) = omega (arith, length-map ys line, valid.0) in
    let there : get_or (map line ys ++ rest) n (line filler) ≡ get_or (map line ys) n (line filler) = get_or_append_left (map line ys) rest (line filler) n within in
    let one : get_or (map line ys) n (line filler) ≡ line (get_or ys n filler) = get_or-map line ys n filler (line filler) (omega (arith, valid.0)) in
    front.stops inside (get_or ys n filler) (line filler) (All-get_or Valid ys n filler (omega (arith, valid.0)) valid.1)
    (here ∙ sym at ∙ ap (λ (l : List W). get_or l n (line filler)) e ∙ there ∙ one)

pub stops-list : {X W : Type 0} (Valid : X → Type 0) (line : X → W) (written : List W) (count : ℕ) (found : List X) (filler : X) → Valid filler
    → IsFront Valid line (take count written) found → length found < count → Stops (IsListOf Valid count) (map line) written (length found)
stops-list {X} {W} Valid line written count found filler valid front h = record {
  within = omega (arith, front.within, length-take count written);
  before =
      let rest = replicate (count - length found) filler in
      let fronts : take (length found) written ≡ map line found = sym (take-take (length found) count written (omega arith)) ∙ front.spelled in
      record {
        value = found ++ rest;
        more = map line rest;
        valid = (
          omega (arith, length-append found rest, length-replicate (count - length found) filler),
          All-append Valid found rest front.valid (All-replicate Valid (count - length found) filler valid),
        );
        spelled = ap (λ f. f ++ map line rest) fronts ∙ sym (map-append line found rest);
      };
  fails = λ lt ys more behind is e.
      let n = length found in
      let inside : n < length (take (n + 1) written) = omega (arith, length-take (n + 1) written) in
      let at : get_or (take (n + 1) written ++ more) n (line filler) ≡ get_or written n (line filler) =
      get_or_append_left (take (n + 1) written) more (line filler) n inside ∙ get_or-take (n + 1) written n (line filler) (omega arith) in
      list_clash Valid line written (take (n + 1) written ++ more) behind count found ys filler front h lt at is e;
  refused = λ ys behind is e.
      let long : length written ≡ length (map line ys ++ behind) = ap length e in
      let lt : length found < length written = omega (arith, long, length-append (map line ys) behind, length-map ys line, is.0) in
      list_clash Valid line written written behind count found ys filler front h lt refl is e;
}

-- a value, and one that depends on it behind it
drop_behind : {W : Type 0} (a b written : List W) → written ≡ a ++ drop (length a) written → drop (length a) written ≡ b ++ drop (length b) (drop (length a) written)
    → written ≡ (a ++ b) ++ drop (length (a ++ b)) written
drop_behind {W} a b written e f =
    let n : length a + length b ≡ length (a ++ b) = sym (length-append a b) in
    let places : drop (length b) (drop (length a) written) ≡ drop (length (a ++ b)) written = drop-drop (length b) (length a) written ∙ ap (λ k. drop k written) n in
    e ∙ ap (λ r. a ++ r) f ∙ ap (λ r. a ++ (b ++ r)) places ∙ sym (append_assoc a b (drop (length (a ++ b)) written))

pub begun-pair : {X Y W : Type 0} (Valid : X → Type 0) (Behind : X → Y → Type 0) (spell : X → List W) (behind : Y → List W) (written : List W) (x : X) (y : Y)
    → Begun Valid spell written x → Begun (Behind x) behind (drop (length (spell x)) written) y
    → Begun (IsPairOf Valid Behind) (pair_lines spell behind) written (x, y)
begun-pair {X} {Y} Valid Behind spell behind written x y first second = record {
  valid = (first.valid, second.valid);
  spelled = drop_behind (spell x) (behind y) written first.spelled second.spelled;
  only = λ p a b valid e.
      let whole : spell p.0 ++ (behind p.1 ++ a) ≡ spell x ++ (behind y ++ b) = sym (append_assoc (spell p.0) (behind p.1) a) ∙ e ∙ append_assoc (spell x) (behind y) b in
      let left : p.0 ≡ x = first.only p.0 (behind p.1 ++ a) (behind y ++ b) valid.0 whole in
      let rest : behind p.1 ++ a ≡ behind y ++ b = append_cancel_left (spell x) _ _ (ap (λ (z : X). spell z ++ (behind p.1 ++ a)) (sym left) ∙ whole) in
      let right : p.1 ≡ y = second.only p.1 a b (subst (λ (z : X). Behind z p.1) left valid.1) rest in
      λ i. (left i, right i);
}

pub stops-pair_first : {X Y W : Type 0} (Valid : X → Type 0) (Behind : X → Y → Type 0) (spell : X → List W) (behind : Y → List W) (written : List W) (at : ℕ)
    → (filler : X → Y) → ((x : X) → Valid x → Behind x (filler x))
    → Stops Valid spell written at → Stops (IsPairOf Valid Behind) (pair_lines spell behind) written at
stops-pair_first {X} {Y} Valid Behind spell behind written at filler fills first = record {
  within = first.within;
  before =
      let x = first.before.value in
      record {
        value = (x, filler x);
        more = first.before.more ++ behind (filler x);
        valid = (first.before.valid, fills x first.before.valid);
        spelled = sym (append_assoc (take at written) first.before.more (behind (filler x))) ∙ ap (λ l. l ++ behind (filler x)) first.before.spelled;
      };
  fails = λ lt p more rest valid e. first.fails lt p.0 more (behind p.1 ++ rest) valid.0 (e ∙ append_assoc (spell p.0) (behind p.1) rest);
  refused = λ p rest valid e. first.refused p.0 (behind p.1 ++ rest) valid.0 (e ∙ append_assoc (spell p.0) (behind p.1) rest);
}

take_behind : {W : Type 0} (a rest : List W) (n : ℕ) → take (length a + n) (a ++ rest) ≡ a ++ take n rest
take_behind [] rest n = ap (λ k. take k rest) (omega arith)
take_behind (w ∷ a) rest n = let e : suc (length a) + n ≡ suc (length a + n) = omega arith in rw e (ap (λ r. w ∷ r) (take_behind a rest n))

pair_clash : {X Y W : Type 0} (Valid : X → Type 0) (Behind : X → Y → Type 0) (spell : X → List W) (behind : Y → List W) (written : List W) (x : X)
    → Begun Valid spell written x → (p : X × Y) (tail rest : List W) → IsPairOf Valid Behind p → spell x ++ tail ≡ pair_lines spell behind p ++ rest
    → Behind x p.1 × (tail ≡ behind p.1 ++ rest)
pair_clash {X} Valid Behind spell behind written x first p tail rest valid e =
    let whole : spell p.0 ++ (behind p.1 ++ rest) ≡ spell x ++ tail = sym (e ∙ append_assoc (spell p.0) (behind p.1) rest) in
    let left : p.0 ≡ x = first.only p.0 (behind p.1 ++ rest) tail valid.0 whole in (
      subst (λ (z : X). Behind z p.1) left valid.1,
      append_cancel_left (spell x) _ _ (sym (ap (λ (z : X). spell z ++ (behind p.1 ++ rest)) (sym left) ∙ whole)),
    )

pub stops-pair_second : {X Y W : Type 0} (Valid : X → Type 0) (Behind : X → Y → Type 0) (spell : X → List W) (behind : Y → List W) (written : List W) (x : X) (at : ℕ)
    → Begun Valid spell written x → Stops (Behind x) behind (drop (length (spell x)) written) at
    → Stops (IsPairOf Valid Behind) (pair_lines spell behind) written (length (spell x) + at)
stops-pair_second {X} {Y} {W} Valid Behind spell behind written x at first second =
    let rest = drop (length (spell x)) written in
    let cut : (n : ℕ) → take (length (spell x) + n) written ≡ spell x ++ take n rest =
    λ n. ap (take (length (spell x) + n)) first.spelled ∙ take_behind (spell x) rest n in
    let long : length written ≡ length (spell x) + length rest = ap length first.spelled ∙ length-append (spell x) rest in
    record {
      within = omega (arith, long, second.within);
      before =
          let b = second.before in
          record {
            value = (x, b.value);
            more = b.more;
            valid = (first.valid, b.valid);
            spelled = ap (λ l. l ++ b.more) (cut at) ∙ append_assoc (spell x) (take at rest) b.more ∙ ap (λ l. spell x ++ l) b.spelled;
          };
      fails = λ lt p more behinds valid e.
          let places : length (spell x) + at + 1 ≡ length (spell x) + (at + 1) = omega arith in
          let whole : spell x ++ (take (at + 1) rest ++ more) ≡ pair_lines spell behind p ++ behinds =
          sym (append_assoc (spell x) (take (at + 1) rest) more) ∙ ap (λ l. l ++ more) (sym (ap (λ k. take k written) places ∙ cut (at + 1))) ∙ e in
          let parts = pair_clash Valid Behind spell behind written x first p (take (at + 1) rest ++ more) behinds valid whole in
          second.fails (omega (arith, long)) p.1 more behinds parts.0 parts.1;
      refused = λ p behinds valid e.
          let parts = pair_clash Valid Behind spell behind written x first p rest behinds valid (sym first.spelled ∙ e) in
          second.refused p.1 behinds parts.0 parts.1;
    }

-- the same values in another type
pub record IsSameForm {A B W : Type 0} (ValidA : A → Type 0) (spell_a : A → List W) (ValidB : B → Type 0) (spell_b : B → List W) (to : A → B) (from : B → A) : Type 0 where
  pub valid_to : (a : A) → ValidA a → ValidB (to a)
  pub valid_from : (b : B) → ValidB b → ValidA (from b)
  pub spell_to : (a : A) → ValidA a → spell_b (to a) ≡ spell_a a
  pub spell_from : (b : B) → ValidB b → spell_a (from b) ≡ spell_b b
  pub back : (b : B) → to (from b) ≡ b

pub begun-along : {A B W : Type 0} (ValidA : A → Type 0) (spell_a : A → List W) (ValidB : B → Type 0) (spell_b : B → List W) (to : A → B) (from : B → A)
    → IsSameForm ValidA spell_a ValidB spell_b to from → (written : List W) (a : A) → Begun ValidA spell_a written a → Begun ValidB spell_b written (to a)
begun-along {A} {B} {W} ValidA spell_a ValidB spell_b to from same written a first =
    let lines : spell_b (to a) ≡ spell_a a = same.spell_to a first.valid in
    record {
      valid = same.valid_to a first.valid;
      spelled = subst (λ (l : List W). written ≡ l ++ drop (length l) written) (sym lines) first.spelled;
      only = λ b p q valid e.
          let whole : spell_a (from b) ++ p ≡ spell_a a ++ q = ap (λ l. l ++ p) (same.spell_from b valid) ∙ e ∙ ap (λ l. l ++ q) lines in
          let one : from b ≡ a = first.only (from b) p q (same.valid_from b valid) whole in
          sym (same.back b) ∙ ap to one;
    }

pub stops-along : {A B W : Type 0} (ValidA : A → Type 0) (spell_a : A → List W) (ValidB : B → Type 0) (spell_b : B → List W) (to : A → B) (from : B → A)
    → IsSameForm ValidA spell_a ValidB spell_b to from → (written : List W) (at : ℕ) → Stops ValidA spell_a written at → Stops ValidB spell_b written at
stops-along {A} {B} {W} ValidA spell_a ValidB spell_b to from same written at first = record {
  within = first.within;
  before =
      let b = first.before in
      record { value = to b.value; more = b.more; valid = same.valid_to b.value b.valid; spelled = b.spelled ∙ sym (same.spell_to b.value b.valid) };
  fails = λ lt b more rest valid e. first.fails lt (from b) more rest (same.valid_from b valid) (e ∙ ap (λ l. l ++ rest) (sym (same.spell_from b valid)));
  refused = λ b rest valid e. first.refused (from b) rest (same.valid_from b valid) (e ∙ ap (λ l. l ++ rest) (sym (same.spell_from b valid)));
}
