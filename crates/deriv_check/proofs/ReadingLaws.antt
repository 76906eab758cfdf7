-- Facts on readers of words and of lines.
use Rattle.std.proofs.Common.{◌≡◌, ◌==◌, Bool, true, false, not, ℕ, ◌+◌, ◌<◌, ◌≤◌, arith, List, [], ◌∷◌, ◌++◌, length, take, drop, map, get_or, Option, Some, None, Result, Ok, Err, IfOk, refl, sym, ap, ◌∙◌, All, Bor}
use Rattle.std.proofs.lemmas.List.{length-map, take_all, take_more, get_or-map, length_push, map_push, same_from_push}
use Rattle.std.proofs.lemmas.List.Elements.{All-nil, All-push, All-pop, All-get_or}
use Rattle.std.specs.Str.{bytes_eq}
use Rattle.std.proofs.lemmas.Bool.Decides.{nat_tests}
use Rattle.std.proofs.lemmas.Slice.Eq.{bytes_eq-Decides}
use Rattle.deriv_check.specs.Reading.{Reading, seen, IsFront}

-- the values of the first words or lines
pub record IsReadUpTo {X W : Type 0} (Valid : X → Type 0) (spell : X → W) (written : List W) (count : ℕ) (found : List X) : Type 0 where
  pub number : length found ≡ count
  pub valid : All Valid found
  pub spelled : take count written ≡ map spell found
  pub only : (xs : List X) → All Valid xs → map spell xs ≡ map spell found → xs ≡ found

none_spelled : {X W : Type 0} (spell : X → W) (xs : List X) → map spell xs ≡ [] → xs ≡ []
none_spelled spell [] e = refl
none_spelled spell (x ∷ xs) e = absurd (cc)

pub read_none : {X W : Type 0} (Valid : X → Type 0) (spell : X → W) (written : List W) → IsReadUpTo Valid spell written 0 []
read_none Valid spell written = record {
  number = refl;
  valid = All-nil Valid;
  spelled = refl;
  only = λ xs all e. none_spelled spell xs e;
}

record Snoc {X : Type 0} (xs : List X) : Type 0 where
  front : List X
  last : X
  is : xs ≡ front ++ last ∷ []

snoc : {X : Type 0} (x : X) (xs : List X) → Snoc (x ∷ xs)
snoc x [] = record { front = []; last = x; is = refl }
snoc x (y ∷ xs) = let rest = snoc y xs in record { front = x ∷ rest.front; last = rest.last; is = ap (λ r. x ∷ r) rest.is }

more_only : {X W : Type 0} (Valid : X → Type 0) (spell : X → W) (found : List X) (x : X)
    → ((xs : List X) → All Valid xs → map spell xs ≡ map spell found → xs ≡ found)
    → ((y : X) → Valid y → spell x ≡ spell y → y ≡ x)
    → (xs : List X) → All Valid xs → map spell xs ≡ map spell (found ++ x ∷ []) → xs ≡ found ++ x ∷ []
more_only Valid spell found x only one [] all e =
    let n : length (map spell (found ++ x ∷ [])) ≡ 0 = ap length (sym e) in
    absurd (omega (arith, n, length-map (found ++ x ∷ []) spell, length_push found x))
more_only {X} Valid spell found x only one (z ∷ zs) all e =
    let s = snoc z zs in
    let parts = All-pop Valid (z ∷ zs) s.front (Some s.last) s.is all in
    let both : map spell s.front ++ spell s.last ∷ [] ≡ map spell found ++ spell x ∷ [] =
    sym (map_push spell s.front s.last) ∙ ap (map spell) (sym s.is) ∙ e ∙ map_push spell found x in
    let same = same_from_push (map spell s.front) (map spell found) (spell s.last) (spell x) both in
    let front : s.front ≡ found = only s.front parts.0 same.0 in
    let last : s.last ≡ x = one s.last parts.1 (sym same.1) in
    s.is ∙ ap (λ (f : List X). f ++ s.last ∷ []) front ∙ ap (λ (y : X). found ++ y ∷ []) last

pub read_more : {X W : Type 0} (Valid : X → Type 0) (spell : X → W) (written : List W) (count : ℕ) (found : List X) (w : W) (x : X)
    → count < length written → get_or written count w ≡ w → IsReadUpTo Valid spell written count found → Reading Valid spell w (Some x)
    → IsReadUpTo Valid spell written (count + 1) (found ++ x ∷ [])
read_more {X} {W} Valid spell written count found w x h at so r = record {
  number = length_push found x ∙ ap (λ n. n + 1) so.number;
  valid = All-push Valid found x so.valid r.0;
  spelled = take_more written count w h ∙ (λ i. so.spelled i ++ at i ∷ []) ∙ ap (λ (v : W). map spell found ++ v ∷ []) r.1 ∙ sym (map_push spell found x);
  only = more_only Valid spell found x so.only (λ y valid e. r.2 y valid (r.1 ∙ e));
}

-- what is read behind the end
abbrev pub no_word : Bor (List ℕ)
no_word = record { ref_ptr = (0, 0); now = [] }

-- the word or line behind a reference
pub seen-at : (words : List (Bor (List ℕ))) (i : ℕ) (w : Bor (List ℕ)) → i < length words → (d : List ℕ) → get_or (seen words) i d ≡ (get_or words i w).now
seen-at words i w h d = get_or-map (λ (s : Bor (List ℕ)). s.now) words i w d h

pub length-seen : (words : List (Bor (List ℕ))) → length (seen words) ≡ length words
length-seen words = length-map words (λ (s : Bor (List ℕ)). s.now)

pub seen_more : {X : Type 0} (Valid : X → Type 0) (spell : X → List ℕ) (words : List (Bor (List ℕ))) (i : ℕ) (found : List X) (x : X)
    → i < length words → IsReadUpTo Valid spell (seen words) i found → Reading Valid spell (get_or words i no_word).now (Some x)
    → IsReadUpTo Valid spell (seen words) (i + 1) (found ++ x ∷ [])
seen_more Valid spell words i found x h so r =
    read_more Valid spell (seen words) i found (get_or words i no_word).now x (omega (arith, length-seen words)) (seen-at words i no_word h (get_or words i no_word).now) so r

-- a word that no value spells ends the front
pub seen_stop : {X : Type 0} (Valid : X → Type 0) (spell : X → List ℕ) (words : List (Bor (List ℕ))) (i : ℕ) (found : List X)
    → i < length words → IsReadUpTo Valid spell (seen words) i found → Reading Valid spell (get_or words i no_word).now None
    → IsFront Valid spell (seen words) found
seen_stop {X} Valid spell words i found h so r = record {
  within = omega (arith, so.number, length-seen words);
  valid = so.valid;
  spelled = ap (λ n. take n (seen words)) so.number ∙ so.spelled;
  only = so.only;
  stops = λ lt x d valid e. r x valid (sym (seen-at words i no_word h d) ∙ ap (λ n. get_or (seen words) n d) (sym so.number) ∙ e);
}

-- where all words are read
pub seen_end : {X : Type 0} (Valid : X → Type 0) (spell : X → List ℕ) (words : List (Bor (List ℕ))) (i : ℕ) (found : List X)
    → length words ≤ i → i ≤ length words → IsReadUpTo Valid spell (seen words) i found → IsFront Valid spell (seen words) found
seen_end {X} Valid spell words i found h k so = record {
  within = omega (arith, so.number, length-seen words);
  valid = so.valid;
  spelled = ap (λ n. take n (seen words)) so.number ∙ so.spelled;
  only = so.only;
  stops = λ lt x d valid e. absurd (omega (arith, so.number, length-seen words));
}

-- words that aren't all read are spelled by no values
pub front_short : {X : Type 0} (Valid : X → Type 0) (spell : X → List ℕ) (words : List (Bor (List ℕ))) (found : List X) → IsFront Valid spell (seen words) found → length found < length words
    → (xs : List X) → All Valid xs → seen words ≡ map spell xs → ⊥
front_short {X} Valid spell words found front h [] all e = let n = ap length e in omega (arith, n, length-seen words)
front_short {X} Valid spell words found front h (x ∷ xs) all e =
    let n = ap length e in
    let long : length found < length (x ∷ xs) = omega (arith, n, length-seen words, length-map (x ∷ xs) spell) in
    front.stops (omega (arith, length-seen words)) (get_or (x ∷ xs) (length found) x) [] (All-get_or Valid (x ∷ xs) (length found) x long all)
    (ap (λ (l : List (List ℕ)). get_or l (length found) []) e ∙ get_or-map spell (x ∷ xs) (length found) x [] long)

-- where all are read, they are spelled by these values alone
pub front_whole : {X : Type 0} (Valid : X → Type 0) (spell : X → List ℕ) (words : List (Bor (List ℕ))) (found : List X) → IsFront Valid spell (seen words) found → length words ≤ length found
    → seen words ≡ map spell found
front_whole Valid spell words found front h = sym (take_all (length found) (seen words) (omega (arith, length-seen words))) ∙ front.spelled

-- the first of some words
pub seen_three : (words : List (Bor (List ℕ))) → 3 ≤ length words
    → seen words ≡ (get_or words 0 no_word).now ∷ (get_or words 1 no_word).now ∷ (get_or words 2 no_word).now ∷ seen (drop 3 words)
seen_three [] h = absurd (omega arith)
seen_three (a ∷ []) h = absurd (omega arith)
seen_three (a ∷ b ∷ []) h = absurd (omega arith)
seen_three (a ∷ b ∷ d ∷ words) h = refl

pub seen_two : (words : List (Bor (List ℕ))) → length words ≡ 2 → seen words ≡ (get_or words 0 no_word).now ∷ (get_or words 1 no_word).now ∷ []
seen_two [] h = absurd (omega arith)
seen_two (a ∷ []) h = absurd (omega arith)
seen_two (a ∷ b ∷ []) h = refl
seen_two (a ∷ b ∷ d ∷ words) h = absurd (omega arith)

pub seen_first : (words : List (Bor (List ℕ))) → 1 ≤ length words → seen words ≡ (get_or words 0 no_word).now ∷ seen (drop 1 words)
seen_first [] h = absurd (omega arith)
seen_first (a ∷ words) h = refl

-- a first word that is always the same
pub reading_behind : {X : Type 0} (Valid : X → Type 0) (parts : X → List (List ℕ)) (mark : List ℕ) (words rest : List (List ℕ)) (found : Option X)
    → words ≡ mark ∷ rest → Reading Valid parts rest found → Reading Valid (λ x. mark ∷ parts x) words found
reading_behind Valid parts mark words rest None is r = λ x valid e. let same : rest ≡ parts x = cc in r x valid same
reading_behind Valid parts mark words rest (Some y) is r = (r.0, is ∙ ap (λ l. mark ∷ l) r.1, λ x valid e. let same : rest ≡ parts x = cc in r.2 x valid same)

pub reading_behind_read : {X E : Type 0} (Valid : X → Type 0) (parts : X → List (List ℕ)) (mark : List ℕ) (words rest : List (List ℕ)) (read : Result (Option X) E)
    → words ≡ mark ∷ rest → IfOk read (Reading Valid parts rest) → IfOk read (Reading Valid (λ x. mark ∷ parts x) words)
reading_behind_read Valid parts mark words rest (Ok found) is r = reading_behind Valid parts mark words rest found is r
reading_behind_read Valid parts mark words rest (Err e) is r = tt

-- a mark and one word
one_word : {X : Type 0} (Valid : X → Type 0) (spell : X → List ℕ) (mark w : List ℕ) (words : List (List ℕ)) (found : Option X)
    → words ≡ mark ∷ w ∷ [] → Reading Valid spell w found → Reading Valid (λ x. mark ∷ spell x ∷ []) words found
one_word Valid spell mark w words None is r = λ x valid e. let same : w ≡ spell x = cc in r x valid same
one_word Valid spell mark w words (Some y) is r =
    (r.0, is ∙ ap (λ (v : List ℕ). mark ∷ v ∷ []) r.1, λ x valid e. let same : w ≡ spell x = cc in r.2 x valid same)

pub one_word_read : {X E : Type 0} (Valid : X → Type 0) (spell : X → List ℕ) (mark w : List ℕ) (words : List (List ℕ)) (read : Result (Option X) E)
    → words ≡ mark ∷ w ∷ [] → IfOk read (Reading Valid spell w) → IfOk read (Reading Valid (λ x. mark ∷ spell x ∷ []) words)
one_word_read Valid spell mark w words (Ok found) is r = one_word Valid spell mark w words found is r
one_word_read Valid spell mark w words (Err e) is r = tt

-- a byte string as a test
pub same_bytes : (a b : List ℕ) → not (bytes_eq a b) ≡ false → a ≡ b
same_bytes a b eq = (bytes_eq-Decides a b).0 (negated (bytes_eq a b) eq)
  where
    negated : (t : Bool) → not t ≡ false → t ≡ true
    negated true h = refl
    negated false h = cc

pub differ : (a b : List ℕ) → not (bytes_eq a b) ≡ true → a ≡ b → ⊥
differ a b ne e = let same : bytes_eq a b ≡ true = (bytes_eq-Decides a b).1 e in cc

pub no_length : (n : ℕ) → (n == 0) ≡ true → n ≡ 0
no_length n h = grind (arith, nat_tests)

pub some_length : (n : ℕ) → (n == 0) ≡ false → 1 ≤ n
some_length n h = grind (arith, nat_tests)
