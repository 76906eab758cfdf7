-- Which texts are names, and lists of them.
use Rattle.std.proofs.Common.{◌≡◌, ◌≢◌, ◌↔◌, ℕ, ◌+◌, ◌<◌, ◌≤◌, ◌==◌, nat_le, Bool, true, false, IsTrue, not, ◌&&◌, cond, List, [], ◌∷◌, ◌++◌, length, map, drop, get_or, Option, Some, None, option_map, Bor, Contains, codes, refl, sym, ap, ◌∙◌, append_assoc, append-nil, subst, arith}
use Rattle.std.specs.List.{list_all}
use Rattle.std.specs.Option.{SomeIff}
use Rattle.std.specs.Str.{IsUtf8, bytes_eq}
use Rattle.std.proofs.lemmas.List.{drop_more, drop_all}
use Rattle.std.proofs.lemmas.Slice.Eq.{bytes_eq-Decides}
use Rattle.std.proofs.lemmas.Bool.{both_ways, eq-eqb}
use Rattle.std.proofs.lemmas.Bool.Decides.{Decides-eqb, nat_tests}
use Rattle.std.proofs.lemmas.List.Folds.{Any-from_list_any, list_any_at}
use Rattle.std.specs.Cmp.Derive.{both_true}
use Rattle.std.specs.Char.{to_ascii_lowercase}
use Rattle.std.proofs.lemmas.Bool.{false≢true}
use Rattle.instr_parser.specs.Value.{is_true}
use Rattle.instr_text.specs.Cut.{is_empty, seen}
use Rattle.folder_core.specs.Name.{IsName}
use Rattle.instr_parser.specs.Path.{has, is_name, name_of, all_names}

decided : (b : Bool) → (b ≡ true → ⊥) → b ≡ false
decided true h = absurd (h refl)
decided false h = refl

negated : (b : Bool) → not b ≡ true → b ≡ false
negated false h = refl
negated true h = sym h

both : (a b : Bool) → (a && b) ≡ true → (a ≡ true) × (b ≡ true)
both true b h = (refl, h)
both false b h = absurd (both_ways false refl h)

contains : (byte : ℕ) (text : List ℕ) → has byte text ≡ true → Contains text byte
contains byte text h =
    let found = Any-from_list_any (λ b. b == byte) text h in
    (found.0, found.2, subst (λ (b : ℕ). get_or text found.0 b ≡ b) ((Decides-eqb found.1 byte).0 found.4) found.3)

has_it : (byte : ℕ) (text : List ℕ) → Contains text byte → has byte text ≡ true
has_it byte text there = list_any_at (λ b. b == byte) text there.0 byte there.1 (eq-eqb (get_or text there.0 byte) byte there.2)

not_empty : (text : List ℕ) → text ≢ [] → is_empty text ≡ false
not_empty [] some = absurd (some refl)
not_empty (b ∷ text) some = grind (arith, nat_tests)

module _ (text : List ℕ) where
  abbrev t1 : Bool
  t1 = not (is_empty text)

  abbrev t2 : Bool
  t2 = nat_le (length text) 255

  abbrev t3 : Bool
  t3 = not (has 47 text)

  abbrev t4 : Bool
  t4 = not (has 0 text)

  abbrev t5 : Bool
  t5 = not (bytes_eq text (codes "."))

  abbrev t6 : Bool
  t6 = not (bytes_eq text (codes ".."))

  all_true : t1 ≡ true → t2 ≡ true → t3 ≡ true → t4 ≡ true → t5 ≡ true → t6 ≡ true → is_name text ≡ true
  all_true a b c d e f = both_true (both_true (both_true (both_true (both_true a b) c) d) e) f

  is_name-from : IsName text → is_name text ≡ true
  is_name-from name =
      let short : nat_le (length text) 255 ≡ true = grind (arith, nat_tests) in
      all_true (ap not (not_empty text name.some)) short
      (ap not (decided (has 47 text) (λ e. name.no_slash (contains 47 text e)))) (ap not (decided (has 0 text) (λ e. name.no_nul (contains 0 text e))))
      (ap not (decided (bytes_eq text (codes ".")) (λ e. name.no_dot ((bytes_eq-Decides text (codes ".")).0 e))))
      (ap not (decided (bytes_eq text (codes "..")) (λ e. name.no_dots ((bytes_eq-Decides text (codes "..")).0 e))))

  IsName-from : IsUtf8 text → is_name text ≡ true → IsName text
  IsName-from utf8 is =
      let p6 = both (t1 && t2 && t3 && t4 && t5) t6 is in
      let p5 = both (t1 && t2 && t3 && t4) t5 p6.0 in
      let p4 = both (t1 && t2 && t3) t4 p5.0 in
      let p3 = both (t1 && t2) t3 p4.0 in
      let p2 = both t1 t2 p3.0 in
      let le : nat_le (length text) 255 ≡ true = p2.1 in
      record {
        utf8 = utf8;
        some = λ e. both_ways _ (negated (is_empty text) p2.0) (ap is_empty e);
        short = grind (arith, nat_tests);
        no_slash = λ there. both_ways _ (negated (has 47 text) p3.1) (has_it 47 text there);
        no_nul = λ there. both_ways _ (negated (has 0 text) p4.1) (has_it 0 text there);
        no_dot = λ e. both_ways _ (negated (bytes_eq text (codes ".")) p5.1) ((bytes_eq-Decides text (codes ".")).1 e);
        no_dots = λ e. both_ways _ (negated (bytes_eq text (codes "..")) p6.1) ((bytes_eq-Decides text (codes "..")).1 e);
      }

pub name_of-is : (text : List ℕ) (found : Option (List ℕ)) → IsUtf8 text → SomeIff found (IsName text) text → found ≡ name_of text
name_of-is text None utf8 none = let no : is_name text ≡ false = decided _ (λ e. none (IsName-from text utf8 e)) in rw no refl
name_of-is text (Some name) utf8 some = let yes : is_name text ≡ true = is_name-from text some.0 in rw yes (ap Some some.1)

abbrev pub names_with : List (List ℕ) → Option (List (List ℕ)) → Option (List (List ℕ))
names_with found names = option_map (λ ns. found ++ ns) names

all_names-cons : (text : List ℕ) (texts : List (List ℕ)) → all_names (text ∷ texts) ≡ cond (is_name text) (option_map (λ ns. text ∷ ns) (all_names texts)) None
unfolding all_names
all_names-cons text texts = by (is_name text) (list_all is_name texts)
  where
    by : (a b : Bool) → cond (a && b) (Some (text ∷ texts)) None ≡ cond a (option_map (λ ns. text ∷ ns) (cond b (Some texts) None)) None
    by true true = refl
    by true false = refl
    by false true = refl
    by false false = refl

module _ (found : List (List ℕ)) (texts : List (Bor (List ℕ))) (i : ℕ) (d : Bor (List ℕ)) where
  abbrev rest : Option (List (List ℕ))
  rest = all_names (seen (drop (i + 1) texts))

  at : (b : Bool) → i < length texts → is_name (get_or texts i d).now ≡ b
      → all_names (seen (drop i texts)) ≡ cond b (option_map (λ ns. (get_or texts i d).now ∷ ns) rest) None
  at b inside is =
      ap (λ ts. all_names (seen ts)) (drop_more texts i d inside) ∙ (all_names-cons (get_or texts i d).now (seen (drop (i + 1) texts))
      ∙ ap (λ b'. cond b' (option_map (λ ns. (get_or texts i d).now ∷ ns) rest) None) is)

  put_first : (text : List ℕ) (o : Option (List (List ℕ))) → names_with (found ++ text ∷ []) o ≡ names_with found (option_map (λ ns. text ∷ ns) o)
  put_first text (Some ns) = ap Some (append_assoc found (text ∷ []) ns)
  put_first text None = refl

  pub name_taken : (name : List ℕ) → i < length texts → Some name ≡ name_of (get_or texts i d).now
      → names_with (found ++ name ∷ []) rest ≡ names_with found (all_names (seen (drop i texts)))
  name_taken name inside is = by (is_name (get_or texts i d).now) refl
    where
      by : (b : Bool) → is_name (get_or texts i d).now ≡ b → names_with (found ++ name ∷ []) rest ≡ names_with found (all_names (seen (drop i texts)))
      by true e =
          let same : Some name ≡ Some (get_or texts i d).now = is ∙ ap (λ b. cond b (Some (get_or texts i d).now) None) e in
          let name_is : name ≡ (get_or texts i d).now = cc in
          ap (λ n. names_with (found ++ n ∷ []) rest) name_is ∙ (put_first (get_or texts i d).now rest ∙ ap (names_with found) (sym (at true inside e)))
      by false e = let never : Some name ≡ None = is ∙ ap (λ b. cond b (Some (get_or texts i d).now) None) e in cc

  pub name_refused : i < length texts → None ≡ name_of (get_or texts i d).now → names_with found (all_names (seen (drop i texts))) ≡ None
  name_refused inside is = by (is_name (get_or texts i d).now) refl
    where
      by : (b : Bool) → is_name (get_or texts i d).now ≡ b → names_with found (all_names (seen (drop i texts))) ≡ None
      by false e = ap (names_with found) (at false inside e)
      by true e = let never : None ≡ Some (get_or texts i d).now = is ∙ ap (λ b. cond b (Some (get_or texts i d).now) None) e in cc

pub all_names-none : (found : List (List ℕ)) (texts : List (Bor (List ℕ))) (i : ℕ) → length texts ≤ i → names_with found (all_names (seen (drop i texts))) ≡ Some found
unfolding all_names
all_names-none found texts i past = rw (drop_all i texts past) (ap Some (append-nil found))

pub is_true-same : (b : Bool) (text : List ℕ) → (IsTrue b ↔ (map to_ascii_lowercase text ≡ map to_ascii_lowercase (codes "true"))) → b ≡ is_true text
unfolding is_true
is_true-same true text h = sym ((bytes_eq-Decides (map to_ascii_lowercase text) (codes "true")).1 (h.0 refl))
is_true-same false text h = sym (decided _ (λ e. false≢true (h.1 ((bytes_eq-Decides (map to_ascii_lowercase text) (codes "true")).0 e))))
