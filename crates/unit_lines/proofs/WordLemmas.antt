-- Words, texts and lines against the parts that they make.
use Rattle.std.proofs.Common.{◌≡◌, ◌≢◌, ℕ, zero, suc, ◌+◌, ◌<◌, ◌≤◌, Bool, true, false, List, [], ◌∷◌, ◌++◌, ◌==◌, length, get_or, take, drop, map, All, Option, Some, None, MatchOption, Result, Ok, Err, IfOk, Bor, refl, sym, ap, ◌∙◌, subst, arith}
use Rattle.std.specs.List.{slice_split, AllByRecursion}
use Rattle.std.specs.Str.{IsUtf8, bytes_eq}
use Rattle.std.proofs.lemmas.Slice.Eq.{bytes_eq-Decides}
use Rattle.std.proofs.lemmas.List.{map-append, take_more, take_all}
use Rattle.std.proofs.lemmas.List.Elements.{All-head, All-tail, All-push}
use Rattle.case_table.specs.Rows.{beside}
use Rattle.osgi_version.specs.Field.{field, IsNoField, IsFieldOf}
use Rattle.unit_lines.specs.Line.{seen, behind_blanks}
use Rattle.unit_lines.specs.Words.{word_of, kinds}
use Rattle.unit_lines.specs.Parts.{IsLineOf, part_texts, kind_of}
use Rattle.unit_lines.specs.Reading.{IsReading, IsPartOf, IsWorded, IsNoPart}
use Rattle.unit_lines.specs.declared.words.Kind.{Kind}
use Rattle.unit_lines.specs.declared.part.Part.{Part}
use Rattle.unit_lines.proofs.Injective.{texts_once, kind_there}
use Rattle.unit_lines.proofs.LineLemmas.{split_part, line_split}

pub differ : (xs ys : List ℕ) → false ≡ bytes_eq xs ys → xs ≢ ys
differ xs ys test same = let yes = (bytes_eq-Decides xs ys).1 same in absurd (cc)

-- what stands beside a name has this name
beside_named : {V : Type 0} (name : V → List ℕ) (rows : List (List ℕ × V)) → AllByRecursion (λ row. name row.1 ≡ row.0) rows → (text : List ℕ) (v : V) → Some v ≡ beside rows text → name v ≡ text
beside_named name [] each text v e = absurd (cc)
beside_named {V} name (row ∷ rows) each text v e = by (bytes_eq text row.0) refl (λ other. beside_named name rows each.1 text v other) e
  where
    by : (t : Bool) → bytes_eq text row.0 ≡ t → (Some v ≡ beside rows text → name v ≡ text) → Some v ≡ beside (row ∷ rows) text → name v ≡ text
    by true test rest found =
        let same : text ≡ row.0 = (bytes_eq-Decides text row.0).0 test in
        let first : Some v ≡ Some row.1 = rw test at found in
        let is : v ≡ row.1 = cc in
        ap name is ∙ (each.0 ∙ sym same)
    by false test rest found = rest (rw test at found)

pub kind_named : (word : List ℕ) (k : Kind) → Some k ≡ beside kinds word → word_of k ≡ word
kind_named word k e = beside_named word_of kinds (refl, (refl, (refl, (refl, (refl, (refl, (refl, (refl, (refl, (refl, (refl, tt))))))))))) word k e

-- a word is that of one kind
pub kind_once : (word : List ℕ) (j k : Kind) → word_of j ≡ word → Some k ≡ beside kinds word → j ≡ k
kind_once word j k is found =
    let there : Some j ≡ Some k = sym (kind_there j) ∙ (ap (beside kinds) is ∙ sym found) in cc

pub no_kind : (word : List ℕ) (fields : List (List ℕ)) → None ≡ beside kinds word → IsNoPart word fields
no_kind word fields none part worded =
    let there : Some (kind_of part) ≡ None = sym (kind_there (kind_of part)) ∙ (ap (beside kinds) worded.worded ∙ sym none) in absurd (cc)

-- no texts have these fields
pub no_texts : (xs : List (List ℕ)) (fields : List (Bor (List ℕ))) (i : ℕ) (d : Bor (List ℕ)) → i < length fields → IsNoField ((get_or fields i d).now) → All IsUtf8 xs → map field xs ≢ seen fields
no_texts xs [] i d inside none utf8 e = absurd (omega arith)
no_texts [] (f ∷ fields) i d inside none utf8 e = absurd (cc)
no_texts (x ∷ xs) (f ∷ fields) zero d inside none utf8 e = let head : field x ≡ f.now = cc in none x (All-head IsUtf8 x xs utf8) head
no_texts (x ∷ xs) (f ∷ fields) (suc i) d inside none utf8 e =
    let tail : map field xs ≡ seen fields = cc in no_texts xs fields i d (omega arith) none (All-tail IsUtf8 x xs utf8) tail

pub texts_more : (texts new : List (List ℕ)) (text : List ℕ) (fields : List (Bor (List ℕ))) (i : ℕ) (d : Bor (List ℕ)) → i < length fields → new ≡ texts ++ text ∷ [] → IsFieldOf ((get_or fields i d).now) text
    → All IsUtf8 texts × (map field texts ≡ seen (take i fields)) → All IsUtf8 new × (map field new ≡ seen (take (i + 1) fields))
texts_more texts new text fields i d inside put is so_far = (
  subst (All IsUtf8) (sym put) (All-push IsUtf8 texts text so_far.0 is.utf8),
  ap (map field) put
      ∙ (map-append field texts (text ∷ [])
      ∙ ((λ j. so_far.1 j ++ is.spelling j ∷ [])
      ∙ (sym (map-append (λ s. s.now) (take i fields) (get_or fields i d ∷ [])) ∙ ap seen (sym (take_more fields i d inside))))),
)

-- the pieces of a line that has some
pub seen_cut : (pieces : List (Bor (List ℕ))) (d : Bor (List ℕ)) (n : ℕ) → 1 ≤ length pieces → length pieces ≤ n + 1
    → seen pieces ≡ (get_or pieces 0 d).now ∷ seen (take n (drop 1 pieces))
seen_cut [] d n some all = absurd (omega arith)
seen_cut (piece ∷ pieces) d n some all = ap (λ ps. piece.now ∷ seen ps) (sym (take_all n pieces (omega arith)))

-- a list of seven is made of its items
pub seven : (xs : List (List ℕ)) (a b c e f g h : List ℕ) → 7 ≤ length xs → length xs < 8
    → a ≡ get_or xs 0 a → b ≡ get_or xs 1 b → c ≡ get_or xs 2 c → e ≡ get_or xs 3 e → f ≡ get_or xs 4 f → g ≡ get_or xs 5 g → h ≡ get_or xs 6 h
    → a ∷ b ∷ c ∷ e ∷ f ∷ g ∷ h ∷ [] ≡ xs
seven [] a b c e f g h least most p q r s t u v = absurd (omega arith)
seven (x1 ∷ []) a b c e f g h least most p q r s t u v = absurd (omega arith)
seven (x1 ∷ x2 ∷ []) a b c e f g h least most p q r s t u v = absurd (omega arith)
seven (x1 ∷ x2 ∷ x3 ∷ []) a b c e f g h least most p q r s t u v = absurd (omega arith)
seven (x1 ∷ x2 ∷ x3 ∷ x4 ∷ []) a b c e f g h least most p q r s t u v = absurd (omega arith)
seven (x1 ∷ x2 ∷ x3 ∷ x4 ∷ x5 ∷ []) a b c e f g h least most p q r s t u v = absurd (omega arith)
seven (x1 ∷ x2 ∷ x3 ∷ x4 ∷ x5 ∷ x6 ∷ []) a b c e f g h least most p q r s t u v = absurd (omega arith)
seven (x1 ∷ x2 ∷ x3 ∷ x4 ∷ x5 ∷ x6 ∷ x7 ∷ []) a b c e f g h least most p q r s t u v = λ i. p i ∷ q i ∷ r i ∷ s i ∷ t i ∷ u i ∷ v i ∷ []
seven (x1 ∷ x2 ∷ x3 ∷ x4 ∷ x5 ∷ x6 ∷ x7 ∷ x8 ∷ xs) a b c e f g h least most p q r s t u v = absurd (omega arith)

pub no_part : (word : List ℕ) (fields : List (List ℕ)) → ((xs : List (List ℕ)) → All IsUtf8 xs → map field xs ≢ fields) → IsNoPart word fields
no_part word fields none part worded = none (part_texts part) worded.utf8 worded.spelled

module _ {E : Type 0} (word : List ℕ) (fields : List (List ℕ)) (kind : Kind) (texts : List (List ℕ)) (named : Some kind ≡ beside kinds word) (utf8 : All IsUtf8 texts) (spelled : map field texts ≡ fields) where
  -- What is read of texts, said of their fields.
  pub worded_reads : (r : Result (Option Part) E) → IfOk r (IsReading (IsPartOf kind) part_texts texts) → IfOk r (λ part. MatchOption part (IsNoPart word fields) (IsWorded word fields))
  worded_reads (Err e) reads = tt
  worded_reads (Ok None) reads = λ part worded.
      let same : part_texts part ≡ texts = texts_once (part_texts part) texts worded.utf8 utf8 (worded.spelled ∙ sym spelled) in
      reads part (record { is = kind_once word (kind_of part) kind worded.worded named; form = worded.form }) same
  worded_reads (Ok (Some part)) reads = record {
    form = reads.0.form;
    utf8 = subst (All IsUtf8) (sym reads.1) utf8;
    worded = ap word_of reads.0.is ∙ kind_named word kind named;
    spelled = ap (map field) reads.1 ∙ spelled;
  }

module _ {E : Type 0} (line word : List ℕ) (fields : List (List ℕ)) (cut : slice_split (λ b. b == 32) line ≡ word ∷ fields) where
  -- The same, said of the line.
  pub line_reads : (r : Result (Option Part) E) → IfOk r (λ part. MatchOption part (IsNoPart word fields) (IsWorded word fields)) → IfOk r (λ part. MatchOption part ((p : Part) → ¬ (IsLineOf line p)) (IsLineOf line))
  line_reads (Err e) reads = tt
  line_reads (Ok None) reads = λ part is.
      let parts : word_of (kind_of part) ∷ map field (part_texts part) ≡ word ∷ fields = sym (split_part part) ∙ (ap (slice_split (λ b. b == 32)) is.spelling ∙ cut) in
      let first : word_of (kind_of part) ≡ word = cc in
      let rest : map field (part_texts part) ≡ fields = cc in
      reads part (record { form = is.form; utf8 = is.utf8; worded = first; spelled = rest })
  line_reads (Ok (Some part)) reads = record {
    form = reads.form;
    utf8 = reads.utf8;
    spelling = (λ i. reads.worded i ++ behind_blanks (reads.spelled i)) ∙ line_split line word fields cut;
  }
