-- A line of a derivation, as it is read.
use Rattle.std.proofs.Common.{◌≡◌, Some, None, ℕ, ◌+◌, ◌<◌, ◌≤◌, nat_lt, arith, suc, Bool, true, false, List, [], ◌∷◌, ◌++◌, length, map, take, drop, get_or, refl, sym, ap, subst, ◌∙◌, All, Bor, codes}
use Rattle.std.specs.Fmt.{decimal}
use Rattle.std.proofs.lemmas.Bool.Decides.{nat_tests}
use Rattle.std.proofs.lemmas.List.{take_at, drop_at, length-map, length-append, get_or_at, get_or_append_left, get_or-map, get_or-take, drop-map, take-append-drop, drop_more}
use Rattle.std.proofs.lemmas.List.Elements.{All-get_or, All-head}
use Rattle.pb_core.specs.declared.literal.Lit.{Lit}
use Rattle.deriv_check.specs.EvidenceForm.{IsLine, IsLiteral, IsHint}
use Rattle.deriv_check.specs.EvidenceText.{lit_word}
use Rattle.deriv_check.specs.Reading.{IsFront, Reading, seen}
use Rattle.deriv_check.specs.Terms.{derived_parts}
use Rattle.deriv_check.specs.declared.derivation.Line.{Line}
use Rattle.deriv_check.proofs.ReadingLaws.{front_short, front_whole, length-seen, seen-at, no_word}
use Rattle.deriv_check.proofs.WordLaws.{decimal_digits}

not_mark : (l : Lit) → IsLiteral l → lit_word l ≡ codes ";" → ⊥
not_mark l h e = by l.positive refl
  where
    by : (t : Bool) → l.positive ≡ t → ⊥
    by true p =
        let word : decimal l.variable ≡ codes ";" = rw p at e in
        let first : (48 ≤ 59) × (59 ≤ 57) = All-head (λ b. (48 ≤ b) × (b ≤ 57)) 59 [] (subst (All (λ b. (48 ≤ b) × (b ≤ 57))) word (decimal_digits l.variable (omega arith))) in
        omega (arith, first.1)
    by false p =
        let word : 45 ∷ decimal l.variable ≡ codes ";" = rw p at e in
        let same : 45 ≡ 59 = ap (λ w. get_or w 0 0) word in
        omega (arith, same)

-- how the words of a line are cut at `;`
pub record IsCut (words : List (List ℕ)) (clause : List Lit) (x : Line) : Type 0 where
  pub same : x.clause ≡ clause
  pub within : length clause < length words
  pub mark : (d : List ℕ) → get_or words (length clause) d ≡ codes ";"
  pub hints : drop (length clause + 1) words ≡ map decimal x.hints

cut_of : (words : List (List ℕ)) (clause : List Lit) (x : Line) → x.clause ≡ clause → words ≡ derived_parts x → IsCut words clause x
cut_of words clause x same e =
    let front = map lit_word clause in
    let n : length front ≡ length clause = length-map clause lit_word in
    let whole : words ≡ front ++ codes ";" ∷ map decimal x.hints = e ∙ ap (λ (ls : List Lit). map lit_word ls ++ codes ";" ∷ map decimal x.hints) same in
    let long : length words ≡ length front + suc (length (map decimal x.hints)) = ap length whole ∙ length-append front (codes ";" ∷ map decimal x.hints) in
    record {
      same = same;
      within = omega (arith, n, long);
      mark = λ d. ap (λ (l : List (List ℕ)). get_or l (length clause) d) whole ∙ get_or_at front (codes ";") (map decimal x.hints) d (length clause) n;
      hints =
          let more : drop (length clause) words ≡ get_or words (length clause) [] ∷ drop (length clause + 1) words = drop_more words (length clause) [] (omega (arith, n, long)) in
          let there : drop (length clause) words ≡ codes ";" ∷ map decimal x.hints = ap (drop (length clause)) whole ∙ drop_at front (codes ";" ∷ map decimal x.hints) (length clause) n in
          let both : get_or words (length clause) [] ∷ drop (length clause + 1) words ≡ codes ";" ∷ map decimal x.hints = sym more ∙ there in
          cc;
    }

pub derived_cut : (words : List (List ℕ)) (clause : List Lit) (x : Line) → IsFront IsLiteral lit_word words clause → IsLine x → words ≡ derived_parts x → IsCut words clause x
derived_cut words clause x front valid e = by (nat_lt (length clause) (length x.clause)) (nat_lt (length x.clause) (length clause)) refl refl
  where
    filler : Lit
    filler = record { variable = 0; positive = true }

    n : length (map lit_word x.clause) ≡ length x.clause
    n = length-map x.clause lit_word

    whole : length words ≡ length (map lit_word x.clause) + suc (length (map decimal x.hints))
    whole = ap length e ∙ length-append (map lit_word x.clause) (codes ";" ∷ map decimal x.hints)

    by : (s t : Bool) → nat_lt (length clause) (length x.clause) ≡ s → nat_lt (length x.clause) (length clause) ≡ t → IsCut words clause x
    by true t f g =
        let lt : length clause < length x.clause = grind (arith, nat_tests) in
        let at : get_or words (length clause) [] ≡ lit_word (get_or x.clause (length clause) filler) =
        ap (λ (l : List (List ℕ)). get_or l (length clause) []) e
        ∙ get_or_append_left (map lit_word x.clause) (codes ";" ∷ map decimal x.hints) [] (length clause) (omega (arith, n, lt))
        ∙ get_or-map lit_word x.clause (length clause) filler [] lt in
        absurd (front.stops (omega (arith, whole, n, lt)) (get_or x.clause (length clause) filler) [] (All-get_or IsLiteral x.clause (length clause) filler lt valid.clause) at)
    by false true f g =
        let lt : length x.clause < length clause = grind (arith, nat_tests) in
        let mark : get_or words (length x.clause) [] ≡ codes ";" =
        ap (λ (l : List (List ℕ)). get_or l (length x.clause) []) e ∙ get_or_at (map lit_word x.clause) (codes ";") (map decimal x.hints) [] (length x.clause) n in
        let word : get_or words (length x.clause) [] ≡ lit_word (get_or clause (length x.clause) filler) =
        sym (get_or-take (length clause) words (length x.clause) [] lt) ∙ ap (λ (l : List (List ℕ)). get_or l (length x.clause) []) front.spelled
        ∙ get_or-map lit_word clause (length x.clause) filler [] lt in
        absurd (not_mark (get_or clause (length x.clause) filler) (All-get_or IsLiteral clause (length x.clause) filler lt front.valid) (sym word ∙ mark))
    by false false f g =
        let same : length x.clause ≡ length clause = grind (arith, nat_tests) in
        let words_same : map lit_word x.clause ≡ map lit_word clause =
        sym (ap (take (length clause)) e ∙ take_at (map lit_word x.clause) (codes ";" ∷ map decimal x.hints) (length clause) (n ∙ same)) ∙ front.spelled in
        cut_of words clause x (front.only x.clause valid.clause words_same) e

pub no_mark : (words : List (Bor (List ℕ))) (clause : List Lit) → IsFront IsLiteral lit_word (seen words) clause → length words ≤ length clause
    → Reading IsLine derived_parts (seen words) None
no_mark words clause front h = λ x valid e.
    let cut = derived_cut (seen words) clause x front valid e in omega (arith, cut.within, length-seen words)

pub other_mark : (words : List (Bor (List ℕ))) (clause : List Lit) → IsFront IsLiteral lit_word (seen words) clause → length clause < length words
    → ((get_or words (length clause) no_word).now ≡ codes ";" → ⊥) → Reading IsLine derived_parts (seen words) None
other_mark words clause front h other = λ x valid e.
    let cut = derived_cut (seen words) clause x front valid e in
    other (sym (seen-at words (length clause) no_word h []) ∙ cut.mark [])

behind : (words : List (Bor (List ℕ))) (k : ℕ) → seen (drop k words) ≡ drop k (seen words)
behind words k = sym (drop-map (λ (s : Bor (List ℕ)). s.now) k words)

pub no_hints : (words : List (Bor (List ℕ))) (clause : List Lit) (hints : List ℕ) → IsFront IsLiteral lit_word (seen words) clause
    → IsFront IsHint decimal (seen (drop (length clause + 1) words)) hints → length hints < length (drop (length clause + 1) words)
    → Reading IsLine derived_parts (seen words) None
no_hints words clause hints front second h = λ x valid e.
    let cut = derived_cut (seen words) clause x front valid e in
    front_short IsHint decimal (drop (length clause + 1) words) hints second h x.hints valid.hints (behind words (length clause + 1) ∙ cut.hints)

pub derived_found : (words : List (Bor (List ℕ))) (clause : List Lit) (hints : List ℕ) → IsFront IsLiteral lit_word (seen words) clause → length clause < length words
    → (get_or words (length clause) no_word).now ≡ codes ";"
    → IsFront IsHint decimal (seen (drop (length clause + 1) words)) hints → length (drop (length clause + 1) words) ≤ length hints
    → Reading IsLine derived_parts (seen words) (Some (record { clause = clause; hints = hints }))
derived_found words clause hints front lt mark second h =
    let n = length clause in
    let rest = front_whole IsHint decimal (drop (n + 1) words) hints second h in
    let more : drop n (seen words) ≡ get_or (seen words) n [] ∷ drop (n + 1) (seen words) = drop_more (seen words) n [] (omega (arith, lt, length-seen words)) in
    let whole : seen words ≡ map lit_word clause ++ codes ";" ∷ map decimal hints =
    sym (take-append-drop n (seen words)) ∙ (λ i. front.spelled i ++ more i)
    ∙ ap (λ (w : List ℕ). map lit_word clause ++ w ∷ drop (n + 1) (seen words)) (seen-at words n no_word lt [] ∙ mark)
    ∙ ap (λ (l : List (List ℕ)). map lit_word clause ++ codes ";" ∷ l) (sym (behind words (n + 1)) ∙ rest) in (
      record { clause = front.valid; hints = second.valid },
      whole,
      λ x valid e.
          let cut = derived_cut (seen words) clause x front valid e in
          let same : x.hints ≡ hints = second.only x.hints valid.hints (sym cut.hints ∙ sym (behind words (n + 1)) ∙ rest) in
          λ i. record { clause = cut.same i; hints = same i },
    )
