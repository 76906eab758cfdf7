-- What a constraint stands for, as it is read.
use Rattle.std.proofs.Common.{◌≡◌, ℕ, ◌-◌, ◌<◌, arith, true, List, [], ◌∷◌, ◌++◌, length, drop, get_or, Option, Some, None, option_map, refl, sym, ap, subst, ◌∙◌, codes}
use Rattle.std.specs.Str.{IsUtf8}
use Rattle.std.proofs.lemmas.List.{get_or_default}
use Rattle.osgi_version.specs.Field.{field}
use Rattle.pb_core.specs.declared.constraint.Origin.{Origin}
use Rattle.pb_core.specs.declared.constraint.Origin.TheVariants as origin
use Rattle.pb_core.specs.declared.literal.Term.{Term}
use Rattle.deriv_check.specs.Colon.{is_no_colon, NoColon, ArePair}
use Rattle.deriv_check.specs.EvidenceForm.{IsOriginOver, label_at}
use Rattle.deriv_check.specs.EvidenceText.{origin_word, pair_word}
use Rattle.deriv_check.specs.Reading.{Reading}
use Rattle.deriv_check.proofs.Few.{all_three, all_four}
use Rattle.deriv_check.proofs.ColonLaws.{no_colon_within, cut_same}

other_heads : (a b : List ℕ) → a ≡ b → get_or a 0 0 ≡ get_or b 0 0
other_heads a b e = ap (λ l. get_or l 0 0) e

pub root_uncut : (labels : List (List ℕ)) (terms : List Term) (word : List ℕ) → NoColon word → (word ≡ codes "root" → ⊥)
    → Reading (IsOriginOver labels terms) (origin_word terms) word None
root_uncut labels [] word p other (origin.Root label) valid e = no_colon_within word (codes "root") (field label) p e
root_uncut labels (t ∷ terms) word p other (origin.Root label) valid e = other e
root_uncut labels terms word p other (origin.Need variable row) valid e = no_colon_within word (codes "need") (pair_word variable row) p e
root_uncut labels terms word p other (origin.Most variable row) valid e = no_colon_within word (codes "most") (pair_word variable row) p e
root_uncut labels terms word p other (origin.One id) valid e = no_colon_within word (codes "one") (field id) p e

-- `root` alone
pub root_of_none : (labels : List (List ℕ)) (terms : List Term) (word : List ℕ) → (length terms ≡ 1 → ⊥) → word ≡ codes "root"
    → Reading (IsOriginOver labels terms) (origin_word terms) word None
root_of_none labels [] word many is (origin.Root label) valid e =
    let long : 4 ≡ length (codes "root:" ++ field label) = ap length (sym is ∙ e) in omega (arith, long)
root_of_none labels (t ∷ []) word many is (origin.Root label) valid e = many refl
root_of_none labels (t ∷ u ∷ terms) word many is (origin.Root label) valid e = valid.0
root_of_none labels terms word many is (origin.Need variable row) valid e = let h : 114 ≡ 110 = other_heads _ _ (sym is ∙ e) in omega (arith, h)
root_of_none labels terms word many is (origin.Most variable row) valid e = let h : 114 ≡ 109 = other_heads _ _ (sym is ∙ e) in omega (arith, h)
root_of_none labels terms word many is (origin.One id) valid e = let h : 114 ≡ 111 = other_heads _ _ (sym is ∙ e) in omega (arith, h)

root_only : (labels : List (List ℕ)) (t : Term) (word label : List ℕ) → word ≡ codes "root" → label ≡ label_at labels t.lit.variable
    → (x : Origin) → IsOriginOver labels (t ∷ []) x → word ≡ origin_word (t ∷ []) x → x ≡ origin.Root label
root_only labels t word label is same (origin.Root other) valid e = ap origin.Root (valid.0 ∙ sym same)
root_only labels t word label is same (origin.Need variable row) valid e = let h : 114 ≡ 110 = other_heads _ _ (sym is ∙ e) in absurd (omega (arith, h))
root_only labels t word label is same (origin.Most variable row) valid e = let h : 114 ≡ 109 = other_heads _ _ (sym is ∙ e) in absurd (omega (arith, h))
root_only labels t word label is same (origin.One id) valid e = let h : 114 ≡ 111 = other_heads _ _ (sym is ∙ e) in absurd (omega (arith, h))

pub root_of_one : (labels : List (List ℕ)) (terms : List Term) (t : Term) (word label : List ℕ) → terms ≡ t ∷ [] → word ≡ codes "root" → label ≡ label_at labels t.lit.variable → IsUtf8 label
    → Reading (IsOriginOver labels terms) (origin_word terms) word (Some (origin.Root label))
root_of_one labels terms t word label one is same utf8 =
    subst (λ (ts : List Term). Reading (IsOriginOver labels ts) (origin_word ts) word (Some (origin.Root label))) (sym one)
    ((same, utf8), is, root_only labels t word label is same)

one_term : (terms : List Term) (d : Term) → length terms ≡ 1 → terms ≡ get_or terms 0 d ∷ []
one_term [] d n = absurd (omega arith)
one_term (t ∷ []) d n = refl
one_term (t ∷ u ∷ terms) d n = absurd (omega arith)

pub root_of_label : (labels : List (List ℕ)) (terms : List Term) (d : Term) (word label : List ℕ) → length terms ≡ 1 → word ≡ codes "root"
    → label ≡ get_or labels ((get_or terms 0 d).lit.variable - 1) label → (get_or terms 0 d).lit.variable - 1 < length labels → IsUtf8 label
    → Reading (IsOriginOver labels terms) (origin_word terms) word (Some (origin.Root label))
root_of_label labels terms d word label n is at within utf8 =
    root_of_one labels terms (get_or terms 0 d) word label (one_term terms d n) is (at ∙ get_or_default labels _ label [] within) utf8

-- `root:LABEL`
root_rest : (labels : List (List ℕ)) (rest : List ℕ) (x : Origin) → IsOriginOver labels [] x → codes "root" ++ 58 ∷ rest ≡ origin_word [] x
    → (label : List ℕ) × IsUtf8 label × (rest ≡ field label) × (x ≡ origin.Root label)
root_rest labels rest (origin.Root label) valid e = (label, valid.1, ap (drop 5) e, refl)
root_rest labels rest (origin.Need variable row) valid e = let h : 114 ≡ 110 = other_heads _ _ e in absurd (omega (arith, h))
root_rest labels rest (origin.Most variable row) valid e = let h : 114 ≡ 109 = other_heads _ _ e in absurd (omega (arith, h))
root_rest labels rest (origin.One id) valid e = let h : 114 ≡ 111 = other_heads _ _ e in absurd (omega (arith, h))

root_cut : (labels : List (List ℕ)) (rest : List ℕ) (found : Option (List ℕ)) → Reading IsUtf8 field rest found
    → Reading (IsOriginOver labels []) (origin_word []) (codes "root" ++ 58 ∷ rest) (option_map origin.Root found)
root_cut labels rest None r = λ x valid e. let parts = root_rest labels rest x valid e in r parts.0 parts.1 parts.2
root_cut labels rest (Some y) r = (
  (tt, r.0),
  ap (λ l. codes "root" ++ 58 ∷ l) r.1,
  λ x valid e.
      let parts = root_rest labels rest x valid e in parts.3 ∙ ap origin.Root (r.2 parts.0 parts.1 parts.2),
)

-- the other kinds
one_rest : (labels : List (List ℕ)) (terms : List Term) (rest : List ℕ) (x : Origin) → IsOriginOver labels terms x → codes "one" ++ 58 ∷ rest ≡ origin_word terms x
    → (id : List ℕ) × IsUtf8 id × (rest ≡ field id) × (x ≡ origin.One id)
one_rest labels [] rest (origin.Root label) valid e = let h : 111 ≡ 114 = other_heads _ _ e in absurd (omega (arith, h))
one_rest labels (t ∷ terms) rest (origin.Root label) valid e = let h : 111 ≡ 114 = other_heads _ _ e in absurd (omega (arith, h))
one_rest labels terms rest (origin.Need variable row) valid e = let h : 111 ≡ 110 = other_heads _ _ e in absurd (omega (arith, h))
one_rest labels terms rest (origin.Most variable row) valid e = let h : 111 ≡ 109 = other_heads _ _ e in absurd (omega (arith, h))
one_rest labels terms rest (origin.One id) valid e = (id, valid.1, ap (drop 4) e, refl)

one_cut : (labels : List (List ℕ)) (terms : List Term) (rest : List ℕ) (found : Option (List ℕ)) → Reading IsUtf8 field rest found
    → Reading (IsOriginOver labels terms) (origin_word terms) (codes "one" ++ 58 ∷ rest) (option_map origin.One found)
one_cut labels terms rest None r = λ x valid e. let parts = one_rest labels terms rest x valid e in r parts.0 parts.1 parts.2
one_cut labels terms rest (Some y) r = (
  (tt, r.0),
  ap (λ l. codes "one" ++ 58 ∷ l) r.1,
  λ x valid e.
      let parts = one_rest labels terms rest x valid e in parts.3 ∙ ap origin.One (r.2 parts.0 parts.1 parts.2),
)

abbrev pub need : ℕ × ℕ → Origin
need p = origin.Need p.0 p.1

abbrev pub most : ℕ × ℕ → Origin
most p = origin.Most p.0 p.1

abbrev written : ℕ × ℕ → List ℕ
written p = pair_word p.0 p.1

need_rest : (labels : List (List ℕ)) (terms : List Term) (rest : List ℕ) (x : Origin) → IsOriginOver labels terms x → codes "need" ++ 58 ∷ rest ≡ origin_word terms x
    → (p : ℕ × ℕ) × ArePair p × (rest ≡ written p) × (x ≡ need p)
need_rest labels [] rest (origin.Root label) valid e = let h : 110 ≡ 114 = other_heads _ _ e in absurd (omega (arith, h))
need_rest labels (t ∷ terms) rest (origin.Root label) valid e = let h : 110 ≡ 114 = other_heads _ _ e in absurd (omega (arith, h))
need_rest labels terms rest (origin.Need variable row) valid e = ((variable, row), valid.1, ap (drop 5) e, refl)
need_rest labels terms rest (origin.Most variable row) valid e = let h : 110 ≡ 109 = other_heads _ _ e in absurd (omega (arith, h))
need_rest labels terms rest (origin.One id) valid e = let h : 110 ≡ 111 = other_heads _ _ e in absurd (omega (arith, h))

need_cut : (labels : List (List ℕ)) (terms : List Term) (rest : List ℕ) (found : Option (ℕ × ℕ)) → Reading ArePair written rest found
    → Reading (IsOriginOver labels terms) (origin_word terms) (codes "need" ++ 58 ∷ rest) (option_map need found)
need_cut labels terms rest None r = λ x valid e. let parts = need_rest labels terms rest x valid e in r parts.0 parts.1 parts.2
need_cut labels terms rest (Some y) r = (
  (tt, r.0),
  ap (λ l. codes "need" ++ 58 ∷ l) r.1,
  λ x valid e.
      let parts = need_rest labels terms rest x valid e in parts.3 ∙ ap need (r.2 parts.0 parts.1 parts.2),
)

most_rest : (labels : List (List ℕ)) (terms : List Term) (rest : List ℕ) (x : Origin) → IsOriginOver labels terms x → codes "most" ++ 58 ∷ rest ≡ origin_word terms x
    → (p : ℕ × ℕ) × ArePair p × (rest ≡ written p) × (x ≡ most p)
most_rest labels [] rest (origin.Root label) valid e = let h : 109 ≡ 114 = other_heads _ _ e in absurd (omega (arith, h))
most_rest labels (t ∷ terms) rest (origin.Root label) valid e = let h : 109 ≡ 114 = other_heads _ _ e in absurd (omega (arith, h))
most_rest labels terms rest (origin.Need variable row) valid e = let h : 109 ≡ 110 = other_heads _ _ e in absurd (omega (arith, h))
most_rest labels terms rest (origin.Most variable row) valid e = ((variable, row), valid.1, ap (drop 5) e, refl)
most_rest labels terms rest (origin.One id) valid e = let h : 109 ≡ 111 = other_heads _ _ e in absurd (omega (arith, h))

most_cut : (labels : List (List ℕ)) (terms : List Term) (rest : List ℕ) (found : Option (ℕ × ℕ)) → Reading ArePair written rest found
    → Reading (IsOriginOver labels terms) (origin_word terms) (codes "most" ++ 58 ∷ rest) (option_map most found)
most_cut labels terms rest None r = λ x valid e. let parts = most_rest labels terms rest x valid e in r parts.0 parts.1 parts.2
most_cut labels terms rest (Some y) r = (
  (tt, r.0),
  ap (λ l. codes "most" ++ 58 ∷ l) r.1,
  λ x valid e.
      let parts = most_rest labels terms rest x valid e in parts.3 ∙ ap most (r.2 parts.0 parts.1 parts.2),
)

-- the same of a word that was cut
pub root_read : (labels : List (List ℕ)) (terms : List Term) (word kind rest : List ℕ) (found : Option (List ℕ)) → terms ≡ [] → word ≡ kind ++ 58 ∷ rest → kind ≡ codes "root"
    → Reading IsUtf8 field rest found → Reading (IsOriginOver labels terms) (origin_word terms) word (option_map origin.Root found)
root_read labels terms word kind rest found none is same r =
    subst (λ (ts : List Term). Reading (IsOriginOver labels ts) (origin_word ts) word (option_map origin.Root found)) (sym none)
    (subst (λ (w : List ℕ). Reading (IsOriginOver labels []) (origin_word []) w (option_map origin.Root found)) (sym (is ∙ ap (λ k. k ++ 58 ∷ rest) same)) (root_cut labels rest found r))

pub one_read : (labels : List (List ℕ)) (terms : List Term) (word kind rest : List ℕ) (found : Option (List ℕ)) → word ≡ kind ++ 58 ∷ rest → kind ≡ codes "one"
    → Reading IsUtf8 field rest found → Reading (IsOriginOver labels terms) (origin_word terms) word (option_map origin.One found)
one_read labels terms word kind rest found is same r =
    subst (λ (w : List ℕ). Reading (IsOriginOver labels terms) (origin_word terms) w (option_map origin.One found)) (sym (is ∙ ap (λ k. k ++ 58 ∷ rest) same)) (one_cut labels terms rest found r)

pub need_read : (labels : List (List ℕ)) (terms : List Term) (word kind rest : List ℕ) (found : Option (ℕ × ℕ)) → word ≡ kind ++ 58 ∷ rest → kind ≡ codes "need"
    → Reading ArePair (λ p. pair_word p.0 p.1) rest found → Reading (IsOriginOver labels terms) (origin_word terms) word (option_map need found)
need_read labels terms word kind rest found is same r =
    subst (λ (w : List ℕ). Reading (IsOriginOver labels terms) (origin_word terms) w (option_map need found)) (sym (is ∙ ap (λ k. k ++ 58 ∷ rest) same)) (need_cut labels terms rest found r)

pub most_read : (labels : List (List ℕ)) (terms : List Term) (word kind rest : List ℕ) (found : Option (ℕ × ℕ)) → word ≡ kind ++ 58 ∷ rest → kind ≡ codes "most"
    → Reading ArePair (λ p. pair_word p.0 p.1) rest found → Reading (IsOriginOver labels terms) (origin_word terms) word (option_map most found)
most_read labels terms word kind rest found is same r =
    subst (λ (w : List ℕ). Reading (IsOriginOver labels terms) (origin_word terms) w (option_map most found)) (sym (is ∙ ap (λ k. k ++ 58 ∷ rest) same)) (most_cut labels terms rest found r)

plain_root : NoColon (codes "root")
plain_root = all_four (λ b. is_no_colon b ≡ true) 114 111 111 116 refl refl refl refl

plain_need : NoColon (codes "need")
plain_need = all_four (λ b. is_no_colon b ≡ true) 110 101 101 100 refl refl refl refl

plain_most : NoColon (codes "most")
plain_most = all_four (λ b. is_no_colon b ≡ true) 109 111 115 116 refl refl refl refl

plain_one : NoColon (codes "one")
plain_one = all_three (λ b. is_no_colon b ≡ true) 111 110 101 refl refl refl

-- any other word
pub other_read : (labels : List (List ℕ)) (terms : List Term) (word kind rest : List ℕ) → NoColon kind → word ≡ kind ++ 58 ∷ rest
    → (kind ≡ codes "root" → terms ≡ [] → ⊥) → (kind ≡ codes "one" → ⊥) → (kind ≡ codes "need" → ⊥) → (kind ≡ codes "most" → ⊥)
    → Reading (IsOriginOver labels terms) (origin_word terms) word None
other_read labels [] word kind rest p is root one need most (origin.Root label) valid e =
    root (cut_same kind (codes "root") rest (field label) p plain_root (sym is ∙ e)).0 refl
other_read labels (t ∷ terms) word kind rest p is root one need most (origin.Root label) valid e =
    no_colon_within (codes "root") kind rest plain_root (sym e ∙ is)
other_read labels terms word kind rest p is root one need most (origin.Need variable row) valid e =
    need (cut_same kind (codes "need") rest (pair_word variable row) p plain_need (sym is ∙ e)).0
other_read labels terms word kind rest p is root one need most (origin.Most variable row) valid e =
    most (cut_same kind (codes "most") rest (pair_word variable row) p plain_most (sym is ∙ e)).0
other_read labels terms word kind rest p is root one need most (origin.One id) valid e =
    one (cut_same kind (codes "one") rest (field id) p plain_one (sym is ∙ e)).0
