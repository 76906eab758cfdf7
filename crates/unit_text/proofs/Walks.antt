-- Texts and lines that agree are those of the same parts, up to the end.
use Rattle.std.proofs.Common.{◌≡◌, ℕ, ◌==◌, false, List, [], ◌∷◌, ◌++◌, map, All, refl, sym, ap, ◌∙◌, append_assoc}
use Rattle.std.specs.List.{slice_split, join_with_byte}
use Rattle.std.specs.Str.{IsUtf8}
use Rattle.std.proofs.lemmas.List.Elements.{All-head, All-tail, All-nil, All-cons}
use Rattle.std.proofs.lemmas.List.Splits.{slice_split_at, join_with_byte-slice_split}
use Rattle.unit_model.specs.declared.unit.Unit.{Unit as Package}
use Rattle.unit_lines.specs.Parts.{IsPart, IsLineOf, part_line, part_texts}
use Rattle.unit_lines.specs.declared.part.Part.{Part}
use Rattle.unit_lines.specs.declared.part.Part.TheVariants as part
use Rattle.unit_lines.proofs.Injective.{one_part}
use Rattle.unit_lines.proofs.LineLemmas.{one_line}
use Rattle.unit_text.specs.UnitText.{IsUnit, AreTexts, body_parts, unit_lines, unit_text, text_of}
use Rattle.unit_text.proofs.Forms.{NotEnd, not_ended, in_form}
use Rattle.unit_text.proofs.Rebuilt.{same_parts}

-- The part is in its form and made of texts.
abbrev pub IsWhole : Part → Type 0
IsWhole p = IsLineOf (part_line p) p

pub whole : (ps : List Part) → All IsPart ps → All (λ p. All IsUtf8 (part_texts p)) ps → All IsWhole ps
whole [] forms texts = All-nil IsWhole
whole (p ∷ ps) forms texts =
    let T : Part → Type 0 = λ q. All IsUtf8 (part_texts q) in
    All-cons IsWhole p ps (record { form = All-head IsPart p ps forms; utf8 = All-head T p ps texts; spelling = refl })
    (whole ps (All-tail IsPart p ps forms) (All-tail T p ps texts))

pub front : {X : Type 0} (P : X → Type 0) (xs ys : List X) → All P (xs ++ ys) → All P xs
front P [] ys all = All-nil P
front P (x ∷ xs) ys all = All-cons P x xs (All-head P x (xs ++ ys) all) (front P xs ys (All-tail P x (xs ++ ys) all))

pub whole_body : (u : Package) → IsUnit u → AreTexts u → All IsWhole (body_parts u)
whole_body u is texts = whole (body_parts u) (in_form u is) (front (λ p. All IsUtf8 (part_texts p)) (body_parts u) (part.End ∷ []) texts)

pub same_line : (p q : Part) → IsWhole p → IsWhole q → part_line p ≡ part_line q → p ≡ q
same_line p q wp wq e = one_part (part_line q) p q (record { form = wp.form; utf8 = wp.utf8; spelling = e }) wq

pub end_whole : IsWhole part.End
end_whole = record { form = tt; utf8 = All-nil IsUtf8; spelling = refl }

pub same_lines : (ps qs : List Part) (r s : List (List ℕ)) → All NotEnd ps → All NotEnd qs → All IsWhole ps → All IsWhole qs
    → map part_line (ps ++ part.End ∷ []) ++ r ≡ map part_line (qs ++ part.End ∷ []) ++ s → ps ≡ qs
same_lines [] [] r s np nq wp wq e = refl
same_lines [] (q ∷ qs) r s np nq wp wq e =
    let line : part_line part.End ≡ part_line q = cc in
    absurd (All-head NotEnd q qs nq (sym (same_line part.End q end_whole (All-head IsWhole q qs wq) line)))
same_lines (p ∷ ps) [] r s np nq wp wq e =
    let line : part_line p ≡ part_line part.End = cc in
    absurd (All-head NotEnd p ps np (same_line p part.End (All-head IsWhole p ps wp) end_whole line))
same_lines (p ∷ ps) (q ∷ qs) r s np nq wp wq e =
    let line : part_line p ≡ part_line q = cc in
    let rest : map part_line (ps ++ part.End ∷ []) ++ r ≡ map part_line (qs ++ part.End ∷ []) ++ s = cc in
    let head = same_line p q (All-head IsWhole p ps wp) (All-head IsWhole q qs wq) line in
    let tail = same_lines ps qs r s (All-tail NotEnd p ps np) (All-tail NotEnd q qs nq) (All-tail IsWhole p ps wp) (All-tail IsWhole q qs wq) rest in
    λ i. head i ∷ tail i

-- Lines without LF, with LF behind each, are cut in one way.
pub cut_once : (xs ys s t : List ℕ) → All (λ b. (b == 10) ≡ false) xs → All (λ b. (b == 10) ≡ false) ys → xs ++ 10 ∷ s ≡ ys ++ 10 ∷ t → (xs ≡ ys) × (s ≡ t)
cut_once xs ys s t nx ny e =
    let cut : xs ∷ slice_split (λ b. b == 10) s ≡ ys ∷ slice_split (λ b. b == 10) t =
    sym (slice_split_at (λ b. b == 10) xs 10 s nx refl) ∙ (ap (slice_split (λ b. b == 10)) e ∙ slice_split_at (λ b. b == 10) ys 10 t ny refl) in
    let rest : slice_split (λ b. b == 10) s ≡ slice_split (λ b. b == 10) t = cc in
    (cc, sym (join_with_byte-slice_split 10 s) ∙ (ap (join_with_byte 10) rest ∙ join_with_byte-slice_split 10 t))

opened : (p : Part) (ps : List Part) (r : List ℕ) → text_of (p ∷ ps) ++ r ≡ part_line p ++ 10 ∷ (text_of ps ++ r)
opened p ps r = append_assoc (part_line p ++ 10 ∷ []) (text_of ps) r ∙ append_assoc (part_line p) (10 ∷ []) (text_of ps ++ r)

cut_parts : (p q : Part) (ps qs : List Part) (r s : List ℕ) → text_of (p ∷ ps) ++ r ≡ text_of (q ∷ qs) ++ s → (part_line p ≡ part_line q) × (text_of ps ++ r ≡ text_of qs ++ s)
cut_parts p q ps qs r s e = cut_once (part_line p) (part_line q) (text_of ps ++ r) (text_of qs ++ s) (one_line p) (one_line q) (sym (opened p ps r) ∙ (e ∙ opened q qs s))

pub same_texts : (ps qs : List Part) (r s : List ℕ) → All NotEnd ps → All NotEnd qs → All IsWhole ps → All IsWhole qs
    → text_of (ps ++ part.End ∷ []) ++ r ≡ text_of (qs ++ part.End ∷ []) ++ s → ps ≡ qs
same_texts [] [] r s np nq wp wq e = refl
same_texts [] (q ∷ qs) r s np nq wp wq e =
    let cut = cut_parts part.End q [] (qs ++ part.End ∷ []) r s e in
    absurd (All-head NotEnd q qs nq (sym (same_line part.End q end_whole (All-head IsWhole q qs wq) cut.0)))
same_texts (p ∷ ps) [] r s np nq wp wq e =
    let cut = cut_parts p part.End (ps ++ part.End ∷ []) [] r s e in
    absurd (All-head NotEnd p ps np (same_line p part.End (All-head IsWhole p ps wp) end_whole cut.0))
same_texts (p ∷ ps) (q ∷ qs) r s np nq wp wq e =
    let cut = cut_parts p q (ps ++ part.End ∷ []) (qs ++ part.End ∷ []) r s e in
    let head = same_line p q (All-head IsWhole p ps wp) (All-head IsWhole q qs wq) cut.0 in
    let tail = same_texts ps qs r s (All-tail NotEnd p ps np) (All-tail NotEnd q qs nq) (All-tail IsWhole p ps wp) (All-tail IsWhole q qs wq) cut.1 in
    λ i. head i ∷ tail i

pub one_text : (u v : Package) (r s : List ℕ) → IsUnit u → AreTexts u → IsUnit v → AreTexts v → unit_text u ++ r ≡ unit_text v ++ s → u ≡ v
one_text u v r s iu tu iv tv e = same_parts u v (same_texts (body_parts u) (body_parts v) r s (not_ended u) (not_ended v) (whole_body u iu tu) (whole_body v iv tv) e)

pub one_unit : (u v : Package) (r s : List (List ℕ)) → IsUnit u → AreTexts u → IsUnit v → AreTexts v → unit_lines u ++ r ≡ unit_lines v ++ s → u ≡ v
one_unit u v r s iu tu iv tv e = same_parts u v (same_lines (body_parts u) (body_parts v) r s (not_ended u) (not_ended v) (whole_body u iu tu) (whole_body v iv tv) e)
