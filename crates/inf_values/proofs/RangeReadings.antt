-- Each text denotes one range, or none.
use Rattle.std.proofs.Common.{◌≡◌, ◌⊎◌, inl, inr, ⊎_elim, ℕ, Bool, true, false, Option, Some, None, MatchOption, List, [], ◌∷◌, ◌++◌, refl, ap, sym, ◌∙◌, arith}
use Rattle.std.specs.List.{AllPass}
use Rattle.std.proofs.lemmas.Bool.Decides.{nat_tests}
use Rattle.std.proofs.lemmas.List.Elements.{All-head, All-tail, All-cons, All-nil}
use Rattle.osgi_version.specs.VersionText.{is_white, DenotesVersion, IsVersionText, IsVersion}
use Rattle.osgi_version.specs.RangeText.{opening, closing, IsFloorText, IsInterval, DenotesRange, IsRangeText, IsRange}
use Rattle.osgi_version.specs.Sequence.{Sequence, IsWhite, is_comma, is_opening, is_closing, IsCeilingText, IsBoundsText, IsIntervalText}
use Rattle.osgi_version.specs.declared.version.Version.{Version}
use Rattle.osgi_version.specs.declared.range.Ceiling.{Ceiling}
use Rattle.osgi_version.specs.declared.range.Range.{Range}
use Rattle.osgi_version.proofs.RangePlaces.{is_version_byte, version_bytes, either_text}
use Rattle.osgi_version.proofs.VersionPlaces.{DenotesVersion-unique, IsVersion-denoted}
use Rattle.inf_values.specs.Readings.{Reads}
use Rattle.inf_values.proofs.VersionReadings.{version_read}

abbrev Dec : Type 0 → Type 0
Dec A = A ⊎ (A → ⊥)

-- the bytes that pass, the first that doesn't, and the bytes behind it
record Cut (p : ℕ → Bool) (text : List ℕ) : Type 0 where
  pub front : List ℕ
  pub mark : ℕ
  pub rest : List ℕ
  pub spelling : text ≡ front ++ mark ∷ rest
  pub passes : AllPass p front
  pub fails : p mark ≡ false

-- All bytes pass, or the text is cut at the first that doesn't.
cut : (p : ℕ → Bool) (text : List ℕ) → (AllPass p text) ⊎ (Cut p text)
cut p [] = inl (All-nil _)
cut p (b ∷ text) = by (p b) refl (cut p text)
  where
    by : (t : Bool) → p b ≡ t → (AllPass p text) ⊎ (Cut p text) → (AllPass p (b ∷ text)) ⊎ (Cut p (b ∷ text))
    by false e behind = inr (record { front = []; mark = b; rest = text; spelling = refl; passes = All-nil _; fails = e })
    by true e (inl all) = inl (All-cons (λ x. p x ≡ true) b text e all)
    by true e (inr c) = inr (record {
      front = b ∷ c.front;
      mark = c.mark;
      rest = c.rest;
      spelling = ap (λ t. b ∷ t) c.spelling;
      passes = All-cons (λ x. p x ≡ true) b c.front e c.passes;
      fails = c.fails;
    })

-- A text is cut in one way.
cut_once : (p : ℕ → Bool) (xs ys s t : List ℕ) (a b : ℕ) → AllPass p xs → AllPass p ys → p a ≡ false → p b ≡ false → xs ++ a ∷ s ≡ ys ++ b ∷ t
    → (xs ≡ ys) × (a ≡ b) × (s ≡ t)
cut_once p [] [] s t a b px py pa pb e = (refl, cc, cc)
cut_once p [] (y ∷ ys) s t a b px py pa pb e =
    let passes : p y ≡ true = All-head (λ x. p x ≡ true) y ys py in
    let same : a ≡ y = cc in
    absurd (cc)
cut_once p (x ∷ xs) [] s t a b px py pa pb e =
    let passes : p x ≡ true = All-head (λ x. p x ≡ true) x xs px in
    let same : x ≡ b = cc in
    absurd (cc)
cut_once p (x ∷ xs) (y ∷ ys) s t a b px py pa pb e =
    let rest : xs ++ a ∷ s ≡ ys ++ b ∷ t = cc in
    let same : x ≡ y = cc in
    let more = cut_once p xs ys s t a b (All-tail (λ x. p x ≡ true) x xs px) (All-tail (λ x. p x ≡ true) y ys py) pa pb rest in
    let equal : xs ≡ ys = more.0 in
    (cc, more.1, more.2)

passes_at : (p : ℕ → Bool) (front : List ℕ) (b : ℕ) (rest : List ℕ) → AllPass p (front ++ b ∷ rest) → p b ≡ true
passes_at p [] b rest each = All-head (λ x. p x ≡ true) b rest each
passes_at p (c ∷ front) b rest each = passes_at p front b rest (All-tail (λ x. p x ≡ true) c (front ++ b ∷ rest) each)

-- Whether a text is of one kind, a mark and a text of another kind, where no text of the first kind has a mark.
module _ (First : List ℕ → Type 0) (part is_mark : ℕ → Bool) (Rest : List ℕ → Type 0) (bytes : (text : List ℕ) → First text → AllPass part text) (apart : (b : ℕ) → is_mark b ≡ true → part b ≡ false)
    (first : (text : List ℕ) → Dec (First text)) (rest : (text : List ℕ) → Dec (Rest text)) where
  uncut : (text : List ℕ) → AllPass part text → Sequence First is_mark Rest text → ⊥
  uncut text all s =
      let passes = passes_at part s.front s.mark s.rest (rw s.spelling at all) in
      let fails = apart s.mark s.marked in
      cc

  same_cut : (text : List ℕ) (c : Cut part text) (s : Sequence First is_mark Rest text) → (s.front ≡ c.front) × (s.mark ≡ c.mark) × (s.rest ≡ c.rest)
  same_cut text c s = cut_once part s.front c.front s.rest c.rest s.mark c.mark (bytes s.front s.first) c.passes (apart s.mark s.marked) c.fails (sym s.spelling ∙ c.spelling)

  parts : (text : List ℕ) (c : Cut part text) → Dec (First c.front) → (t : Bool) → is_mark c.mark ≡ t → Dec (Rest c.rest) → Dec (Sequence First is_mark Rest text)
  parts text c (inr not_so) t e r = inr (λ s. not_so (rw (same_cut text c s).0 at s.first))
  parts text c (inl f) false e r = inr (λ s. let same = (same_cut text c s).1 in let marked = s.marked in cc)
  parts text c (inl f) true e (inr not_so) = inr (λ s. not_so (rw (same_cut text c s).2 at s.behind))
  parts text c (inl f) true e (inl r) = inl (record { front = c.front; mark = c.mark; rest = c.rest; spelling = c.spelling; first = f; marked = e; behind = r })

  decide : (text : List ℕ) → Dec (Sequence First is_mark Rest text)
  decide text = elim (cut part text) [
    | inl all ↦ inr (uncut text all)
    | inr c ↦ parts text c (first c.front) (is_mark c.mark) refl (rest c.rest)
  ]

white : (text : List ℕ) → Dec (IsWhite text)
white text = elim (cut is_white text) [
  | inl all ↦ inl all
  | inr c ↦ inr (λ all. let passes = passes_at is_white c.front c.mark c.rest (rw c.spelling at all) in let fails = c.fails in cc)
]

a_version : (text : List ℕ) → Dec (IsVersionText text)
a_version text = by (version_read text).0 (version_read text).1
  where
    by : (v : Option Version) → Reads DenotesVersion text v → Dec (IsVersionText text)
    by None none = inr (λ d. none d.0 d.1)
    by (Some v) d = inl (v, d)

a_ceiling : (text : List ℕ) → Dec (IsCeilingText text)
a_ceiling = decide IsVersionText is_version_byte is_closing IsWhite version_bytes (λ b h. grind (arith, nat_tests)) a_version white

the_bounds : (text : List ℕ) → Dec (IsBoundsText text)
the_bounds = decide IsVersionText is_version_byte is_comma IsCeilingText version_bytes (λ b h. grind (arith, nat_tests)) a_version a_ceiling

an_interval : (text : List ℕ) → Dec (IsIntervalText text)
an_interval = decide IsWhite is_white is_opening IsBoundsText (λ text w. w) (λ b h. grind (arith, nat_tests)) white the_bounds

-- ---- which bracket it is

opens : (b : ℕ) → is_opening b ≡ true → (b ≡ 91) ⊎ (b ≡ 40)
opens b h = grind (arith, nat_tests)

closes : (b : ℕ) → is_closing b ≡ true → (b ≡ 93) ⊎ (b ≡ 41)
closes b h = grind (arith, nat_tests)

comma_is : (b : ℕ) → is_comma b ≡ true → b ≡ 44
comma_is b h = grind (arith, nat_tests)

opening_of : (b : ℕ) → is_opening b ≡ true → (included : Bool) × (b ≡ opening included)
opening_of b h = elim (opens b h) [ inl e ↦ (true, e) | inr e ↦ (false, e) ]

closing_of : (b : ℕ) → is_closing b ≡ true → (included : Bool) × (b ≡ closing included)
closing_of b h = elim (closes b h) [ inl e ↦ (true, e) | inr e ↦ (false, e) ]

interval_range : (text : List ℕ) → IsIntervalText text → IsRangeText text
interval_range text i =
    let b = i.behind in
    let c = b.behind in
    let opens = opening_of i.mark i.marked in
    let closes = closing_of c.mark c.marked in
    let comma : b.mark ≡ 44 = comma_is b.mark b.marked in
    let ceiling : Ceiling = record { version = c.first.0; included = closes.0 } in
    let interval : IsInterval text (record { floor = b.first.0; floor_included = opens.0; ceiling = Some ceiling }) ceiling = record {
      before = i.front;
      floor = b.front;
      ceiling = c.front;
      after = c.rest;
      spelling = rw (← opens.1, ← closes.1, ← comma, ← c.spelling, ← b.spelling) i.spelling;
      white_before = i.first;
      white_after = c.behind;
      floor_denotes = b.first.1;
      ceiling_denotes = c.first.1;
    } in
    (record { floor = b.first.0; floor_included = opens.0; ceiling = Some ceiling }, interval)

version_range : (text : List ℕ) → IsVersionText text → IsRangeText text
version_range text (v, d) = (record { floor = v; floor_included = true; ceiling = None }, record { denotes = d; included = refl })

a_range : (text : List ℕ) → Dec (IsRangeText text)
a_range text = by (a_version text) (an_interval text)
  where
    by : Dec (IsVersionText text) → Dec (IsIntervalText text) → Dec (IsRangeText text)
    by (inl v) i = inl (version_range text v)
    by (inr not_so) (inl i) = inl (interval_range text i)
    by (inr not_so) (inr none) = inr (λ r. ⊎_elim not_so none (either_text text r))

-- the range that the text denotes, where it denotes one
pub range_read : (text : List ℕ) → (r : Option Range) × Reads DenotesRange text r
range_read text = elim (a_range text) [
  | inl r ↦ (Some r.0, r.1)
  | inr not_so ↦ (None, λ r d. not_so (r, d))
]

-- ---- a text denotes one range at most

opening_plain : (included : Bool) → is_white (opening included) ≡ false
opening_plain true = refl
opening_plain false = refl

opening_bytes : (included : Bool) → is_version_byte (opening included) ≡ false
opening_bytes true = refl
opening_bytes false = refl

closing_bytes : (included : Bool) → is_version_byte (closing included) ≡ false
closing_bytes true = refl
closing_bytes false = refl

opening_one : (a b : Bool) → opening a ≡ opening b → a ≡ b
opening_one true true e = refl
opening_one true false e = absurd (omega (arith, e))
opening_one false true e = absurd (omega (arith, e))
opening_one false false e = refl

closing_one : (a b : Bool) → closing a ≡ closing b → a ≡ b
closing_one true true e = refl
closing_one true false e = absurd (omega (arith, e))
closing_one false true e = absurd (omega (arith, e))
closing_one false false e = refl

no_bracket : (text : List ℕ) (r : Range) (c : Ceiling) → IsInterval text r c → IsVersionText text → ⊥
no_bracket text r c i v =
    let passes = passes_at is_version_byte i.before (opening r.floor_included) _ (rw i.spelling at (version_bytes text v)) in
    let fails = opening_bytes r.floor_included in
    cc

-- what an interval's text spells
record SameEnds (r s : Range) (c d : Ceiling) : Type 0 where
  pub floor : r.floor ≡ s.floor
  pub floor_included : r.floor_included ≡ s.floor_included
  pub ceiling : c.version ≡ d.version
  pub ceiling_included : c.included ≡ d.included

one_interval : (text : List ℕ) (r s : Range) (c d : Ceiling) → IsInterval text r c → IsInterval text s d → SameEnds r s c d
one_interval text r s c d i j =
    let spelled = sym i.spelling ∙ j.spelling in
    let first = cut_once is_white i.before j.before _ _ _ _ i.white_before j.white_before (opening_plain r.floor_included) (opening_plain s.floor_included) spelled in
    let second = cut_once is_version_byte i.floor j.floor _ _ 44 44 (version_bytes i.floor (r.floor, i.floor_denotes)) (version_bytes j.floor (s.floor, j.floor_denotes)) refl refl first.2 in
    let third = cut_once is_version_byte i.ceiling j.ceiling _ _ _ _ (version_bytes i.ceiling (c.version, i.ceiling_denotes)) (version_bytes j.ceiling (d.version, j.ceiling_denotes))
    (closing_bytes c.included) (closing_bytes d.included) second.2 in
    record {
      floor = DenotesVersion-unique i.floor r.floor s.floor i.floor_denotes (rw second.0 j.floor_denotes);
      floor_included = opening_one r.floor_included s.floor_included first.1;
      ceiling = DenotesVersion-unique i.ceiling c.version d.version i.ceiling_denotes (rw third.0 j.ceiling_denotes);
      ceiling_included = closing_one c.included d.included third.1;
    }

one_range : (text : List ℕ) (r s : Range) (x y : Option Ceiling) → r.ceiling ≡ x → s.ceiling ≡ y
    → MatchOption x (IsFloorText text r) (IsInterval text r) → MatchOption y (IsFloorText text s) (IsInterval text s) → r ≡ s
one_range text r s None None ex ey i j =
    let floors = DenotesVersion-unique text r.floor s.floor i.denotes j.denotes in
    let included = i.included ∙ sym j.included in
    let ceilings = ex ∙ sym ey in
    λ k. record { floor = floors k; floor_included = included k; ceiling = ceilings k }
one_range text r s None (Some d) ex ey i j = absurd (no_bracket text s d j (r.floor, i.denotes))
one_range text r s (Some c) None ex ey i j = absurd (no_bracket text r c i (s.floor, j.denotes))
one_range text r s (Some c) (Some d) ex ey i j =
    let ends = one_interval text r s c d i j in
    let ceiling : c ≡ d = λ k. record { version = ends.ceiling k; included = ends.ceiling_included k } in
    let ceilings = ex ∙ (ap Some ceiling ∙ sym ey) in
    λ k. record { floor = ends.floor k; floor_included = ends.floor_included k; ceiling = ceilings k }

pub range_once : (text : List ℕ) (a b : Option Range) → Reads DenotesRange text a → Reads DenotesRange text b → a ≡ b
range_once text None None one other = refl
range_once text None (Some r) one other = absurd (one r other)
range_once text (Some r) None one other = absurd (other r one)
range_once text (Some r) (Some s) one other = ap Some (one_range text r s r.ceiling s.ceiling refl refl one other)

-- ---- what a text denotes has a text

formed_up_to : (text : List ℕ) (r : Range) (x : Option Ceiling) → MatchOption x (IsFloorText text r) (IsInterval text r)
    → IsVersion r.floor × MatchOption x (r.floor_included ≡ true) (λ c. IsVersion c.version)
formed_up_to text r None d = (IsVersion-denoted text r.floor d.denotes, d.included)
formed_up_to text r (Some c) d = (IsVersion-denoted d.floor r.floor d.floor_denotes, IsVersion-denoted d.ceiling c.version d.ceiling_denotes)

pub range_formed : (text : List ℕ) (r : Range) → DenotesRange text r → IsRange r
range_formed text r d = let formed = formed_up_to text r r.ceiling d in record { floor = formed.0; ceiling = formed.1 }
