-- What a range's text denotes.
use Rattle.std.proofs.Common.{◌≡◌, ℕ, inl, inr, Bool, true, false, Option, Some, None, MatchOption, IsSomeAnd, List, [], ◌∷◌, ◌++◌, refl, ap, sym, ◌∙◌, subst, arith}
use Rattle.std.specs.List.{AllPass}
use Rattle.std.proofs.lemmas.Bool.Decides.{nat_tests}
use Rattle.std.proofs.lemmas.List.Elements.{All-head, All-tail, All-nil}
use Rattle.osgi_version.specs.VersionText.{is_white, DenotesVersion, IsVersionText, IsVersion, IsRaw, version_text}
use Rattle.osgi_version.specs.RangeText.{opening, closing, IsFloorText, IsInterval, DenotesRange, IsRange, range_text, text_up_to}
use Rattle.osgi_version.specs.Sequence.{is_opening}
use Rattle.osgi_version.specs.declared.interval.Bounds.{Bounds}
use Rattle.osgi_version.specs.IntervalReading.{IsIntervalOf, IsReadingOf, AreRead, IsRangeOf}
use Rattle.osgi_version.specs.declared.range.Ceiling.{Ceiling}
use Rattle.osgi_version.specs.declared.range.Range.{Range}
use Rattle.osgi_version.specs.declared.interval.RangeReading.{RangeReading}
use Rattle.osgi_version.specs.declared.interval.RangeReading.TheVariants.{Floor, Interval}
use Rattle.osgi_version.proofs.VersionPlaces.{DenotesVersion-unique, raw_refused, IsVersion-denoted}
use Rattle.osgi_version.proofs.VersionSpelling.{DenotesVersion-text}
use Rattle.osgi_version.proofs.RangePlaces.{is_version_byte, version_bytes, either_text}

-- Runs of bytes that pass a test, each with a byte behind it that fails, are cut in one way.
pub cut_unique : (p : ℕ → Bool) (xs ys s t : List ℕ) (a b : ℕ) → AllPass p xs → AllPass p ys → p a ≡ false → p b ≡ false → xs ++ a ∷ s ≡ ys ++ b ∷ t
    → (xs ≡ ys) × (a ≡ b) × (s ≡ t)
cut_unique p [] [] s t a b px py pa pb e = (refl, cc, cc)
cut_unique p [] (y ∷ ys) s t a b px py pa pb e =
    let passes : p y ≡ true = All-head (λ x. p x ≡ true) y ys py in
    let same : a ≡ y = cc in
    absurd (cc)
cut_unique p (x ∷ xs) [] s t a b px py pa pb e =
    let passes : p x ≡ true = All-head (λ x. p x ≡ true) x xs px in
    let same : x ≡ b = cc in
    absurd (cc)
cut_unique p (x ∷ xs) (y ∷ ys) s t a b px py pa pb e =
    let rest : xs ++ a ∷ s ≡ ys ++ b ∷ t = cc in
    let same : x ≡ y = cc in
    let more = cut_unique p xs ys s t a b (All-tail (λ x. p x ≡ true) x xs px) (All-tail (λ x. p x ≡ true) y ys py) pa pb rest in
    let equal : xs ≡ ys = more.0 in
    (cc, more.1, more.2)

opening_plain : (included : Bool) → is_white (opening included) ≡ false
opening_plain true = refl
opening_plain false = refl

closing_plain : (included : Bool) → is_version_byte (closing included) ≡ false
closing_plain true = refl
closing_plain false = refl

opening_bytes : (included : Bool) → is_version_byte (opening included) ≡ false
opening_bytes true = refl
opening_bytes false = refl

-- the byte behind a front
All-drop-head : (p : ℕ → Bool) (front : List ℕ) (b : ℕ) (rest : List ℕ) → AllPass p (front ++ b ∷ rest) → p b ≡ true
All-drop-head p [] b rest each = All-head (λ x. p x ≡ true) b rest each
All-drop-head p (c ∷ front) b rest each = All-drop-head p front b rest (All-tail (λ x. p x ≡ true) c (front ++ b ∷ rest) each)

opening_one : (a b : Bool) → opening a ≡ opening b → a ≡ b
opening_one true true e = refl
opening_one true false e = absurd (omega (arith, e))
opening_one false true e = absurd (omega (arith, e))
opening_one false false e = refl

closing_one : (a b : Bool) → closing a ≡ closing b → a ≡ b
closing_one true true e = refl
closing_one true false e = absurd (omega (arith, e))
closing_one false true e = absurd (omega (arith, e))
closing_one false false e = refl

ceiling_same : (c d : Ceiling) → c.version ≡ d.version → c.included ≡ d.included → c ≡ d
ceiling_same c d versions included = λ i. record { version = versions i; included = included i }

range_same : (r s : Range) → r.floor ≡ s.floor → r.floor_included ≡ s.floor_included → r.ceiling ≡ s.ceiling → r ≡ s
range_same r s floors included ceilings = λ i. record { floor = floors i; floor_included = included i; ceiling = ceilings i }

opening_white : (b : ℕ) → is_opening b ≡ true → is_white b ≡ false
opening_white b h = grind (arith, nat_tests)

-- A version's text has no bracket.
bracket_no_version : (text : List ℕ) (r : Range) (c : Ceiling) → IsInterval text r c → ¬ (IsVersionText text)
bracket_no_version text r c i v =
    let passes = All-drop-head is_version_byte i.before (opening r.floor_included) _ (rw i.spelling at (version_bytes text v)) in
    let fails = opening_bytes r.floor_included in
    cc

-- the parts of an interval's text are what they are
interval_unique : (text : List ℕ) (r s : Range) (c d : Ceiling) → IsInterval text r c → IsInterval text s d
    → (r.floor ≡ s.floor) × (r.floor_included ≡ s.floor_included) × (c ≡ d)
interval_unique text r s c d i j =
    let spelled = sym i.spelling ∙ j.spelling in
    let first = cut_unique is_white i.before j.before _ _ _ _ i.white_before j.white_before (opening_plain r.floor_included) (opening_plain s.floor_included) spelled in
    let second = cut_unique is_version_byte i.floor j.floor _ _ 44 44 (version_bytes i.floor (r.floor, i.floor_denotes)) (version_bytes j.floor (s.floor, j.floor_denotes)) refl refl first.2 in
    let third = cut_unique is_version_byte i.ceiling j.ceiling _ _ _ _ (version_bytes i.ceiling (c.version, i.ceiling_denotes)) (version_bytes j.ceiling (d.version, j.ceiling_denotes))
    (closing_plain c.included) (closing_plain d.included) second.2 in
    let floors : r.floor ≡ s.floor = DenotesVersion-unique i.floor r.floor s.floor i.floor_denotes (rw second.0 j.floor_denotes) in
    let ceilings : c.version ≡ d.version = DenotesVersion-unique i.ceiling c.version d.version i.ceiling_denotes (rw third.0 j.ceiling_denotes) in
    let closes : c.included ≡ d.included = closing_one c.included d.included third.1 in
    (floors, opening_one r.floor_included s.floor_included first.1, ceiling_same c d ceilings closes)

-- A text denotes one range at most.
unique_up_to : (text : List ℕ) (r s : Range) (x y : Option Ceiling) → r.ceiling ≡ x → s.ceiling ≡ y
    → MatchOption x (IsFloorText text r) (IsInterval text r) → MatchOption y (IsFloorText text s) (IsInterval text s) → r ≡ s
unique_up_to text r s None None ex ey i j =
    let floors = DenotesVersion-unique text r.floor s.floor i.denotes j.denotes in
    range_same r s floors (i.included ∙ sym j.included) (ex ∙ sym ey)
unique_up_to text r s None (Some d) ex ey i j = absurd (bracket_no_version text s d j (r.floor, i.denotes))
unique_up_to text r s (Some c) None ex ey i j = absurd (bracket_no_version text r c i (s.floor, j.denotes))
unique_up_to text r s (Some c) (Some d) ex ey i j =
    let parts = interval_unique text r s c d i j in
    range_same r s parts.0 parts.1 (ex ∙ (ap Some parts.2 ∙ sym ey))

pub DenotesRange-unique : (text : List ℕ) (r s : Range) → DenotesRange text r → DenotesRange text s → r ≡ s
DenotesRange-unique text r s d e = unique_up_to text r s r.ceiling s.ceiling refl refl d e

-- A raw version's text is no range's text.

pub raw_no_range : (text : List ℕ) (r : Range) → IsRaw text → ¬ (DenotesRange text r)
raw_no_range text r raw d = elim (either_text text (r, d)) [
  | inl v ↦ raw_refused text v.0 raw v.1
  | inr i ↦
      let cut = cut_unique is_white raw.0 i.front _ i.rest 114 i.mark raw.2 i.first refl (opening_white i.mark i.marked) (sym raw.3 ∙ i.spelling) in
      let marked : false ≡ true = subst (λ (b : ℕ). is_opening b ≡ true) (sym cut.1) i.marked in
      cc
]

-- What a text denotes has a text.
form_up_to : (text : List ℕ) (r : Range) (x : Option Ceiling) → MatchOption x (IsFloorText text r) (IsInterval text r)
    → IsVersion r.floor × MatchOption x (r.floor_included ≡ true) (λ c. IsVersion c.version)
form_up_to text r None d = (IsVersion-denoted text r.floor d.denotes, d.included)
form_up_to text r (Some c) d = (IsVersion-denoted d.floor r.floor d.floor_denotes, IsVersion-denoted d.ceiling c.version d.ceiling_denotes)

pub IsRange-denoted : (text : List ℕ) (r : Range) → DenotesRange text r → IsRange r
IsRange-denoted text r d = let form = form_up_to text r r.ceiling d in record { floor = form.0; ceiling = form.1 }

-- The canonical text denotes the range.
text_denotes : (r : Range) (x : Option Ceiling) → IsVersion r.floor → MatchOption x (r.floor_included ≡ true) (λ c. IsVersion c.version)
    → MatchOption x (IsFloorText (text_up_to r x) r) (IsInterval (text_up_to r x) r)
text_denotes r None floor included = record { denotes = DenotesVersion-text r.floor floor; included = included }
text_denotes r (Some c) floor ceiling = record {
  before = [];
  floor = version_text r.floor;
  ceiling = version_text c.version;
  after = [];
  spelling = refl;
  white_before = All-nil _;
  white_after = All-nil _;
  floor_denotes = DenotesVersion-text r.floor floor;
  ceiling_denotes = DenotesVersion-text c.version ceiling;
}

pub DenotesRange-text : (r : Range) → IsRange r → DenotesRange (range_text r) r
DenotesRange-text r is = text_denotes r r.ceiling is.floor is.ceiling

-- What is read whole denotes the range that has what was read.

pub AreRead-reading : (text : List ℕ) (reading : RangeReading) → IsReadingOf text reading → AreRead reading
AreRead-reading text (Floor bound) is = rw is.0 is.1
AreRead-reading text (Interval floor_included bounds) is = (is.bounds_of.bound, is.bounds_of.ceiling_of.bound)

interval_denotes : (text : List ℕ) (included : Bool) (bounds : Bounds) (r : Range) (x : Option Ceiling) → r.ceiling ≡ x → IsIntervalOf text included bounds
    → DenotesVersion bounds.floor.text.now r.floor → r.floor_included ≡ included
    → IsSomeAnd x (λ c. DenotesVersion bounds.ceiling.text.now c.version × (c.included ≡ bounds.ceiling_included))
    → MatchOption x (IsFloorText text r) (IsInterval text r)
interval_denotes text included bounds r None e is floor opens ceiling = absurd ceiling
interval_denotes text included bounds r (Some c) e is floor opens (ceiling, closes) = record {
  before = is.before;
  floor = bounds.floor.text.now;
  ceiling = bounds.ceiling.text.now;
  after = is.bounds_of.ceiling_of.after;
  spelling = rw (opens, closes, ← is.bounds_of.ceiling_of.spelling, ← is.bounds_of.spelling) is.spelling;
  white_before = is.white_before;
  white_after = is.bounds_of.ceiling_of.white_after;
  floor_denotes = floor;
  ceiling_denotes = ceiling;
}

floor_denotes : (text : List ℕ) (r : Range) (x : Option Ceiling) → x ≡ None → IsFloorText text r → MatchOption x (IsFloorText text r) (IsInterval text r)
floor_denotes text r None e floor = floor
floor_denotes text r (Some c) e floor = absurd (cc)

pub DenotesRange-read : (text : List ℕ) (reading : RangeReading) (r : Range) → IsReadingOf text reading → IsRangeOf reading r → DenotesRange text r
DenotesRange-read text (Floor bound) r is range =
    floor_denotes text r r.ceiling range.2 (record { denotes = rw is.0 at range.0; included = range.1 })
DenotesRange-read text (Interval floor_included bounds) r is range =
    interval_denotes text floor_included bounds r r.ceiling refl is range.0 range.1 range.2

-- The text of an interval, made of the floor's text, denotes the range.
pub interval_reads_back : (r : Range) (c : Ceiling) (floor text : List ℕ) → IsRange r → r.ceiling ≡ Some c → floor ≡ version_text r.floor
    → text ≡ opening r.floor_included ∷ (floor ++ 44 ∷ (version_text c.version ++ closing c.included ∷ [])) → DenotesRange text r
interval_reads_back r c floor text is has spelled made =
    let rest : List ℕ = 44 ∷ (version_text c.version ++ closing c.included ∷ []) in
    let same : range_text r ≡ text = ap (text_up_to r) has ∙ (ap (λ l. opening r.floor_included ∷ (l ++ rest)) (sym spelled) ∙ sym made) in
    subst (λ (t : List ℕ). DenotesRange t r) same (DenotesRange-text r is)
