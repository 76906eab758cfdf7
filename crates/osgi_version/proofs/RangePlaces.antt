-- Where a text stops being the front of a range's text.
use Rattle.std.proofs.Common.{◌≡◌, ◌≢◌, ℕ, ◌+◌, ◌<◌, ◌≤◌, ◌==◌, ◌||◌, ◌⊎◌, inl, inr, Bool, true, false, Option, Some, None, List, [], ◌∷◌, ◌++◌, length, get_or, take, drop, refl, ap, sym, ◌∙◌, arith, append-nil, le_refl, take_all, take-append-drop, length-append, length-drop, get_or-drop, drop-cons, add-one, add-zero, MatchOption}
use Rattle.std.specs.List.{AllPass}
use Rattle.std.specs.Char.{is_ascii_digit}
use Rattle.std.proofs.Math.Seq.{get_or-append_seam}
use Rattle.std.proofs.lemmas.Bool.{cases_order}
use Rattle.std.proofs.lemmas.Bool.Decides.{nat_tests}
use Rattle.std.proofs.lemmas.List.{length-take-le, get_or_append_left, get_or-take}
use Rattle.std.proofs.lemmas.List.Elements.{All-append, All-cons, All-nil, All-weaker, All-get_or}
use Rattle.osgi_version.specs.Begins.{Begins, IsLongestBegin}
use Rattle.osgi_version.specs.VersionText.{is_white, is_qualifier_byte, IsNumber, Parts, Nothing, Major, Minor, Micro, Qualified, spelled, AreParts, version, IsVersionText}
use Rattle.osgi_version.specs.RangeText.{opening, closing, IsFloorText, IsInterval, IsRangeText}
use Rattle.osgi_version.specs.Sequence.{IsWhite, is_comma, is_opening, is_closing, IsCeilingText, IsBoundsText, IsIntervalText}
use Rattle.osgi_version.specs.IntervalReading.{IsWhiteLength, IsCut, IsStuck, IsCeilingOf, AreBoundsOf, IsIntervalOf}
use Rattle.osgi_version.specs.declared.interval.Bounds.{Bounds}
use Rattle.osgi_version.specs.VersionReading.{version_in}
use Rattle.osgi_version.specs.declared.reading.Reading.{Reading}
use Rattle.osgi_version.specs.declared.range.Ceiling.{Ceiling}
use Rattle.osgi_version.specs.declared.range.Range.{Range}
use Rattle.osgi_version.proofs.Sequences.{HasBytes, CanEnd, IsRefusedAt, IsUnmarked, IsMarked, refused_unmarked, rest_refused}

-- a byte that a version's text may have
abbrev pub is_version_byte : ℕ → Bool
is_version_byte b = is_white b || (is_qualifier_byte b || b == 46)

AllPass-weaker : (p q : ℕ → Bool) → ((b : ℕ) → p b ≡ true → q b ≡ true) → (bytes : List ℕ) → AllPass p bytes → AllPass q bytes
AllPass-weaker p q weaker bytes each = All-weaker (λ b. p b ≡ true) (λ b. q b ≡ true) weaker bytes each

digit_is : (b : ℕ) → is_ascii_digit b ≡ true → is_version_byte b ≡ true
digit_is b h = grind (arith, nat_tests)

qualifier_is : (b : ℕ) → is_qualifier_byte b ≡ true → is_version_byte b ≡ true
qualifier_is b h = grind (arith, nat_tests)

white_is : (b : ℕ) → is_white b ≡ true → is_version_byte b ≡ true
white_is b h = grind (arith, nat_tests)

joined : (xs ys : List ℕ) → AllPass is_version_byte xs → AllPass is_version_byte ys → AllPass is_version_byte (xs ++ ys)
joined xs ys = All-append (λ b. is_version_byte b ≡ true) xs ys

dotted : (xs ys : List ℕ) → AllPass is_version_byte xs → AllPass is_version_byte ys → AllPass is_version_byte (xs ++ 46 ∷ ys)
dotted xs ys first second = joined xs (46 ∷ ys) first (All-cons (λ b. is_version_byte b ≡ true) 46 ys refl second)

number_bytes : (digits : List ℕ) → IsNumber digits → AllPass is_version_byte digits
number_bytes digits number = AllPass-weaker is_ascii_digit is_version_byte digit_is digits number.each

spelled_bytes : (parts : Parts) → AreParts parts → AllPass is_version_byte (spelled parts)
spelled_bytes Nothing are = All-nil _
spelled_bytes (Major a) are = number_bytes a are
spelled_bytes (Minor a b) are = dotted a b (number_bytes a are.0) (number_bytes b are.1)
spelled_bytes (Micro a b c) are = dotted a (b ++ 46 ∷ c) (number_bytes a are.0) (dotted b c (number_bytes b are.1) (number_bytes c are.2))
spelled_bytes (Qualified a b c q) are =
    dotted a (b ++ 46 ∷ (c ++ 46 ∷ q)) (number_bytes a are.0) (dotted b (c ++ 46 ∷ q) (number_bytes b are.1) (dotted c q (number_bytes c are.2)
    (AllPass-weaker is_qualifier_byte is_version_byte qualifier_is q are.3.each)))

pub version_bytes : HasBytes IsVersionText is_version_byte
version_bytes text (v, d) =
    rw d.spelling
    (joined d.before (spelled d.parts ++ d.after) (AllPass-weaker is_white is_version_byte white_is d.before d.white_before)
    (joined (spelled d.parts) d.after (spelled_bytes d.parts d.are_parts) (AllPass-weaker is_white is_version_byte white_is d.after d.white_after)))

white_bytes : HasBytes IsWhite is_white
white_bytes text white = white

-- white space alone is a version's text
pub white_version : (text : List ℕ) → IsWhite text → IsVersionText text
white_version text white = (
  version 0 0 0 [],
  record {
    before = text;
    parts = Nothing;
    after = [];
    spelling = sym (append-nil text);
    white_before = white;
    white_after = All-nil _;
    are_parts = tt;
    value = refl;
  },
)

ceiling_ends : CanEnd is_version_byte is_closing IsWhite
ceiling_ends = record { apart = λ b h. grind (arith, nat_tests); mark = 93; marks = refl; rest = []; behind = All-nil _ }

nothing : IsVersionText []
nothing = white_version [] (All-nil _)

least_ceiling : IsCeilingText (93 ∷ [])
least_ceiling = record { front = []; mark = 93; rest = []; spelling = refl; first = nothing; marked = refl; behind = All-nil _ }

bounds_end : CanEnd is_version_byte is_comma IsCeilingText
bounds_end = record { apart = λ b h. grind (arith, nat_tests); mark = 44; marks = refl; rest = 93 ∷ []; behind = least_ceiling }

least_bounds : IsBoundsText (44 ∷ 93 ∷ [])
least_bounds = record { front = []; mark = 44; rest = 93 ∷ []; spelling = refl; first = nothing; marked = refl; behind = least_ceiling }

interval_ends : CanEnd is_white is_opening IsBoundsText
interval_ends = record { apart = λ b h. grind (arith, nat_tests); mark = 91; marks = refl; rest = 44 ∷ 93 ∷ []; behind = least_bounds }

-- White space goes so far, and no white text begins with more.
pub white_longest : (text : List ℕ) (at : ℕ) → IsWhiteLength text at → IsLongestBegin IsWhite text at
white_longest text at w = record {
  within = w.within;
  begins = ([], rw append-nil w.white);
  longest = λ n past fits (more, white).
      let long : length (take n text) ≡ n = length-take-le n text fits in
      let inside : at < length (take n text ++ more) = omega (arith, length-append (take n text) more) in
      let passes = All-get_or (λ b. is_white b ≡ true) (take n text ++ more) at 0 inside white in
      let same : get_or (take n text ++ more) at 0 ≡ get_or text at 0 = get_or_append_left (take n text) more 0 at (omega arith) ∙ get_or-take n text at 0 past in
      let white' : is_white (get_or text at 0) ≡ true = rw same at passes in
      let ends : is_white (get_or text at 0) ≡ false = w.ends (omega arith) in
      cc;
}

pub white_refused : (text : List ℕ) (at : ℕ) → IsWhiteLength text at → at < length text → IsRefusedAt IsWhite text at
white_refused text at w below = (
  λ white.
      let passes : is_white (get_or text at 0) ≡ true = All-get_or (λ b. is_white b ≡ true) text at 0 below white in
      let ends : is_white (get_or text at 0) ≡ false = w.ends below in
      cc,
  white_longest text at w,
)

cut_version : (text front : List ℕ) (r : Reading) (mark : ℕ) (rest : List ℕ) → IsCut text front r mark rest → IsVersionText front
cut_version text front r mark rest cut = (version_in front r, cut.bound.denotes)

-- the mark behind a front
mark_behind : (text front : List ℕ) (mark : ℕ) (rest : List ℕ) → text ≡ front ++ mark ∷ rest → get_or text (length front) 0 ≡ mark
mark_behind text front mark rest spelled = ap (λ l. get_or l (length front) 0) spelled ∙ get_or-append_seam front mark rest 0

other_mark : (is_mark : ℕ → Bool) (text front : List ℕ) (r : Reading) (mark : ℕ) (rest : List ℕ) → IsCut text front r mark rest → is_mark mark ≡ false
    → IsUnmarked IsVersionText is_mark text (length front)
other_mark is_mark text front r mark rest cut other = record {
  unmarked = λ below kind marked.
      let marked' : is_mark mark ≡ true = rw (mark_behind text front mark rest cut.spelling) at marked in
      cc;
}

marked_cut : (is_mark : ℕ → Bool) (text front : List ℕ) (r : Reading) (mark : ℕ) (rest : List ℕ) → IsCut text front r mark rest → is_mark mark ≡ true
    → IsMarked IsVersionText is_mark text front mark rest
marked_cut is_mark text front r mark rest cut marked =
    record { spelling = cut.spelling; first = cut_version text front r mark rest cut; longest = cut.longest; marked = marked }

stuck_unmarked : (is_mark : ℕ → Bool) (text : List ℕ) (at : ℕ) → IsStuck text at → IsUnmarked IsVersionText is_mark text at
stuck_unmarked is_mark text at stuck = record { unmarked = λ below kind marked. stuck.no_version below kind }

opening_is : (included : Bool) → is_opening (opening included) ≡ true
opening_is true = refl
opening_is false = refl

closing_is : (included : Bool) → is_closing (closing included) ≡ true
closing_is true = refl
closing_is false = refl

pub ceiling_stuck : (text : List ℕ) (at : ℕ) → IsStuck text at → IsRefusedAt IsCeilingText text at
ceiling_stuck text at stuck =
    refused_unmarked IsVersionText is_version_byte is_closing IsWhite version_bytes ceiling_ends text at stuck.longest (stuck_unmarked is_closing text at stuck)

pub ceiling_other : (text front : List ℕ) (r : Reading) (mark : ℕ) (rest : List ℕ) → IsCut text front r mark rest → is_closing mark ≡ false
    → IsRefusedAt IsCeilingText text (length front)
ceiling_other text front r mark rest cut other =
    refused_unmarked IsVersionText is_version_byte is_closing IsWhite version_bytes ceiling_ends text (length front) cut.longest
    (other_mark is_closing text front r mark rest cut other)

pub ceiling_behind : (text front : List ℕ) (r : Reading) (mark : ℕ) (rest : List ℕ) (white : ℕ) (included : Bool) → IsCut text front r mark rest → mark ≡ closing included
    → IsWhiteLength rest white → white < length rest → IsRefusedAt IsCeilingText text (length front + 1 + white)
ceiling_behind text front r mark rest white included cut closes w below =
    let marked : is_closing mark ≡ true = rw closes (closing_is included) in
    rest_refused IsVersionText is_version_byte is_closing IsWhite version_bytes ceiling_ends text front mark rest white
    (marked_cut is_closing text front r mark rest cut marked) (white_refused rest white w below)

pub ceiling_found : (text front : List ℕ) (r : Reading) (mark : ℕ) (included : Bool) (rest : List ℕ) (white : ℕ) → IsCut text front r mark rest → mark ≡ closing included
    → IsWhiteLength rest white → length rest ≤ white → IsCeilingOf text front r included
ceiling_found text front r mark included rest white cut closes w all =
    record { after = rest; spelling = rw (← closes) cut.spelling; bound = cut.bound; white_after = rw take_all at w.white }

pub bounds_stuck : (text : List ℕ) (at : ℕ) → IsStuck text at → IsRefusedAt IsBoundsText text at
bounds_stuck text at stuck =
    refused_unmarked IsVersionText is_version_byte is_comma IsCeilingText version_bytes bounds_end text at stuck.longest (stuck_unmarked is_comma text at stuck)

pub bounds_other : (text front : List ℕ) (r : Reading) (mark : ℕ) (rest : List ℕ) → IsCut text front r mark rest → mark ≢ 44
    → IsRefusedAt IsBoundsText text (length front)
bounds_other text front r mark rest cut no_comma =
    let other : is_comma mark ≡ false = grind (arith, nat_tests) in
    refused_unmarked IsVersionText is_version_byte is_comma IsCeilingText version_bytes bounds_end text (length front) cut.longest
    (other_mark is_comma text front r mark rest cut other)

pub bounds_behind : (text front : List ℕ) (r : Reading) (mark : ℕ) (rest : List ℕ) (at : ℕ) → IsCut text front r mark rest → mark ≡ 44
    → IsRefusedAt IsCeilingText rest at → IsRefusedAt IsBoundsText text (length front + 1 + at)
bounds_behind text front r mark rest at cut comma refused =
    let marked : is_comma mark ≡ true = rw comma refl in
    rest_refused IsVersionText is_version_byte is_comma IsCeilingText version_bytes bounds_end text front mark rest at
    (marked_cut is_comma text front r mark rest cut marked) refused

-- A range's text is a version's or an interval's.

interval_text : (text : List ℕ) (r : Range) (c : Ceiling) → IsInterval text r c → IsIntervalText text
interval_text text r c i = record {
  front = i.before;
  mark = opening r.floor_included;
  rest = i.floor ++ 44 ∷ (i.ceiling ++ closing c.included ∷ i.after);
  spelling = i.spelling;
  first = i.white_before;
  marked = opening_is r.floor_included;
  behind = record {
    front = i.floor;
    mark = 44;
    rest = i.ceiling ++ closing c.included ∷ i.after;
    spelling = refl;
    first = (r.floor, i.floor_denotes);
    marked = refl;
    behind = record {
      front = i.ceiling;
      mark = closing c.included;
      rest = i.after;
      spelling = refl;
      first = (c.version, i.ceiling_denotes);
      marked = closing_is c.included;
      behind = i.white_after;
    };
  };
}

range_cases : (text : List ℕ) (r : Range) (ceiling : Option Ceiling) → MatchOption ceiling (IsFloorText text r) (IsInterval text r)
    → (IsVersionText text) ⊎ (IsIntervalText text)
range_cases text r None floor = inl (r.floor, floor.denotes)
range_cases text r (Some c) interval = inr (interval_text text r c interval)

pub either_text : (text : List ℕ) → IsRangeText text → (IsVersionText text) ⊎ (IsIntervalText text)
either_text text (r, d) = range_cases text r r.ceiling d

version_range : (text : List ℕ) → IsVersionText text → IsRangeText text
version_range text (v, d) = (record { floor = v; floor_included = true; ceiling = None }, record { denotes = d; included = refl })

opens : (b : ℕ) → is_opening b ≡ true → (b ≡ 91) ⊎ (b ≡ 40)
opens b h = grind (arith, nat_tests)

closes : (b : ℕ) → is_closing b ≡ true → (b ≡ 93) ⊎ (b ≡ 41)
closes b h = grind (arith, nat_tests)

comma_is : (b : ℕ) → is_comma b ≡ true → b ≡ 44
comma_is b h = grind (arith, nat_tests)

no_bracket : (b : ℕ) → is_opening b ≡ true → is_version_byte b ≡ false
no_bracket b h = grind (arith, nat_tests)

-- which bracket it is
opening_of : (b : ℕ) → is_opening b ≡ true → (included : Bool) × (b ≡ opening included)
opening_of b h = elim (opens b h) [ inl e ↦ (true, e) | inr e ↦ (false, e) ]

closing_of : (b : ℕ) → is_closing b ≡ true → (included : Bool) × (b ≡ closing included)
closing_of b h = elim (closes b h) [ inl e ↦ (true, e) | inr e ↦ (false, e) ]

interval_range : (text : List ℕ) → IsIntervalText text → IsRangeText text
interval_range text i =
    let b = i.behind in
    let c = b.behind in
    let opens = opening_of i.mark i.marked in
    let closes = closing_of c.mark c.marked in
    let comma : b.mark ≡ 44 = comma_is b.mark b.marked in
    let ceiling : Ceiling = record { version = c.first.0; included = closes.0 } in
    let interval : IsInterval text (record { floor = b.first.0; floor_included = opens.0; ceiling = Some ceiling }) ceiling = record {
      before = i.front;
      floor = b.front;
      ceiling = c.front;
      after = c.rest;
      spelling = rw (← opens.1, ← closes.1, ← comma, ← c.spelling, ← b.spelling) i.spelling;
      white_before = i.first;
      white_after = c.behind;
      floor_denotes = b.first.1;
      ceiling_denotes = c.first.1;
    } in
    (record { floor = b.first.0; floor_included = opens.0; ceiling = Some ceiling }, interval)

begins_either : (text : List ℕ) → Begins IsRangeText text → (Begins IsVersionText text) ⊎ (Begins IsIntervalText text)
begins_either text (more, d) = elim (either_text (text ++ more) d) [ inl v ↦ inl (more, v) | inr i ↦ inr (more, i) ]

-- A version's text has no bracket.
bracket_ends : (text : List ℕ) (at : ℕ) → at < length text → is_opening (get_or text at 0) ≡ true → (n : ℕ) → at < n → n ≤ length text → ¬ (Begins IsVersionText (take n text))
bracket_ends text at inside opens n past fits (more, v) =
    let long : length (take n text) ≡ n = length-take-le n text fits in
    let within : at < length (take n text ++ more) = omega (arith, length-append (take n text) more) in
    let passes = All-get_or (λ b. is_version_byte b ≡ true) (take n text ++ more) at 0 within (version_bytes (take n text ++ more) v) in
    let same : get_or (take n text ++ more) at 0 ≡ get_or text at 0 = get_or_append_left (take n text) more 0 at (omega arith) ∙ get_or-take n text at 0 past in
    let passes' : is_version_byte (get_or text at 0) ≡ true = rw same at passes in
    let fails = no_bracket (get_or text at 0) opens in
    cc

whole : (text : List ℕ) → take (length text) text ++ [] ≡ text
whole text = append-nil (take (length text) text) ∙ take_all (length text) text (le_refl (length text))

-- the text from a place on, when a bracket stands there
at_bracket : (text : List ℕ) (at b : ℕ) (tail : List ℕ) → drop at text ≡ b ∷ tail → (at < length text) × (get_or text at 0 ≡ b) × (text ≡ take at text ++ b ∷ drop (at + 1) text)
at_bracket text at b tail e =
    let inside : at < length text = omega (arith, ap length e, length-drop at text) in
    let split : drop at text ≡ get_or text at 0 ∷ drop (at + 1) text = rw add-one (drop-cons text at 0 inside) in
    let same : get_or text at 0 ∷ drop (at + 1) text ≡ b ∷ tail = sym split ∙ e in
    let here : get_or text at 0 ≡ b = cc in
    (inside, here, sym (take-append-drop at text) ∙ (ap (λ l. take at text ++ l) (rw here at split)))

pub range_behind : (text : List ℕ) (white : ℕ) (included : Bool) (tail : List ℕ) (at : ℕ) → IsWhiteLength text white
    → drop white text ≡ opening included ∷ tail → IsRefusedAt IsBoundsText (drop (white + 1) text) at → IsRefusedAt IsRangeText text (white + 1 + at)
range_behind text white included tail at w opens refused =
    let here = at_bracket text white (opening included) tail opens in
    let long : length (take white text) ≡ white = length-take-le white text w.within in
    let marked : IsMarked IsWhite is_opening text (take white text) (opening included) (drop (white + 1) text) = record {
      spelling = here.2;
      first = w.white;
      longest = rw long (white_longest text white w);
      marked = opening_is included;
    } in
    let interval : IsRefusedAt IsIntervalText text (white + 1 + at) =
    rw long at (rest_refused IsWhite is_white is_opening IsBoundsText white_bytes interval_ends text (take white text) (opening included) (drop (white + 1) text) at marked refused) in
    let bracket : is_opening (get_or text white 0) ≡ true = rw here.1 (opening_is included) in
    let no_version = bracket_ends text white here.0 bracket in (
      λ range. elim (either_text text range) [
        | inl v ↦ no_version (length text) here.0 (le_refl _) ([], rw whole v)
        | inr i ↦ interval.0 i
      ],
      record {
        within = interval.1.within;
        begins = (interval.1.begins.0, interval_range _ interval.1.begins.1);
        longest = λ n past fits begins. elim (begins_either (take n text) begins) [
          | inl v ↦ no_version n (omega arith) fits v
          | inr i ↦ interval.1.longest n past fits i
        ];
      },
    )

-- A text whose white space ends with no bracket is no interval's, and goes no further as one.
pub range_floor : (text : List ℕ) (white at : ℕ) → IsWhiteLength text white → (0 < length (drop white text) → is_opening (get_or (drop white text) 0 0) ≡ false)
    → IsRefusedAt IsVersionText text at → IsRefusedAt IsRangeText text at
range_floor text white at w other refused =
    let unmarked : IsUnmarked IsWhite is_opening text white = record {
      unmarked = λ below white' opens.
          let closed = other (omega (arith, length-drop white text)) in
          let same : get_or (drop white text) 0 0 ≡ get_or text white 0 = get_or-drop white text 0 0 ∙ ap (λ i. get_or text i 0) (add-zero white) in
          let closed' : is_opening (get_or text white 0) ≡ false = rw same at closed in
          cc;
    } in
    let interval = refused_unmarked IsWhite is_white is_opening IsBoundsText white_bytes interval_ends text white (white_longest text white w) unmarked in
    let before : white ≤ at = elim (cases_order white at) [
      | inl same ↦ omega arith
      | inr (inl below) ↦ omega arith
      | inr (inr above) ↦
          let begins : Begins IsVersionText (take white text) = ([], rw append-nil (white_version (take white text) w.white)) in
          absurd (refused.1.longest white above w.within begins)
    ] in (
      λ range. elim (either_text text range) [ inl v ↦ refused.0 v | inr i ↦ interval.0 i ],
      record {
        within = refused.1.within;
        begins = (refused.1.begins.0, version_range _ refused.1.begins.1);
        longest = λ n past fits begins. elim (begins_either (take n text) begins) [
          | inl v ↦ refused.1.longest n past fits v
          | inr i ↦ interval.1.longest n (omega arith) fits i
        ];
      },
    )

pub range_found : (text : List ℕ) (white : ℕ) (included : Bool) (tail : List ℕ) (bounds : Bounds) → IsWhiteLength text white → drop white text ≡ opening included ∷ tail
    → AreBoundsOf (drop (white + 1) text) bounds.floor.text.now bounds.floor.reading bounds.ceiling.text.now bounds.ceiling.reading bounds.ceiling_included
    → IsIntervalOf text included bounds
range_found text white included tail bounds w opens found =
    let here = at_bracket text white (opening included) tail opens in
    record { before = take white text; behind = drop (white + 1) text; spelling = here.2; white_before = w.white; bounds_of = found }
