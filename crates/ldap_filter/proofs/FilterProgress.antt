-- What is read of a text stays the front of a filter's text, byte by byte.
use Rattle.std.proofs.Common.{◌≡◌, ℕ, suc, ◌+◌, ◌<◌, ◌≤◌, ◌⊎◌, inl, inr, ◌==◌, ◌||◌, max, nat_lt, Bool, true, false, cond, Option, Some, None, option_and_then, List, [], ◌∷◌, ◌++◌, length, map, refl, ap, sym, subst, ◌∙◌, arith, append_assoc, append-nil, lit≤}
use Rattle.std.specs.Prelude.{⊤}
use Rattle.std.specs.List.{AllPass}
use Rattle.std.proofs.lemmas.Bool.Decides.{nat_tests}
use Rattle.std.proofs.lemmas.List.Elements.{All-nil, All-push, All-append, All-weaker}
use Rattle.osgi_version.specs.VersionText.{is_white}
use Rattle.osgi_version.specs.Begins.{Begins}
use Rattle.ldap_filter.specs.EnvPairs.{lowered}
use Rattle.ldap_filter.specs.FilterText.{IsWhite, is_attribute_byte, IsAttribute, Denotes, DenoteEach, AllOf, AnyOf, NoneOf, Single, Last, More, greatest, nesting, DenotesFilter, IsFilterText}
use Rattle.ldap_filter.specs.FilterValue.{scan}
use Rattle.ldap_filter.specs.FilterSteps.{Part, Outside, Opened, Attribute, Comparing, Valued, Escaping, Turn, Goes, Opens, State, at_part, beginning, begun, takes, received, test_of, added, closed, entered, turned, step, turn, group_turn, operator_turn, sign_of, operator_of, run}
use Rattle.ldap_filter.specs.declared.filter.Filter.{Filter}
use Rattle.ldap_filter.specs.declared.filter.Filter.TheVariants as filter
use Rattle.ldap_filter.specs.declared.frame.Sign.{Sign}
use Rattle.ldap_filter.specs.declared.frame.Sign.TheVariants as sign
use Rattle.ldap_filter.specs.declared.frame.Frame.{Frame}
use Rattle.ldap_filter.specs.declared.frame.Frame.TheVariants as frame
use Rattle.ldap_filter.specs.declared.scan.Operator.{Operator}
use Rattle.ldap_filter.specs.declared.scan.Operator.TheVariants as operator
use Rattle.ldap_filter.proofs.FilterValues.{is_byte, scan-append}
use Rattle.ldap_filter.proofs.FilterTests.{IsTest-read, operator_front, operator_bytes, operator_whole}
use Rattle.ldap_filter.proofs.FilterRuns.{nesting-And, nesting-Or, nesting-Not, nesting-Item}

-- White space around filters.

moved : (k : ℕ) (before gap texts after w : List ℕ) → (before ++ 40 ∷ (gap ++ k ∷ (texts ++ 41 ∷ after))) ++ w ≡ before ++ 40 ∷ (gap ++ k ∷ (texts ++ 41 ∷ (after ++ w)))
moved k before gap texts after w = simp append_assoc

moved_item : (before written tested after w : List ℕ) → (before ++ 40 ∷ (written ++ (tested ++ 41 ∷ after))) ++ w ≡ before ++ 40 ∷ (written ++ (tested ++ 41 ∷ (after ++ w)))
moved_item before written tested after w = simp append_assoc

IsWhite-append : (v w : List ℕ) → IsWhite v → IsWhite w → IsWhite (v ++ w)
IsWhite-append v w one other = All-append (λ b. is_white b ≡ true) v w one other

Denotes-before : (w text : List ℕ) (f : Filter) → IsWhite w → Denotes text f → Denotes (w ++ text) f
Denotes-before w text f white (AllOf before gap texts after fs wb wg wa each) =
    subst (λ t. Denotes t (filter.And fs)) (append_assoc w before _) (AllOf (w ++ before) gap texts after fs (IsWhite-append w before white wb) wg wa each)
Denotes-before w text f white (AnyOf before gap texts after fs wb wg wa each) =
    subst (λ t. Denotes t (filter.Or fs)) (append_assoc w before _) (AnyOf (w ++ before) gap texts after fs (IsWhite-append w before white wb) wg wa each)
Denotes-before w text f white (NoneOf before gap inner after g wb wg wa denotes) =
    subst (λ t. Denotes t (filter.Not g)) (append_assoc w before _) (NoneOf (w ++ before) gap inner after g (IsWhite-append w before white wb) wg wa denotes)
Denotes-before w text f white (Single before written tested after attr t wb wa attribute is) =
    subst (λ x. Denotes x (filter.Item attr t)) (append_assoc w before _) (Single (w ++ before) written tested after attr t (IsWhite-append w before white wb) wa attribute is)

Denotes-after : (text w : List ℕ) (f : Filter) → IsWhite w → Denotes text f → Denotes (text ++ w) f
Denotes-after text w f white (AllOf before gap texts after fs wb wg wa each) =
    subst (λ t. Denotes t (filter.And fs)) (sym (moved 38 before gap texts after w)) (AllOf before gap texts (after ++ w) fs wb wg (IsWhite-append after w wa white) each)
Denotes-after text w f white (AnyOf before gap texts after fs wb wg wa each) =
    subst (λ t. Denotes t (filter.Or fs)) (sym (moved 124 before gap texts after w)) (AnyOf before gap texts (after ++ w) fs wb wg (IsWhite-append after w wa white) each)
Denotes-after text w f white (NoneOf before gap inner after g wb wg wa denotes) =
    subst (λ t. Denotes t (filter.Not g)) (sym (moved 33 before gap inner after w)) (NoneOf before gap inner (after ++ w) g wb wg (IsWhite-append after w wa white) denotes)
Denotes-after text w f white (Single before written tested after attr t wb wa attribute is) =
    subst (λ x. Denotes x (filter.Item attr t)) (sym (moved_item before written tested after w)) (Single before written tested (after ++ w) attr t wb (IsWhite-append after w wa white) attribute is)

DenoteEach-after : (texts w : List ℕ) (fs : List Filter) → IsWhite w → DenoteEach texts fs → DenoteEach (texts ++ w) fs
DenoteEach-after texts w fs white (Last text f denotes) = Last (text ++ w) f (Denotes-after text w f white denotes)
DenoteEach-after texts w fs white (More text rest f others denotes each) =
    subst (λ t. DenoteEach t (f ∷ others)) (sym (append_assoc text rest w)) (More text (rest ++ w) f others denotes (DenoteEach-after rest w others white each))

DenoteEach-push : (texts text : List ℕ) (fs : List Filter) (f : Filter) → DenoteEach texts fs → Denotes text f → DenoteEach (texts ++ text) (fs ++ f ∷ [])
DenoteEach-push texts text fs f (Last first g denotes) last = More first text g (f ∷ []) denotes (Last text f last)
DenoteEach-push texts text fs f (More first rest g others denotes each) last =
    subst (λ t. DenoteEach t (g ∷ (others ++ f ∷ []))) (sym (append_assoc first rest text)) (More first (rest ++ text) g (others ++ f ∷ []) denotes (DenoteEach-push rest text others f each last))

-- What stands open.

abbrev pub takes_next : List Frame → Bool
takes_next [] = false
takes_next (fr ∷ frames) = takes fr

-- the text of a frame behind its sign
abbrev pub ReadIn : Frame → List ℕ → Type 0
ReadIn (frame.Whole None) text = IsWhite text
ReadIn (frame.Whole (Some f)) text = Denotes text f
ReadIn (frame.And []) text = IsWhite text
ReadIn (frame.And (f ∷ fs)) text = DenoteEach text (f ∷ fs)
ReadIn (frame.Or []) text = IsWhite text
ReadIn (frame.Or (f ∷ fs)) text = DenoteEach text (f ∷ fs)
ReadIn (frame.Not None) text = IsWhite text
ReadIn (frame.Not (Some f)) text = Denotes text f

abbrev pub deepest : Frame → ℕ
deepest (frame.Whole None) = 0
deepest (frame.Whole (Some f)) = nesting f
deepest (frame.And fs) = greatest (map nesting fs)
deepest (frame.Or fs) = greatest (map nesting fs)
deepest (frame.Not None) = 0
deepest (frame.Not (Some f)) = nesting f

-- `(` and the sign, where a filter may stand
abbrev pub BegunBy : ℕ → List Frame → (List ℕ → Type 0) → List ℕ → Type 0
BegunBy k frames Open text =
    (before gap : List ℕ) × (text ≡ before ++ 40 ∷ (gap ++ k ∷ [])) × Open before × (takes_next frames ≡ true) × IsWhite gap

abbrev pub Begun : Frame → List Frame → (List ℕ → Type 0) → List ℕ → Type 0
Begun (frame.Whole o) frames Open text = (frames ≡ []) × (text ≡ [])
Begun (frame.And fs) frames Open text = BegunBy 38 frames Open text
Begun (frame.Or fs) frames Open text = BegunBy 124 frames Open text
Begun (frame.Not o) frames Open text = BegunBy 33 frames Open text

abbrev pub IsOpen : List Frame → List ℕ → Type 0
IsOpen [] text = ⊥
IsOpen (fr ∷ frames) text =
    (outer texts : List ℕ) × (text ≡ outer ++ texts) × Begun fr frames (IsOpen frames) outer × ReadIn fr texts × (deepest fr + length (fr ∷ frames) ≤ 65) × (length (fr ∷ frames) ≤ 64)

-- The text ends in a filter whose `(` is read, with `inner` behind that and white space.
pub record Within (frames : List Frame) (inner text : List ℕ) : Type 0 where
  pub outer : List ℕ
  pub gap : List ℕ
  pub spelling : text ≡ outer ++ 40 ∷ (gap ++ inner)
  pub is_open : IsOpen frames outer
  pub takes_one : takes_next frames ≡ true
  pub white : IsWhite gap
  pub room : length frames ≤ 64

pub record IsCore (core : List ℕ) : Type 0 where
  pub each : AllPass is_attribute_byte core
  pub first : (b : ℕ) × (rest : List ℕ) × (core ≡ b ∷ rest) × (is_white b ≡ false)
  pub last : (front : List ℕ) × (b : ℕ) × (core ≡ front ++ b ∷ []) × (is_white b ≡ false)

abbrev pub sign_byte : Sign → ℕ
sign_byte sign.And = 38
sign_byte sign.Or = 124
sign_byte sign.Not = 33

abbrev pub IsGroup : Option Sign → List ℕ → Type 0
IsGroup None core = ⊤
IsGroup (Some s) core = core ≡ sign_byte s ∷ []

-- a filter at least, or the whole text
abbrev pub is_started : List Frame → Bool
is_started [] = true
is_started (frame.Whole o ∷ frames) = true
is_started (frame.And [] ∷ frames) = false
is_started (frame.And (f ∷ fs) ∷ frames) = true
is_started (frame.Or [] ∷ frames) = false
is_started (frame.Or (f ∷ fs) ∷ frames) = true
is_started (frame.Not None ∷ frames) = false
is_started (frame.Not (Some f) ∷ frames) = true

abbrev pub HasRead : Part → List Frame → List ℕ → Type 0
HasRead Outside frames text = IsOpen frames text × (is_started frames ≡ true)
HasRead Opened frames text = Within frames [] text
HasRead (Attribute group core after) frames text = Within frames (core ++ after) text × IsCore core × IsWhite after × IsGroup group core
HasRead (Comparing o core) frames text = (after : List ℕ) × Within frames (core ++ (after ++ operator_front o)) text × IsCore core × IsWhite after
HasRead (Valued o core value) frames text =
    (after : List ℕ) × Within frames (core ++ (after ++ (operator_bytes o ++ value))) text × IsCore core × IsWhite after × (scan false value ≡ Some false)
HasRead (Escaping o core value) frames text =
    (after : List ℕ) × Within frames (core ++ (after ++ (operator_bytes o ++ value))) text × IsCore core × IsWhite after × (scan false value ≡ Some true)

-- One more filter in a frame.

received-Begun : (f : Filter) (fr : Frame) (frames : List Frame) (Open : List ℕ → Type 0) (text : List ℕ) → Begun fr frames Open text → Begun (received f fr) frames Open text
received-Begun f (frame.Whole o) frames Open text is = is
received-Begun f (frame.And fs) frames Open text is = is
received-Begun f (frame.Or fs) frames Open text is = is
received-Begun f (frame.Not o) frames Open text is = is

received-ReadIn : (f : Filter) (fr : Frame) (texts text : List ℕ) → takes fr ≡ true → ReadIn fr texts → Denotes text f → ReadIn (received f fr) (texts ++ text)
received-ReadIn f (frame.Whole None) texts text one read denotes = Denotes-before texts text f read denotes
received-ReadIn f (frame.Whole (Some g)) texts text one read denotes = absurd (cc)
received-ReadIn f (frame.And []) texts text one read denotes = Last (texts ++ text) f (Denotes-before texts text f read denotes)
received-ReadIn f (frame.And (g ∷ gs)) texts text one read denotes = DenoteEach-push texts text (g ∷ gs) f read denotes
received-ReadIn f (frame.Or []) texts text one read denotes = Last (texts ++ text) f (Denotes-before texts text f read denotes)
received-ReadIn f (frame.Or (g ∷ gs)) texts text one read denotes = DenoteEach-push texts text (g ∷ gs) f read denotes
received-ReadIn f (frame.Not None) texts text one read denotes = Denotes-before texts text f read denotes
received-ReadIn f (frame.Not (Some g)) texts text one read denotes = absurd (cc)

greatest-push : (fs : List Filter) (f : Filter) → greatest (map nesting (fs ++ f ∷ [])) ≡ max (greatest (map nesting fs)) (nesting f)
greatest-push [] f = omega arith
greatest-push (g ∷ gs) f = let rest = greatest-push gs f in omega arith

received-deepest : (f : Filter) (fr : Frame) (n : ℕ) → deepest fr + n ≤ 65 → nesting f + n ≤ 65 → deepest (received f fr) + n ≤ 65
received-deepest f (frame.Whole o) n one other = other
received-deepest f (frame.And fs) n one other = omega (arith, greatest-push fs f)
received-deepest f (frame.Or fs) n one other = omega (arith, greatest-push fs f)
received-deepest f (frame.Not o) n one other = other

received-started : (f : Filter) (fr : Frame) (frames : List Frame) → is_started (received f fr ∷ frames) ≡ true
received-started f (frame.Whole o) frames = refl
received-started f (frame.And []) frames = refl
received-started f (frame.And (g ∷ gs)) frames = refl
received-started f (frame.Or []) frames = refl
received-started f (frame.Or (g ∷ gs)) frames = refl
received-started f (frame.Not o) frames = refl

HasRead-added : (f : Filter) (frames : List Frame) (q : State) (outer text : List ℕ) → IsOpen frames outer → takes_next frames ≡ true → Denotes text f → nesting f + length frames ≤ 65
    → added f frames ≡ Some q → HasRead q.part q.frames (outer ++ text)
HasRead-added f [] q outer text is one denotes fits e = absurd (cc)
HasRead-added f (fr ∷ frames) q outer text is one denotes fits e =
    let same : q ≡ at_part (received f fr ∷ frames) Outside = cc in
    let read : IsOpen (received f fr ∷ frames) (outer ++ text) = (
      is.0,
      is.1 ++ text,
      ap (λ o. o ++ text) is.2 ∙ append_assoc is.0 is.1 text,
      received-Begun f fr frames (IsOpen frames) is.0 is.3,
      received-ReadIn f fr is.1 text one is.4 denotes,
      received-deepest f fr (length (fr ∷ frames)) is.5 fits,
      is.6,
    ) in
    subst (λ (s : State). HasRead s.part s.frames (outer ++ text)) (sym same) (read, received-started f fr frames)

-- White space between filters.

ReadIn-white : (fr : Frame) (text : List ℕ) (b : ℕ) → is_white b ≡ true → ReadIn fr text → ReadIn fr (text ++ b ∷ [])
ReadIn-white fr text b white read = by_frame fr read
  where
    spaces : IsWhite (b ∷ [])
    spaces = All-push (λ x. is_white x ≡ true) [] b (All-nil _) white

    by_frame : (fr : Frame) → ReadIn fr text → ReadIn fr (text ++ b ∷ [])
    by_frame (frame.Whole None) read = IsWhite-append text (b ∷ []) read spaces
    by_frame (frame.Whole (Some f)) read = Denotes-after text (b ∷ []) f spaces read
    by_frame (frame.And []) read = IsWhite-append text (b ∷ []) read spaces
    by_frame (frame.And (f ∷ fs)) read = DenoteEach-after text (b ∷ []) (f ∷ fs) spaces read
    by_frame (frame.Or []) read = IsWhite-append text (b ∷ []) read spaces
    by_frame (frame.Or (f ∷ fs)) read = DenoteEach-after text (b ∷ []) (f ∷ fs) spaces read
    by_frame (frame.Not None) read = IsWhite-append text (b ∷ []) read spaces
    by_frame (frame.Not (Some f)) read = Denotes-after text (b ∷ []) f spaces read

IsOpen-white : (frames : List Frame) (text : List ℕ) (b : ℕ) → is_white b ≡ true → IsOpen frames text → IsOpen frames (text ++ b ∷ [])
IsOpen-white [] text b white is = absurd is
IsOpen-white (fr ∷ frames) text b white is =
    (is.0, is.1 ++ b ∷ [], ap (λ o. o ++ b ∷ []) is.2 ∙ append_assoc is.0 is.1 (b ∷ []), is.3, ReadIn-white fr is.1 b white is.4, is.5, is.6)

-- The end of a frame.

closing : (k : ℕ) (text outer texts before gap : List ℕ) → text ≡ outer ++ texts → outer ≡ before ++ 40 ∷ (gap ++ k ∷ [])
    → before ++ ([] ++ 40 ∷ (gap ++ k ∷ (texts ++ 41 ∷ []))) ≡ text ++ 41 ∷ []
closing k text outer texts before gap one other = rw (one, other) (simp append_assoc)

-- The filter ends in a place that was begun by a sign.
HasRead-closed : (k : ℕ) (f : Filter) (frames : List Frame) (q : State) (text outer texts : List ℕ) (begins : BegunBy k frames (IsOpen frames) outer) → text ≡ outer ++ texts
    → Denotes ([] ++ 40 ∷ (begins.1 ++ k ∷ (texts ++ 41 ∷ []))) f → nesting f + length frames ≤ 65 → added f frames ≡ Some q → HasRead q.part q.frames (text ++ 41 ∷ [])
HasRead-closed k f frames q text outer texts begins spelling denotes fits e =
    subst (λ t. HasRead q.part q.frames t) (closing k text outer texts begins.0 begins.1 spelling begins.2)
    (HasRead-added f frames q begins.0 ([] ++ 40 ∷ (begins.1 ++ k ∷ (texts ++ 41 ∷ []))) begins.3 begins.4 denotes fits e)

HasRead-closes : (frames : List Frame) (q : State) (text : List ℕ) → IsOpen frames text → is_started frames ≡ true → closed frames ≡ Some q → HasRead q.part q.frames (text ++ 41 ∷ [])
HasRead-closes [] q text is started e = absurd is
HasRead-closes (frame.Whole o ∷ frames) q text is started e = absurd (cc)
HasRead-closes (frame.And [] ∷ frames) q text is started e = absurd (cc)
HasRead-closes (frame.And (g ∷ gs) ∷ frames) q text is started e =
    HasRead-closed 38 (filter.And (g ∷ gs)) frames q text is.0 is.1 is.3 is.2 (AllOf [] is.3.1 is.1 [] (g ∷ gs) (All-nil _) is.3.5 (All-nil _) is.4)
    (let deep = is.5 in omega (arith, nesting-And (g ∷ gs))) e
HasRead-closes (frame.Or [] ∷ frames) q text is started e = absurd (cc)
HasRead-closes (frame.Or (g ∷ gs) ∷ frames) q text is started e =
    HasRead-closed 124 (filter.Or (g ∷ gs)) frames q text is.0 is.1 is.3 is.2 (AnyOf [] is.3.1 is.1 [] (g ∷ gs) (All-nil _) is.3.5 (All-nil _) is.4)
    (let deep = is.5 in omega (arith, nesting-Or (g ∷ gs))) e
HasRead-closes (frame.Not None ∷ frames) q text is started e = absurd (cc)
HasRead-closes (frame.Not (Some g) ∷ frames) q text is started e =
    HasRead-closed 33 (filter.Not g) frames q text is.0 is.1 is.3 is.2 (NoneOf [] is.3.1 is.1 [] g (All-nil _) is.3.5 (All-nil _) is.4)
    (let deep = is.5 in omega (arith, nesting-Not g)) e

-- What a step that goes on has seen.

which : (frames : List Frame) (t : Bool) (x y : Turn) (q : State) → turned frames (cond t x y) ≡ Some q → ((t ≡ true) × (turned frames x ≡ Some q)) ⊎ ((t ≡ false) × (turned frames y ≡ Some q))
which frames true x y q e = inl (refl, e)
which frames false x y q e = inr (refl, e)

went : (p : Part) (frames : List Frame) (q : State) → turned frames (Goes p) ≡ Some q → at_part frames p ≡ q
went p frames q e = cc

along : (p : Part) (frames : List Frame) (q : State) (text : List ℕ) → turned frames (Goes p) ≡ Some q → HasRead p frames text → HasRead q.part q.frames text
along p frames q text e read = subst (λ (s : State). HasRead s.part s.frames text) (went p frames q e) read

if_some : (t : Bool) (s q : State) → cond t (Some s) None ≡ Some q → (t ≡ true) × (s ≡ q)
if_some true s q e = (refl, cc)
if_some false s q e = absurd (cc)

Within-push : (frames : List Frame) (inner text : List ℕ) (b : ℕ) → Within frames inner text → Within frames (inner ++ b ∷ []) (text ++ b ∷ [])
Within-push frames inner text b w = record {
  outer = w.outer;
  gap = w.gap;
  spelling = ap (λ t. t ++ b ∷ []) w.spelling ∙ simp append_assoc;
  is_open = w.is_open;
  takes_one = w.takes_one;
  white = w.white;
  room = w.room;
}

Within-same : (frames : List Frame) (inner other text : List ℕ) → inner ≡ other → Within frames inner text → Within frames other text
Within-same frames inner other text same w = subst (λ i. Within frames i text) same w

-- white space behind `(`
Within-gap : (frames : List Frame) (text : List ℕ) (b : ℕ) → is_white b ≡ true → Within frames [] text → Within frames [] (text ++ b ∷ [])
Within-gap frames text b white w = record {
  outer = w.outer;
  gap = w.gap ++ b ∷ [];
  spelling = ap (λ t. t ++ b ∷ []) w.spelling ∙ simp (append_assoc, append-nil);
  is_open = w.is_open;
  takes_one = w.takes_one;
  white = All-push (λ x. is_white x ≡ true) w.gap b w.white white;
  room = w.room;
}

opens : (frames : List Frame) (q : State) (text : List ℕ) (b : ℕ) → IsOpen frames text → turned frames Opens ≡ Some q → b ≡ 40 → HasRead q.part q.frames (text ++ b ∷ [])
opens [] q text b is e same = absurd is
opens (fr ∷ frames) q text b is e same =
    let seen = if_some (takes fr) (at_part (fr ∷ frames) Opened) q e in
    let within : Within (fr ∷ frames) [] (text ++ 40 ∷ []) =
    record { outer = text; gap = []; spelling = refl; is_open = is; takes_one = seen.0; white = All-nil _; room = is.6 } in
    rw same (subst (λ (s : State). HasRead s.part s.frames (text ++ 40 ∷ [])) seen.1 within)

step-Outside : (frames : List Frame) (q : State) (text : List ℕ) (b : ℕ) → HasRead Outside frames text → turned frames (turn Outside b) ≡ Some q → HasRead q.part q.frames (text ++ b ∷ [])
step-Outside frames q text b r e =
    elim (which frames (b == 40) _ _ q e) [
      | inl w ↦ opens frames q text b r.0 w.1 (is_byte b 40 w.0)
      | inr w ↦ elim (which frames (b == 41) _ _ q w.1) [
        | inl v ↦ rw (is_byte b 41 v.0) (HasRead-closes frames q text r.0 r.1 v.1)
        | inr v ↦ elim (which frames (is_white b) _ _ q v.1) [
          | inl u ↦ along Outside frames q (text ++ b ∷ []) u.1 (IsOpen-white frames text b u.0 r.0, r.1)
          | inr u ↦ absurd (cc)
        ]
      ]
    ]

sign_group : (b : ℕ) → IsGroup (sign_of b) (b ∷ [])
sign_group b = by_test (b == 38) (b == 124) (b == 33) refl refl refl
  where
    by_test : (t u v : Bool) → (b == 38) ≡ t → (b == 124) ≡ u → (b == 33) ≡ v
        → IsGroup (cond t (Some sign.And) (cond u (Some sign.Or) (cond v (Some sign.Not) None))) (b ∷ [])
    by_test true u v e g h = ap (λ x. x ∷ []) (is_byte b 38 e)
    by_test false true v e g h = ap (λ x. x ∷ []) (is_byte b 124 g)
    by_test false false true e g h = ap (λ x. x ∷ []) (is_byte b 33 h)
    by_test false false false e g h = tt

IsCore-one : (b : ℕ) → is_white b ≡ false → is_attribute_byte b ≡ true → IsCore (b ∷ [])
IsCore-one b dark passes = record {
  each = All-push (λ x. is_attribute_byte x ≡ true) [] b (All-nil _) passes;
  first = (b, [], refl, dark);
  last = ([], b, refl, dark);
}

white_passes : (b : ℕ) → is_white b ≡ true → is_attribute_byte b ≡ true
white_passes b h = grind (arith, nat_tests)

each_white : (ws : List ℕ) → IsWhite ws → AllPass is_attribute_byte ws
each_white ws white = All-weaker (λ b. is_white b ≡ true) (λ b. is_attribute_byte b ≡ true) white_passes ws white

IsCore-more : (core after : List ℕ) (b : ℕ) → IsCore core → IsWhite after → is_white b ≡ false → is_attribute_byte b ≡ true → IsCore (core ++ (after ++ b ∷ []))
IsCore-more core after b is white dark passes = record {
  each = All-append (λ x. is_attribute_byte x ≡ true) core (after ++ b ∷ []) is.each (All-push (λ x. is_attribute_byte x ≡ true) after b (each_white after white) passes);
  first = (is.first.0, is.first.1 ++ (after ++ b ∷ []), ap (λ c. c ++ (after ++ b ∷ [])) is.first.2, is.first.3);
  last = (core ++ after, b, sym (append_assoc core after (b ∷ [])), dark);
}

step-Opened : (frames : List Frame) (q : State) (text : List ℕ) (b : ℕ) → HasRead Opened frames text → turned frames (turn Opened b) ≡ Some q → HasRead q.part q.frames (text ++ b ∷ [])
step-Opened frames q text b r e =
    elim (which frames (is_white b) _ _ q e) [
      | inl w ↦ along Opened frames q (text ++ b ∷ []) w.1 (Within-gap frames text b w.0 r)
      | inr w ↦ elim (which frames (is_attribute_byte b) _ _ q w.1) [
        | inl v ↦ along (Attribute (sign_of b) (b ∷ []) []) frames q (text ++ b ∷ []) v.1 (Within-push frames [] text b r, IsCore-one b w.0 v.0, All-nil _, sign_group b)
        | inr v ↦ absurd (cc)
      ]
    ]

begun_deep : (s : Sign) (n : ℕ) → n ≤ 64 → deepest (begun s) + n ≤ 65
begun_deep sign.And n h = omega arith
begun_deep sign.Or n h = omega arith
begun_deep sign.Not n h = omega arith

begun_read : (s : Sign) (text : List ℕ) → IsWhite text → ReadIn (begun s) text
begun_read sign.And text white = white
begun_read sign.Or text white = white
begun_read sign.Not text white = white

begun_takes : (s : Sign) → takes (begun s) ≡ true
begun_takes sign.And = refl
begun_takes sign.Or = refl
begun_takes sign.Not = refl

begun_by : (s : Sign) (frames : List Frame) (Open : List ℕ → Type 0) (text : List ℕ) → BegunBy (sign_byte s) frames Open text → Begun (begun s) frames Open text
begun_by sign.And frames Open text is = is
begun_by sign.Or frames Open text is = is
begun_by sign.Not frames Open text is = is

lt_tested : (m n : ℕ) → nat_lt m n ≡ true → m < n
lt_tested m n h = grind (arith, nat_tests)

-- `(` behind a sign
enters : (s : Sign) (frames : List Frame) (q : State) (core after text : List ℕ) → Within frames (core ++ after) text → core ≡ sign_byte s ∷ [] → IsWhite after → entered frames s ≡ Some q
    → HasRead q.part q.frames (text ++ 40 ∷ [])
enters s frames q core after text w group white e =
    let seen = if_some (nat_lt (length frames) 64) (at_part (begun s ∷ frames) Opened) q e in
    let room : suc (length frames) ≤ 64 = let below = lt_tested (length frames) 64 seen.0 in omega arith in
    let outer : List ℕ = w.outer ++ 40 ∷ (w.gap ++ sign_byte s ∷ []) in
    let spelling : text ≡ outer ++ after = w.spelling ∙ rw group (simp append_assoc) in
    let is : IsOpen (begun s ∷ frames) text = (
      outer,
      after,
      spelling,
      begun_by s frames (IsOpen frames) outer (w.outer, w.gap, refl, w.is_open, w.takes_one, w.white),
      begun_read s after white,
      begun_deep s (suc (length frames)) room,
      room,
    ) in
    let within : Within (begun s ∷ frames) [] (text ++ 40 ∷ []) =
    record { outer = text; gap = []; spelling = refl; is_open = is; takes_one = begun_takes s; white = All-nil _; room = room } in
    subst (λ (t : State). HasRead t.part t.frames (text ++ 40 ∷ [])) seen.1 within

by_group : (group : Option Sign) (frames : List Frame) (q : State) (core after text : List ℕ) (b : ℕ) → HasRead (Attribute group core after) frames text → b ≡ 40 → turned frames (group_turn group) ≡ Some q
    → HasRead q.part q.frames (text ++ b ∷ [])
by_group None frames q core after text b r same e = absurd (cc)
by_group (Some s) frames q core after text b r same e = rw same (enters s frames q core after text r.0 r.3 r.2 e)

operator_seen : (b : ℕ) (o : Operator) → operator_of b ≡ Some o → operator_front o ≡ b ∷ []
operator_seen b o e = by_test (b == 126) (b == 62) (b == 60) refl refl refl e
  where
    by_test : (t u v : Bool) → (b == 126) ≡ t → (b == 62) ≡ u → (b == 60) ≡ v
        → cond t (Some operator.Near) (cond u (Some operator.AtLeast) (cond v (Some operator.AtMost) None)) ≡ Some o → operator_front o ≡ b ∷ []
    by_test true u v e g h s = let same : operator.Near ≡ o = cc in subst (λ x. operator_front x ≡ b ∷ []) same (ap (λ x. x ∷ []) (sym (is_byte b 126 e)))
    by_test false true v e g h s = let same : operator.AtLeast ≡ o = cc in subst (λ x. operator_front x ≡ b ∷ []) same (ap (λ x. x ∷ []) (sym (is_byte b 62 g)))
    by_test false false true e g h s = let same : operator.AtMost ≡ o = cc in subst (λ x. operator_front x ≡ b ∷ []) same (ap (λ x. x ∷ []) (sym (is_byte b 60 h)))
    by_test false false false e g h s = absurd (cc)

by_operator : (o : Option Operator) (frames : List Frame) (q : State) (group : Option Sign) (core after text : List ℕ) (b : ℕ) → HasRead (Attribute group core after) frames text → operator_of b ≡ o
    → turned frames (operator_turn core o) ≡ Some q → HasRead q.part q.frames (text ++ b ∷ [])
by_operator None frames q group core after text b r same e = absurd (cc)
by_operator (Some o) frames q group core after text b r same e =
    along (Comparing o core) frames q (text ++ b ∷ []) e (
      after,
      Within-same frames ((core ++ after) ++ b ∷ []) (core ++ (after ++ operator_front o)) (text ++ b ∷ [])
          (append_assoc core after (b ∷ []) ∙ ap (λ x. core ++ (after ++ x)) (sym (operator_seen b o same)))
          (Within-push frames (core ++ after) text b r.0),
      r.1,
      r.2,
    )

step-Attribute : (group : Option Sign) (core after : List ℕ) (frames : List Frame) (q : State) (text : List ℕ) (b : ℕ) → HasRead (Attribute group core after) frames text
    → turned frames (turn (Attribute group core after) b) ≡ Some q → HasRead q.part q.frames (text ++ b ∷ [])
step-Attribute group core after frames q text b r e =
    let pushed : Within frames (core ++ (after ++ b ∷ [])) (text ++ b ∷ []) =
    Within-same frames ((core ++ after) ++ b ∷ []) (core ++ (after ++ b ∷ [])) (text ++ b ∷ []) (append_assoc core after (b ∷ [])) (Within-push frames (core ++ after) text b r.0) in
    elim (which frames (is_white b) _ _ q e) [
      | inl w ↦ along (Attribute group core (after ++ b ∷ [])) frames q (text ++ b ∷ []) w.1 (pushed, r.1, All-push (λ x. is_white x ≡ true) after b r.2 w.0, r.3)
      | inr w ↦ elim (which frames (is_attribute_byte b) _ _ q w.1) [
        | inl v ↦ along (Attribute None (core ++ (after ++ b ∷ [])) []) frames q (text ++ b ∷ []) v.1
            (Within-same frames (core ++ (after ++ b ∷ [])) ((core ++ (after ++ b ∷ [])) ++ []) (text ++ b ∷ []) (sym (append-nil _)) pushed, IsCore-more core after b r.1 r.2 w.0 v.0, All-nil _, tt)
        | inr v ↦ elim (which frames (b == 61) _ _ q v.1) [
          | inl u ↦ along (Valued operator.Equal core []) frames q (text ++ b ∷ []) u.1
              (after, subst (λ x. Within frames (core ++ (after ++ x ∷ [])) (text ++ b ∷ [])) (is_byte b 61 u.0) pushed, r.1, r.2, refl)
          | inr u ↦ elim (which frames (b == 40) _ _ q u.1) [
            | inl t ↦ by_group group frames q core after text b r (is_byte b 40 t.0) t.1
            | inr t ↦ by_operator (operator_of b) frames q group core after text b r refl t.1
          ]
        ]
      ]
    ]

step-Comparing : (o : Operator) (core : List ℕ) (frames : List Frame) (q : State) (text : List ℕ) (b : ℕ) → HasRead (Comparing o core) frames text
    → turned frames (turn (Comparing o core) b) ≡ Some q → HasRead q.part q.frames (text ++ b ∷ [])
step-Comparing o core frames q text b r e =
    elim (which frames (b == 61) _ _ q e) [
      | inl w ↦
          let after = r.0 in
          let same : (core ++ (after ++ operator_front o)) ++ b ∷ [] ≡ core ++ (after ++ (operator_bytes o ++ [])) =
          rw (is_byte b 61 w.0) (simp append_assoc (ap (λ x. core ++ (after ++ x)) (operator_whole o ∙ sym (append-nil (operator_bytes o))))) in
          along (Valued o core []) frames q (text ++ b ∷ []) w.1
          (after, Within-same frames _ _ (text ++ b ∷ []) same (Within-push frames (core ++ (after ++ operator_front o)) text b r.1), r.2, r.3, refl)
      | inr w ↦ absurd (cc)
    ]

-- one more byte of a value
Within-value : (o : Operator) (core after value : List ℕ) (frames : List Frame) (text : List ℕ) (b : ℕ) → Within frames (core ++ (after ++ (operator_bytes o ++ value))) text
    → Within frames (core ++ (after ++ (operator_bytes o ++ (value ++ b ∷ [])))) (text ++ b ∷ [])
Within-value o core after value frames text b w =
    Within-same frames ((core ++ (after ++ (operator_bytes o ++ value))) ++ b ∷ []) (core ++ (after ++ (operator_bytes o ++ (value ++ b ∷ [])))) (text ++ b ∷ []) (simp append_assoc)
    (Within-push frames (core ++ (after ++ (operator_bytes o ++ value))) text b w)

scan-push : (value : List ℕ) (b : ℕ) (e f : Bool) → scan false value ≡ Some e → scan e (b ∷ []) ≡ Some f → scan false (value ++ b ∷ []) ≡ Some f
scan-push value b e f so_far more = scan-append value (b ∷ []) false ∙ (ap (option_and_then (λ t. scan t (b ∷ []))) so_far ∙ more)

parentheses : (b : ℕ) → (b == 40) ≡ false → (b == 41) ≡ false → (b == 40 || b == 41) ≡ false
parentheses b h k = grind (arith, nat_tests)

-- `)` behind a value
ends : (o : Operator) (core value : List ℕ) (frames : List Frame) (q : State) (text : List ℕ) → HasRead (Valued o core value) frames text
    → added (filter.Item (lowered core) (test_of o value)) frames ≡ Some q → HasRead q.part q.frames (text ++ 41 ∷ [])
ends o core value frames q text r e =
    let after = r.0 in
    let w = r.1 in
    let is = r.2 in
    let attribute : IsAttribute (w.gap ++ (core ++ after)) (lowered core) = record {
      before = w.gap;
      core = core;
      after = after;
      spelling = refl;
      white_before = w.white;
      white_after = r.3;
      each = is.each;
      first = is.first;
      last = is.last;
      value = refl;
    } in
    let item : List ℕ = 40 ∷ ((w.gap ++ (core ++ after)) ++ ((operator_bytes o ++ value) ++ 41 ∷ [])) in
    let denotes : Denotes item (filter.Item (lowered core) (test_of o value)) =
    Single [] (w.gap ++ (core ++ after)) (operator_bytes o ++ value) [] (lowered core) (test_of o value) (All-nil _) (All-nil _) attribute (IsTest-read o value r.4) in
    let same : w.outer ++ item ≡ text ++ 41 ∷ [] = rw w.spelling (simp append_assoc) in
    let room = w.room in
    subst (λ t. HasRead q.part q.frames t) same
    (HasRead-added (filter.Item (lowered core) (test_of o value)) frames q w.outer item w.is_open w.takes_one denotes (omega (arith, nesting-Item (lowered core) (test_of o value))) e)

step-Valued : (o : Operator) (core value : List ℕ) (frames : List Frame) (q : State) (text : List ℕ) (b : ℕ) → HasRead (Valued o core value) frames text
    → turned frames (turn (Valued o core value) b) ≡ Some q → HasRead q.part q.frames (text ++ b ∷ [])
step-Valued o core value frames q text b r e =
    elim (which frames (b == 41) _ _ q e) [
      | inl w ↦ rw (is_byte b 41 w.0) (ends o core value frames q text r w.1)
      | inr w ↦ elim (which frames (b == 40) _ _ q w.1) [
        | inl v ↦ absurd (cc)
        | inr v ↦ elim (which frames (b == 92) _ _ q v.1) [
          | inl u ↦ along (Escaping o core (value ++ b ∷ [])) frames q (text ++ b ∷ []) u.1
              (r.0, Within-value o core r.0 value frames text b r.1, r.2, r.3, scan-push value b false true r.4 (simp u.0))
          | inr u ↦ along (Valued o core (value ++ b ∷ [])) frames q (text ++ b ∷ []) u.1
              (r.0, Within-value o core r.0 value frames text b r.1, r.2, r.3, scan-push value b false false r.4 (simp (u.0, parentheses b v.0 w.0)))
        ]
      ]
    ]

-- What is read stays what the part says, byte by byte.
pub HasRead-step : (p : Part) (frames : List Frame) (q : State) (text : List ℕ) (b : ℕ) → HasRead p frames text → step (at_part frames p) b ≡ Some q → HasRead q.part q.frames (text ++ b ∷ [])
HasRead-step Outside frames q text b r e = step-Outside frames q text b r e
HasRead-step Opened frames q text b r e = step-Opened frames q text b r e
HasRead-step (Attribute group core after) frames q text b r e = step-Attribute group core after frames q text b r e
HasRead-step (Comparing o core) frames q text b r e = step-Comparing o core frames q text b r e
HasRead-step (Valued o core value) frames q text b r e = step-Valued o core value frames q text b r e
HasRead-step (Escaping o core value) frames q text b r e =
    along (Valued o core (value ++ b ∷ [])) frames q (text ++ b ∷ []) e
    (r.0, Within-value o core r.0 value frames text b r.1, r.2, r.3, scan-push value b true false r.4 refl)

went_on : {A B : Type 0} (f : A → Option B) (o : Option A) (y : B) → option_and_then f o ≡ Some y → (x : A) × (o ≡ Some x) × (f x ≡ Some y)
went_on f None y e = absurd (cc)
went_on f (Some x) y e = (x, refl, e)

HasRead-run : (bytes text : List ℕ) (p q : State) → HasRead p.part p.frames text → run bytes p ≡ Some q → HasRead q.part q.frames (text ++ bytes)
HasRead-run [] text p q r e =
    let same : p ≡ q = cc in
    rw append-nil (subst (λ (x : State). HasRead x.part x.frames text) same r)
HasRead-run (b ∷ bytes) text p q r e =
    let first = went_on (run bytes) (step p b) q e in
    let next = HasRead-step p.part p.frames first.0 text b r first.1 in
    rw (← append_assoc text (b ∷ []) bytes) (HasRead-run bytes (text ++ b ∷ []) first.0 q next first.2)

-- What is read from the beginning on.
pub HasRead-text : (text : List ℕ) (q : State) → run text beginning ≡ Some q → HasRead q.part q.frames text
HasRead-text text q e =
    HasRead-run text [] beginning q (([], [], refl, (refl, refl), All-nil _, lit≤ tt, lit≤ tt), refl) e

-- A whole text.
pub denoted_whole : (frames : List Frame) (text : List ℕ) (f : Filter) → HasRead Outside (frame.Whole (Some f) ∷ frames) text → DenotesFilter text f
denoted_whole frames text f r =
    let is = r.0 in
    let same : is.1 ≡ text = sym (is.2 ∙ ap (λ o. o ++ is.1) is.3.1) in
    let deep = is.5 in
    record { denotes = subst (λ t. Denotes t f) same is.4; shallow = omega arith }

-- Each text that is read so far can go on to one that is accepted.

Begins-more : (text : List ℕ) (b : ℕ) → Begins IsFilterText (text ++ b ∷ []) → Begins IsFilterText text
Begins-more text b begins = (b ∷ begins.0, (begins.1.0, subst (λ t. DenotesFilter t begins.1.0) (append_assoc text (b ∷ []) begins.0) begins.1.1))

goes_on : (frames : List Frame) (p : Part) (q : State) (text : List ℕ) (b : ℕ) → HasRead p frames text → step (at_part frames p) b ≡ Some q
    → (HasRead q.part q.frames (text ++ b ∷ []) → Begins IsFilterText (text ++ b ∷ [])) → Begins IsFilterText text
goes_on frames p q text b r e later = Begins-more text b (later (HasRead-step p frames q text b r e))

Begins-whole : (frames : List Frame) (o : Option Filter) (text : List ℕ) → HasRead Outside (frame.Whole o ∷ frames) text → Begins IsFilterText text
Begins-whole frames (Some f) text r = ([], (f, subst (λ t. DenotesFilter t f) (sym (append-nil text)) (denoted_whole frames text f r)))
Begins-whole frames None text r =
    let fs = frame.Whole None ∷ frames in
    let item = filter.Item (97 ∷ []) (test_of operator.Equal []) in
    goes_on fs Outside (at_part fs Opened) text 40 r refl
    (λ opened'. goes_on fs Opened (at_part fs (Attribute None (97 ∷ []) [])) (text ++ 40 ∷ []) 97 opened' refl
    (λ named. goes_on fs (Attribute None (97 ∷ []) []) (at_part fs (Valued operator.Equal (97 ∷ []) [])) ((text ++ 40 ∷ []) ++ 97 ∷ []) 61 named refl
    (λ valued. goes_on fs (Valued operator.Equal (97 ∷ []) []) (at_part (frame.Whole (Some item) ∷ frames) Outside) (((text ++ 40 ∷ []) ++ 97 ∷ []) ++ 61 ∷ []) 41 valued refl
    (λ whole. ([], (item, subst (λ t. DenotesFilter t item) (sym (append-nil _)) (denoted_whole frames _ item whole)))))))

Begins-within : (frames : List Frame) (fr : Frame) (text : List ℕ) → HasRead Outside (fr ∷ frames) text → Begins IsFilterText text
Begins-within frames (frame.Whole o) text r = Begins-whole frames o text r
Begins-within frames (frame.And []) text r = absurd (let e = r.1 in cc)
Begins-within [] (frame.And (g ∷ gs)) text r = absurd r.0.3.3
Begins-within (h ∷ rest) (frame.And (g ∷ gs)) text r =
    goes_on (frame.And (g ∷ gs) ∷ h ∷ rest) Outside (at_part (received (filter.And (g ∷ gs)) h ∷ rest) Outside) text 41 r refl
    (Begins-within rest (received (filter.And (g ∷ gs)) h) (text ++ 41 ∷ []))
Begins-within frames (frame.Or []) text r = absurd (let e = r.1 in cc)
Begins-within [] (frame.Or (g ∷ gs)) text r = absurd r.0.3.3
Begins-within (h ∷ rest) (frame.Or (g ∷ gs)) text r =
    goes_on (frame.Or (g ∷ gs) ∷ h ∷ rest) Outside (at_part (received (filter.Or (g ∷ gs)) h ∷ rest) Outside) text 41 r refl
    (Begins-within rest (received (filter.Or (g ∷ gs)) h) (text ++ 41 ∷ []))
Begins-within frames (frame.Not None) text r = absurd (let e = r.1 in cc)
Begins-within [] (frame.Not (Some g)) text r = absurd r.0.3.3
Begins-within (h ∷ rest) (frame.Not (Some g)) text r =
    goes_on (frame.Not (Some g) ∷ h ∷ rest) Outside (at_part (received (filter.Not g) h ∷ rest) Outside) text 41 r refl
    (Begins-within rest (received (filter.Not g) h) (text ++ 41 ∷ []))

Begins-Outside : (frames : List Frame) (text : List ℕ) → HasRead Outside frames text → Begins IsFilterText text
Begins-Outside [] text r = absurd r.0
Begins-Outside (fr ∷ frames) text r = Begins-within frames fr text r

Begins-Valued : (o : Operator) (core value : List ℕ) (frames : List Frame) (text : List ℕ) → HasRead (Valued o core value) frames text → Begins IsFilterText text
Begins-Valued o core value [] text r = absurd (let w = r.1 in w.is_open)
Begins-Valued o core value (fr ∷ frames) text r =
    goes_on (fr ∷ frames) (Valued o core value) (at_part (received (filter.Item (lowered core) (test_of o value)) fr ∷ frames) Outside) text 41 r refl
    (Begins-Outside (received (filter.Item (lowered core) (test_of o value)) fr ∷ frames) (text ++ 41 ∷ []))

Begins-Attribute : (group : Option Sign) (core after : List ℕ) (frames : List Frame) (text : List ℕ) → HasRead (Attribute group core after) frames text → Begins IsFilterText text
Begins-Attribute group core after frames text r =
    goes_on frames (Attribute group core after) (at_part frames (Valued operator.Equal core [])) text 61 r refl (Begins-Valued operator.Equal core [] frames (text ++ 61 ∷ []))

pub HasRead-Begins : (p : Part) (frames : List Frame) (text : List ℕ) → HasRead p frames text → Begins IsFilterText text
HasRead-Begins Outside frames text r = Begins-Outside frames text r
HasRead-Begins Opened frames text r =
    goes_on frames Opened (at_part frames (Attribute None (97 ∷ []) [])) text 97 r refl (Begins-Attribute None (97 ∷ []) [] frames (text ++ 97 ∷ []))
HasRead-Begins (Attribute group core after) frames text r = Begins-Attribute group core after frames text r
HasRead-Begins (Comparing o core) frames text r =
    goes_on frames (Comparing o core) (at_part frames (Valued o core [])) text 61 r refl (Begins-Valued o core [] frames (text ++ 61 ∷ []))
HasRead-Begins (Valued o core value) frames text r = Begins-Valued o core value frames text r
HasRead-Begins (Escaping o core value) frames text r =
    goes_on frames (Escaping o core value) (at_part frames (Valued o core (value ++ 97 ∷ []))) text 97 r refl (Begins-Valued o core (value ++ 97 ∷ []) frames (text ++ 97 ∷ []))
