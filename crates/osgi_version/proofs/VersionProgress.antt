-- What a reader of versions has read, at each stage.
use Rattle.std.proofs.Common.{◌≡◌, ◌≢◌, ℕ, ◌+◌, ◌-◌, ◌*◌, ◌<◌, ◌≤◌, ◌==◌, ◌&&◌, Bool, true, false, cond, nat_le, nat_lt, Option, Some, None, option_map, option_and_then, List, [], ◌∷◌, ◌++◌, length, refl, sym, subst, arith, append_assoc, append-nil, length-append, ◌⊎◌, inl, inr, lit<}
use Rattle.std.specs.List.{AllPass}
use Rattle.std.specs.Char.{is_ascii_digit}
use Rattle.std.proofs.lemmas.Bool.Decides.{nat_tests}
use Rattle.std.proofs.lemmas.List.Elements.{All-push, All-nil}
use Rattle.std.proofs.lemmas.List.Sums.{fold-append}
use Rattle.osgi_version.specs.VersionText.{is_white, is_qualifier_byte, digits_value, IsNumber, IsQualifier, Parts, Nothing, Major, Minor, Micro, Qualified, spelled, AreParts, version, version_of, DenotesVersion, IsVersionText}
use Rattle.osgi_version.specs.Begins.{Begins}
use Rattle.osgi_version.specs.VersionSteps.{Progress, at_stage, beginning, with_digit, with_byte, number_step, step, is_whole}
use Rattle.osgi_version.specs.declared.version.Version.{Version}
use Rattle.osgi_version.specs.declared.reading.Stage.{Stage}
use Rattle.osgi_version.specs.declared.reading.Stage.TheVariants.{Before, InMajor, ToMinor, InMinor, ToMicro, InMicro, ToQualifier, InQualifier, After}
use Rattle.osgi_version.proofs.VersionRuns.{run}

-- The text is white space, the parts and what is behind them.
pub record IsSpelled (text : List ℕ) (v : Version) (parts : Parts) (behind : List ℕ) : Type 0 where
  pub before : List ℕ
  pub spelling : text ≡ before ++ (spelled parts ++ behind)
  pub white_before : AllPass is_white before
  pub are_parts : AreParts parts
  pub value : v ≡ version_of parts

-- what is read at the stage
abbrev pub HasRead : Stage → Version → List ℕ → Type 0
HasRead Before v text = AllPass is_white text × (v ≡ version 0 0 0 [])
HasRead InMajor v text = (a : List ℕ) × IsSpelled text v (Major a) []
HasRead ToMinor v text = (a : List ℕ) × IsSpelled text v (Major a) (46 ∷ [])
HasRead InMinor v text = (a b : List ℕ) × IsSpelled text v (Minor a b) []
HasRead ToMicro v text = (a b : List ℕ) × IsSpelled text v (Minor a b) (46 ∷ [])
HasRead InMicro v text = (a b c : List ℕ) × IsSpelled text v (Micro a b c) []
HasRead ToQualifier v text = (a b c : List ℕ) × IsSpelled text v (Micro a b c) (46 ∷ [])
HasRead InQualifier v text = (a b c q : List ℕ) × IsSpelled text v (Qualified a b c q) []
HasRead After v text = DenotesVersion text v

denoted : {text : List ℕ} {v : Version} (parts : Parts) → IsSpelled text v parts [] → DenotesVersion text v
denoted parts r = record {
  before = r.before;
  parts = parts;
  after = [];
  spelling = r.spelling;
  white_before = r.white_before;
  white_after = All-nil _;
  are_parts = r.are_parts;
  value = r.value;
}

-- What is read at a stage where the text may end denotes the version.
pub denoted_whole : (s : Stage) (v : Version) (text : List ℕ) → is_whole s ≡ true → HasRead s v text → DenotesVersion text v
denoted_whole Before v text whole r = record {
  before = text;
  parts = Nothing;
  after = [];
  spelling = sym (append-nil text);
  white_before = r.0;
  white_after = All-nil _;
  are_parts = tt;
  value = r.1;
}
denoted_whole InMajor v text whole (a, r) = denoted (Major a) r
denoted_whole ToMinor v text whole r = cc
denoted_whole InMinor v text whole (a, b, r) = denoted (Minor a b) r
denoted_whole ToMicro v text whole r = cc
denoted_whole InMicro v text whole (a, b, c, r) = denoted (Micro a b c) r
denoted_whole ToQualifier v text whole r = cc
denoted_whole InQualifier v text whole (a, b, c, q, r) = denoted (Qualified a b c q) r
denoted_whole After v text whole r = r

-- What a step that goes on has seen.

tested : {A B : Type 0} (t : Bool) (x : A) (f : A → B) (q : B) → option_map f (cond t (Some x) None) ≡ Some q → (t ≡ true) × (q ≡ f x)
tested true x f q e = (refl, cc)
tested false x f q e = absurd (cc)

both : (x y : Bool) → (x && y) ≡ true → (x ≡ true) × (y ≡ true)
both true true e = (refl, refl)
both true false e = absurd (cc)
both false y e = absurd (cc)

le_tested : (m n : ℕ) → nat_le m n ≡ true → m ≤ n
le_tested m n h = grind (arith, nat_tests)

lt_tested : (m n : ℕ) → nat_lt m n ≡ true → m < n
lt_tested m n h = grind (arith, nat_tests)

dot_tested : (b : ℕ) → (b == 46) ≡ true → b ≡ 46
dot_tested b h = grind (arith, nat_tests)

from_digit : (f : ℕ → Progress) (n b : ℕ) (q : Progress) → option_map f (with_digit n b) ≡ Some q → (is_ascii_digit b ≡ true) × (10 * n + (b - 48) ≤ 2147483647) × (q ≡ f (10 * n + (b - 48)))
from_digit f n b q e =
    let t = tested (is_ascii_digit b && nat_le (10 * n + (b - 48)) 2147483647) (10 * n + (b - 48)) f q e in
    let tests = both _ _ t.0 in
    (tests.0, le_tested _ _ tests.1, t.1)

from_byte : (f : List ℕ → Progress) (bytes : List ℕ) (b : ℕ) (q : Progress) → option_map f (with_byte bytes b) ≡ Some q → (is_qualifier_byte b ≡ true) × (length bytes < 80) × (q ≡ f (bytes ++ b ∷ []))
from_byte f bytes b q e =
    let t = tested (is_qualifier_byte b && nat_lt (length bytes) 80) (bytes ++ b ∷ []) f q e in
    let tests = both _ _ t.0 in
    (tests.0, lt_tested _ _ tests.1, t.1)

either : {A : Type 0} (t : Bool) (x q : A) (other : Option A) → cond t (Some x) other ≡ Some q → ((t ≡ true) × (q ≡ x)) ⊎ (other ≡ Some q)
either true x q other e = inl (refl, cc)
either false x q other e = inr e

-- What is read with one more byte.

digits_value-push : (ds : List ℕ) (d : ℕ) → digits_value (ds ++ d ∷ []) ≡ 10 * digits_value ds + (d - 48)
digits_value-push ds d = fold-append (λ n digit. 10 * n + (digit - 48)) 0 ds (d ∷ [])

not_nil : (xs : List ℕ) (x : ℕ) → xs ++ x ∷ [] ≢ []
not_nil [] x e = cc
not_nil (y ∷ ys) x e = cc

IsNumber-push : (ds : List ℕ) (d : ℕ) → IsNumber ds → is_ascii_digit d ≡ true → 10 * digits_value ds + (d - 48) ≤ 2147483647 → IsNumber (ds ++ d ∷ [])
IsNumber-push ds d number digit small = record {
  some = not_nil ds d;
  each = All-push (λ x. is_ascii_digit x ≡ true) ds d number.each digit;
  small = rw (digits_value-push ds d) small;
}

pub IsNumber-one : (d : ℕ) → is_ascii_digit d ≡ true → IsNumber (d ∷ [])
IsNumber-one d digit = record {
  some = not_nil [] d;
  each = All-push (λ x. is_ascii_digit x ≡ true) [] d (All-nil _) digit;
  small = let small : d ≤ 57 = grind (arith, nat_tests) in omega arith;
}

IsQualifier-push : (bytes : List ℕ) (b : ℕ) → AllPass is_qualifier_byte bytes → is_qualifier_byte b ≡ true → length bytes < 80 → IsQualifier (bytes ++ b ∷ [])
IsQualifier-push bytes b each passes short = record {
  some = not_nil bytes b;
  each = All-push (λ x. is_qualifier_byte x ≡ true) bytes b each passes;
  short = omega (arith, length-append bytes (b ∷ []));
}

push_white : {text : List ℕ} {v : Version} {parts : Parts} (b : ℕ) → IsSpelled text v parts [] → is_white b ≡ true → DenotesVersion (text ++ b ∷ []) v
push_white {text} {v} {parts} b r white = record {
  before = r.before;
  parts = parts;
  after = b ∷ [];
  spelling = rw r.spelling (simp (append_assoc, append-nil));
  white_before = r.white_before;
  white_after = All-push (λ x. is_white x ≡ true) [] b (All-nil _) white;
  are_parts = r.are_parts;
  value = r.value;
}

push_dot : {text : List ℕ} {v : Version} {parts : Parts} (b : ℕ) → IsSpelled text v parts [] → b ≡ 46 → IsSpelled (text ++ b ∷ []) v parts (46 ∷ [])
push_dot {text} {v} {parts} b r dot = record {
  before = r.before;
  spelling = rw (r.spelling, dot) (simp (append_assoc, append-nil));
  white_before = r.white_before;
  are_parts = r.are_parts;
  value = r.value;
}

push_after : {text : List ℕ} {v : Version} (b : ℕ) → DenotesVersion text v → is_white b ≡ true → DenotesVersion (text ++ b ∷ []) v
push_after {text} {v} b d white = record {
  before = d.before;
  parts = d.parts;
  after = d.after ++ b ∷ [];
  spelling = rw d.spelling (simp append_assoc);
  white_before = d.white_before;
  white_after = All-push (λ x. is_white x ≡ true) d.after b d.white_after white;
  are_parts = d.are_parts;
  value = d.value;
}

first_major : (v : Version) (text : List ℕ) (b : ℕ) → HasRead Before v text → is_ascii_digit b ≡ true → HasRead InMajor (record v { major = 10 * v.major + (b - 48) }) (text ++ b ∷ [])
first_major v text b r digit = (
  b ∷ [],
  record {
    before = text;
    spelling = refl;
    white_before = r.0;
    are_parts = IsNumber-one b digit;
    value = rw r.1 refl;
  },
)

more_major : (v : Version) (text : List ℕ) (b : ℕ) → HasRead InMajor v text → is_ascii_digit b ≡ true → 10 * v.major + (b - 48) ≤ 2147483647 → HasRead InMajor (record v { major = 10 * v.major + (b - 48) }) (text ++ b ∷ [])
more_major v text b (a, r) digit small = (
  a ++ b ∷ [],
  record {
    before = r.before;
    spelling = rw r.spelling (simp (append_assoc, append-nil));
    white_before = r.white_before;
    are_parts = IsNumber-push a b r.are_parts digit (rw r.value at small);
    value = rw (r.value, digits_value-push a b) refl;
  },
)

first_minor : (v : Version) (text : List ℕ) (d : ℕ) → HasRead ToMinor v text → is_ascii_digit d ≡ true → HasRead InMinor (record v { minor = 10 * v.minor + (d - 48) }) (text ++ d ∷ [])
first_minor v text d (a, r) digit = (
  a,
  d ∷ [],
  record {
    before = r.before;
    spelling = rw r.spelling (simp (append_assoc, append-nil));
    white_before = r.white_before;
    are_parts = (r.are_parts, IsNumber-one d digit);
    value = rw r.value refl;
  },
)

more_minor : (v : Version) (text : List ℕ) (d : ℕ) → HasRead InMinor v text → is_ascii_digit d ≡ true → 10 * v.minor + (d - 48) ≤ 2147483647 → HasRead InMinor (record v { minor = 10 * v.minor + (d - 48) }) (text ++ d ∷ [])
more_minor v text d (a, b, r) digit small = (
  a,
  b ++ d ∷ [],
  record {
    before = r.before;
    spelling = rw r.spelling (simp (append_assoc, append-nil));
    white_before = r.white_before;
    are_parts = (r.are_parts.0, IsNumber-push b d r.are_parts.1 digit (rw r.value at small));
    value = rw (r.value, digits_value-push b d) refl;
  },
)

first_micro : (v : Version) (text : List ℕ) (d : ℕ) → HasRead ToMicro v text → is_ascii_digit d ≡ true → HasRead InMicro (record v { micro = 10 * v.micro + (d - 48) }) (text ++ d ∷ [])
first_micro v text d (a, b, r) digit = (
  a,
  b,
  d ∷ [],
  record {
    before = r.before;
    spelling = rw r.spelling (simp (append_assoc, append-nil));
    white_before = r.white_before;
    are_parts = (r.are_parts.0, r.are_parts.1, IsNumber-one d digit);
    value = rw r.value refl;
  },
)

more_micro : (v : Version) (text : List ℕ) (d : ℕ) → HasRead InMicro v text → is_ascii_digit d ≡ true → 10 * v.micro + (d - 48) ≤ 2147483647 → HasRead InMicro (record v { micro = 10 * v.micro + (d - 48) }) (text ++ d ∷ [])
more_micro v text d (a, b, c, r) digit small = (
  a,
  b,
  c ++ d ∷ [],
  record {
    before = r.before;
    spelling = rw r.spelling (simp (append_assoc, append-nil));
    white_before = r.white_before;
    are_parts = (r.are_parts.0, r.are_parts.1, IsNumber-push c d r.are_parts.2 digit (rw r.value at small));
    value = rw (r.value, digits_value-push c d) refl;
  },
)

first_byte : (v : Version) (text : List ℕ) (d : ℕ) → HasRead ToQualifier v text → is_qualifier_byte d ≡ true → HasRead InQualifier (record v { qualifier = d ∷ [] }) (text ++ d ∷ [])
first_byte v text d (a, b, c, r) passes = (
  a,
  b,
  c,
  d ∷ [],
  record {
    before = r.before;
    spelling = rw r.spelling (simp (append_assoc, append-nil));
    white_before = r.white_before;
    are_parts = (r.are_parts.0, r.are_parts.1, r.are_parts.2, IsQualifier-push [] d (All-nil _) passes (lit< tt));
    value = rw r.value refl;
  },
)

more_bytes : (v : Version) (text : List ℕ) (d : ℕ) → HasRead InQualifier v text → is_qualifier_byte d ≡ true → length v.qualifier < 80 → HasRead InQualifier (record v { qualifier = v.qualifier ++ d ∷ [] }) (text ++ d ∷ [])
more_bytes v text d (a, b, c, q, r) passes short = (
  a,
  b,
  c,
  q ++ d ∷ [],
  record {
    before = r.before;
    spelling = rw r.spelling (simp (append_assoc, append-nil));
    white_before = r.white_before;
    are_parts = (r.are_parts.0, r.are_parts.1, r.are_parts.2, IsQualifier-push q d r.are_parts.3.each passes (rw r.value at short));
    value = rw r.value refl;
  },
)

-- The step of a number's stage: white space, a dot, or a digit.
seen_number : (v : Version) (b : ℕ) (dotted : Stage) (other : Option Progress) (q : Progress) → number_step v dotted other b ≡ Some q
    → ((is_white b ≡ true) × (q ≡ at_stage After v)) ⊎ (((b ≡ 46) × (q ≡ at_stage dotted v)) ⊎ (other ≡ Some q))
seen_number v b dotted other q e =
    elim (either (is_white b) (at_stage After v) q _ e) [
      | inl white ↦ inl white
      | inr more ↦ elim (either (b == 46) (at_stage dotted v) q _ more) [
        | inl dot ↦ inr (inl (dot_tested b dot.0, dot.1))
        | inr last ↦ inr (inr last)
      ]
    ]

-- What is read stays what the stage says, byte by byte.
pub HasRead-step : (s : Stage) (v : Version) (q : Progress) (text : List ℕ) (b : ℕ) → HasRead s v text → step (at_stage s v) b ≡ Some q → HasRead q.stage q.version (text ++ b ∷ [])
HasRead-step Before v q text b r e =
    elim (either (is_white b) (at_stage Before v) q _ e) [
      | inl w ↦ rw w.1 (All-push (λ x. is_white x ≡ true) text b r.0 w.0, r.1)
      | inr more ↦ let seen = from_digit (λ n. at_stage InMajor (record v { major = n })) v.major b q more in
          rw seen.2 (first_major v text b r seen.0)
    ]
HasRead-step InMajor v q text b r e =
    elim (seen_number v b ToMinor _ q e) [
      | inl w ↦ rw w.1 (push_white b r.1 w.0)
      | inr rest ↦ elim rest [
        | inl dot ↦ rw dot.1 (r.0, push_dot b r.1 dot.0)
        | inr more ↦ let seen = from_digit (λ n. at_stage InMajor (record v { major = n })) v.major b q more in
            rw seen.2 (more_major v text b r seen.0 seen.1)
      ]
    ]
HasRead-step ToMinor v q text b r e =
    let seen = from_digit (λ n. at_stage InMinor (record v { minor = n })) v.minor b q e in
    rw seen.2 (first_minor v text b r seen.0)
HasRead-step InMinor v q text b r e =
    elim (seen_number v b ToMicro _ q e) [
      | inl w ↦ rw w.1 (push_white b r.2 w.0)
      | inr rest ↦ elim rest [
        | inl dot ↦ rw dot.1 (r.0, r.1, push_dot b r.2 dot.0)
        | inr more ↦ let seen = from_digit (λ n. at_stage InMinor (record v { minor = n })) v.minor b q more in
            rw seen.2 (more_minor v text b r seen.0 seen.1)
      ]
    ]
HasRead-step ToMicro v q text b r e =
    let seen = from_digit (λ n. at_stage InMicro (record v { micro = n })) v.micro b q e in
    rw seen.2 (first_micro v text b r seen.0)
HasRead-step InMicro v q text b r e =
    elim (seen_number v b ToQualifier _ q e) [
      | inl w ↦ rw w.1 (push_white b r.3 w.0)
      | inr rest ↦ elim rest [
        | inl dot ↦ rw dot.1 (r.0, r.1, r.2, push_dot b r.3 dot.0)
        | inr more ↦ let seen = from_digit (λ n. at_stage InMicro (record v { micro = n })) v.micro b q more in
            rw seen.2 (more_micro v text b r seen.0 seen.1)
      ]
    ]
HasRead-step ToQualifier v q text b r e =
    let seen = from_byte (λ bytes. at_stage InQualifier (record v { qualifier = bytes })) [] b q e in
    rw seen.2 (first_byte v text b r seen.0)
HasRead-step InQualifier v q text b r e =
    elim (either (is_white b) (at_stage After v) q _ e) [
      | inl w ↦ rw w.1 (push_white b r.4 w.0)
      | inr more ↦ let seen = from_byte (λ bytes. at_stage InQualifier (record v { qualifier = bytes })) v.qualifier b q more in
          rw seen.2 (more_bytes v text b r seen.0 seen.1)
    ]
HasRead-step After v q text b r e =
    elim (either (is_white b) (at_stage After v) q _ e) [
      | inl w ↦ rw w.1 (push_after b r w.0)
      | inr more ↦ absurd (cc)
    ]

went_on : {A B : Type 0} (f : A → Option B) (o : Option A) (y : B) → option_and_then f o ≡ Some y → (x : A) × (o ≡ Some x) × (f x ≡ Some y)
went_on f None y e = absurd (cc)
went_on f (Some x) y e = (x, refl, e)

HasRead-run : (bytes text : List ℕ) (p q : Progress) → HasRead p.stage p.version text → run bytes p ≡ Some q → HasRead q.stage q.version (text ++ bytes)
HasRead-run [] text p q r e =
    let same : p ≡ q = cc in
    rw append-nil (subst (λ (x : Progress). HasRead x.stage x.version text) same r)
HasRead-run (b ∷ bytes) text p q r e =
    let first = went_on (run bytes) (step p b) q e in
    let next = HasRead-step p.stage p.version first.0 text b r first.1 in
    rw (← append_assoc text (b ∷ []) bytes) (HasRead-run bytes (text ++ b ∷ []) first.0 q next first.2)

-- What is read from the beginning on.
pub HasRead-text : (text : List ℕ) (q : Progress) → run text beginning ≡ Some q → HasRead q.stage q.version text
HasRead-text text q e = HasRead-run text [] beginning q (All-nil _, refl) e

-- Each text that is read so far can go on to one that is accepted.

ends : (s : Stage) (v : Version) (text : List ℕ) → is_whole s ≡ true → HasRead s v text → Begins IsVersionText text
ends s v text whole r = ([], (v, rw append-nil (denoted_whole s v text whole r)))

pub HasRead-Begins : (s : Stage) (v : Version) (text : List ℕ) → HasRead s v text → Begins IsVersionText text
HasRead-Begins Before v text r = ends Before v text refl r
HasRead-Begins InMajor v text r = ends InMajor v text refl r
HasRead-Begins ToMinor v text r = (48 ∷ [], (_, denoted_whole InMinor _ _ refl (first_minor v text 48 r refl)))
HasRead-Begins InMinor v text r = ends InMinor v text refl r
HasRead-Begins ToMicro v text r = (48 ∷ [], (_, denoted_whole InMicro _ _ refl (first_micro v text 48 r refl)))
HasRead-Begins InMicro v text r = ends InMicro v text refl r
HasRead-Begins ToQualifier v text r = (48 ∷ [], (_, denoted_whole InQualifier _ _ refl (first_byte v text 48 r refl)))
HasRead-Begins InQualifier v text r = ends InQualifier v text refl r
HasRead-Begins After v text r = ends After v text refl r
