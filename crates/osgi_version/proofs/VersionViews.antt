-- A reading's step against the step of what it stands for, and the front of a raw version's text.
use Rattle.std.proofs.Common.{◌≡◌, ℕ, ◌+◌, ◌-◌, ◌<◌, ◌≤◌, ◌&&◌, Bool, true, false, cond, nat_eq, nat_lt, Some, None, option_map, List, [], ◌∷◌, ◌++◌, length, get_or, take, drop, slice_range, refl, ap, sym, ◌∙◌, arith, codes, length-take, length-drop, length-append, get_or-take, get_or-drop, take-append-drop, take-take}
use Rattle.std.specs.List.{AllPass, starts_with}
use Rattle.std.specs.Char.{is_ascii_whitespace}
use Rattle.std.specs.Str.{IsTrimAsciiStart, IsUtf8}
use Rattle.std.specs.Cmp.Lexicographic.{same_text}
use Rattle.std.proofs.lemmas.Bool.Decides.{nat_tests}
use Rattle.std.proofs.lemmas.List.{take_more, drop-take, drop_at, get_or_append_left, get_or_at, get_or_default}
use Rattle.std.proofs.lemmas.List.Elements.{All-weaker}
use Rattle.std.proofs.lemmas.Str.{IsUtf8-from_ascii}
use Rattle.std.proofs.lemmas.Str.Ascii.{IsAscii-from_all}
use Rattle.osgi_version.specs.VersionText.{is_white, is_qualifier_byte, version, IsRaw}
use Rattle.osgi_version.specs.VersionSteps.{at_stage, qualifier_step, step}
use Rattle.osgi_version.specs.VersionReading.{progress_in, version_in, IsReadingAt}
use Rattle.osgi_version.specs.declared.reading.Reading.{Reading}
use Rattle.osgi_version.specs.declared.reading.Stage.TheVariants.{ToQualifier, InQualifier}

-- Two tests that agree, and what both give where they pass.
option_map-test : {A B C : Type 0} (f : A → C) (g : B → C) (test test' : Bool) (x : A) (y : B) → test ≡ test' → f x ≡ g y
    → option_map f (cond test (Some x) None) ≡ option_map g (cond test' (Some y) None)
option_map-test f g true true x y same e = ap Some e
option_map-test f g true false x y same e = absurd (cc)
option_map-test f g false true x y same e = absurd (cc)
option_map-test f g false false x y same e = refl

-- one byte more of the text in a part of it
pub slice_range-more : (text : List ℕ) (start at : ℕ) → start ≤ at → at < length text → slice_range text start (at + 1) ≡ slice_range text start at ++ get_or text at 0 ∷ []
slice_range-more text start at ordered inside =
    let more = take_more (drop start text) (at - start) 0 (omega (arith, length-drop start text)) in
    let place : start + (at - start) ≡ at = omega arith in
    let count : at + 1 - start ≡ at - start + 1 = omega arith in
    let read : get_or (drop start text) (at - start) 0 ≡ get_or text at 0 = get_or-drop start text (at - start) 0 ∙ ap (λ i. get_or text i 0) place in
    ap (λ n. take n (drop start text)) count ∙ (more ∙ ap (λ b. take (at - start) (drop start text) ++ b ∷ []) read)

-- a part of a front
pub slice_range-take : (text : List ℕ) (at start end : ℕ) → start ≤ end → end ≤ at → slice_range (take at text) start end ≡ slice_range text start end
slice_range-take text at start end ordered within =
    let left : at ≡ start + (at - start) = omega arith in
    ap (take (end - start))
    (ap (λ n. drop start (take n text)) left ∙ drop-take start (at - start) text)
    ∙ take-take (end - start) (at - start) (drop start text) (omega arith)

pub length-slice_range : (text : List ℕ) (start at : ℕ) → start ≤ at → at ≤ length text → length (slice_range text start at) ≡ at - start
length-slice_range text start at ordered inside = omega (arith, length-take (at - start) (drop start text), length-drop start text)

-- A byte more in a qualifier, as the reading keeps it and as the version has it.
pub qualifier-step : (text : List ℕ) (r : Reading) (start at : ℕ) → start ≤ at → at < length text
    → option_map (progress_in text) (cond (is_qualifier_byte (get_or text at 0) && nat_lt (at - start) 80) (Some (record r { stage = InQualifier; start = start; end = at + 1 })) None)
    ≡ qualifier_step (version_in text r) (slice_range text start at) (get_or text at 0)
qualifier-step text r start at ordered inside =
    let long : length (slice_range text start at) ≡ at - start = length-slice_range text start at ordered (omega arith) in
    option_map-test (progress_in text) (λ q. at_stage InQualifier (version r.major r.minor r.micro q)) _ _ _ _
    (ap (λ n. is_qualifier_byte (get_or text at 0) && nat_lt n 80) (sym long))
    (ap (λ q. at_stage InQualifier (version r.major r.minor r.micro q)) (slice_range-more text start at ordered inside))

slice_range-none : (text : List ℕ) (at : ℕ) → slice_range text at at ≡ []
slice_range-none text at = let none : at - at ≡ 0 = omega arith in ap (λ n. take n (drop at text)) none

pub step-InQualifier : (text : List ℕ) (r : Reading) (at b : ℕ) → r.stage ≡ InQualifier → r.end ≡ at → is_white b ≡ false
    → qualifier_step (version_in text r) (slice_range text r.start at) b ≡ step (progress_in text r) b
step-InQualifier text r at b stage ended black = rw (stage, black, ended) refl

pub step-ToQualifier : (text : List ℕ) (r : Reading) (at b : ℕ) → r.stage ≡ ToQualifier
    → qualifier_step (version_in text r) (slice_range text at at) b ≡ step (progress_in text r) b
step-ToQualifier text r at b stage = rw (stage, slice_range-none text at) refl

-- A qualifier's bytes are text.
qualifier_byte_ascii : (b : ℕ) → is_qualifier_byte b ≡ true → b < 128
qualifier_byte_ascii b h = grind (arith, nat_tests)

pub qualifier_utf8 : (bytes : List ℕ) → AllPass is_qualifier_byte bytes → IsUtf8 bytes
qualifier_utf8 bytes each =
    IsUtf8-from_ascii bytes (IsAscii-from_all bytes (All-weaker (λ b. is_qualifier_byte b ≡ true) (λ b. b < 128) qualifier_byte_ascii bytes each))

white_is : (b : ℕ) → is_ascii_whitespace b ≡ is_white b
white_is b = grind (arith, nat_tests)

-- The text begins `raw:` behind its white space where what is left of it does.
pub IsRaw-from_test : (text rest : List ℕ) → IsTrimAsciiStart text rest → starts_with nat_eq rest (codes "raw:") ≡ true → IsRaw text
IsRaw-from_test text rest trimmed begins =
    let n = trimmed.0 in
    let front : codes "raw:" ≡ take 4 rest = same_text (codes "raw:") (take 4 rest) (sym begins) in
    let split : text ≡ take n text ++ (codes "raw:" ++ drop 4 rest) =
    sym (take-append-drop n text) ∙ ap (λ xs. take n text ++ xs) (sym trimmed.1 ∙ (sym (take-append-drop 4 rest) ∙ ap (λ xs. xs ++ drop 4 rest) (sym front))) in
    let white : AllPass is_white (take n text) = λ k d inside.
    let below : k < n = omega (arith, length-take n text) in
    let short : k < length text = omega (arith, length-take n text) in
    rw (get_or-take n text k d below, get_or_default text k d 0 short) (sym (white_is (get_or text k 0)) ∙ trimmed.3 k below) in
    (take n text, drop 4 rest, white, split)

pub test-from_IsRaw : (text rest : List ℕ) → IsTrimAsciiStart text rest → IsRaw text → starts_with nat_eq rest (codes "raw:") ≡ true
test-from_IsRaw text rest trimmed raw =
    let n = trimmed.0 in
    let before = raw.0 in
    let read : text ≡ before ++ (codes "raw:" ++ raw.1) = raw.3 in
    let letter : get_or text (length before) 0 ≡ 114 = rw read (get_or_at before 114 (97 ∷ 119 ∷ 58 ∷ raw.1) 0 (length before) refl) in
    let not_more : length before < n → ⊥ = λ more.
    let white : is_ascii_whitespace 114 ≡ true = rw letter at (trimmed.3 (length before) more) in cc in
    let not_less : n < length before → ⊥ = λ less.
    let inside : n < length text = rw read (omega (arith, length-append before (codes "raw:" ++ raw.1))) in
    let same : get_or text n 0 ≡ get_or before n 0 = rw read (get_or_append_left before (codes "raw:" ++ raw.1) 0 n less) in
    let white : is_white (get_or before n 0) ≡ true = raw.2 n 0 less in
    let other : is_ascii_whitespace (get_or before n 0) ≡ false = rw same at (trimmed.4 inside) in
    let both = white_is (get_or before n 0) in
    cc in
    let place : length before ≡ n = omega arith in
    let left : rest ≡ codes "raw:" ++ raw.1 = trimmed.1 ∙ (ap (drop n) read ∙ drop_at before (codes "raw:" ++ raw.1) n place) in
    rw left refl

-- A version that was read in a text is read so in the front where the reading ends.
pub version_in-take : (text : List ℕ) (at : ℕ) (r : Reading) → IsReadingAt at r → version_in (take at text) r ≡ version_in text r
version_in-take text at r is =
    ap (version r.major r.minor r.micro) (slice_range-take text at r.start r.end is.ordered is.within)
