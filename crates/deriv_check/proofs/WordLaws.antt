-- Facts on words and on lines of words.
use Rattle.std.proofs.Common.{◌≡◌, ℕ, ◌+◌, ◌-◌, ◌/◌, ◌%◌, ◌<◌, ◌≤◌, ◌^◌, ◌==◌, nat_lt, arith, Bool, true, false, List, [], ◌∷◌, ◌++◌, length, take, Option, Some, None, Result, Ok, Err, IfOk, refl, sym, ap, subst, ◌∙◌, append_assoc, All}
use Rattle.std.specs.List.{flat_map, slice_split, join_with_byte}
use Rattle.std.specs.Fmt.{decimal}
use Rattle.std.proofs.lemmas.Bool.Decides.{nat_tests}
use Rattle.std.proofs.lemmas.Fmt.{decimal_by_steps}
use Rattle.std.proofs.lemmas.List.{append-nil, length-append, take_at}
use Rattle.std.proofs.lemmas.List.Elements.{All-nil, All-cons, All-push, All-append, All-weaker, All-head, All-tail}
use Rattle.std.proofs.lemmas.List.Splits.{slice_split_none, slice_split_at, join_with_byte-slice_split}
use Rattle.osgi_version.specs.Field.{field, field_byte, is_field_byte, hex_digit}
use Rattle.std.specs.Str.{IsUtf8}
use Rattle.deriv_check.proofs.FieldLaws.{text_bytes}
use Rattle.deriv_check.proofs.Few.{all_one, all_two, all_three}
use Rattle.deriv_check.specs.EvidenceForm.{whole_lines}
use Rattle.deriv_check.specs.EvidenceText.{spaced, ended}
use Rattle.deriv_check.specs.Reading.{Reading}

-- above the blank, and ASCII
abbrev pub IsAbove : ℕ → Type 0
IsAbove b = (32 < b) × (b < 128)

abbrev pub IsSolid : List ℕ → Type 0
IsSolid = All IsAbove

abbrev IsDigit : ℕ → Type 0
IsDigit b = (48 ≤ b) × (b ≤ 57)

pub decimal_digits : (n : ℕ) → n < 2 ^ 64 → All (λ b. (48 ≤ b) × (b ≤ 57)) (decimal n)
decimal_digits n h = decimal_by_steps (λ m ds. All IsDigit ds)
    (λ m k. all_one IsDigit (48 + m) (omega arith, omega arith))
    (λ m ds k all. All-push IsDigit ds (48 + m % 10) all (omega arith, omega arith)) n h

pub decimal_solid : (n : ℕ) → n < 2 ^ 64 → IsSolid (decimal n)
decimal_solid n h = All-weaker IsDigit IsAbove (λ b d. (omega (arith, d.0), omega (arith, d.1))) (decimal n) (decimal_digits n h)

solid_hex : (d : ℕ) → d < 16 → IsAbove (hex_digit d)
solid_hex d h = by (nat_lt d 10) refl
  where
    by : (t : Bool) → nat_lt d 10 ≡ t → IsAbove (hex_digit d)
    by true e = let low : d < 10 = grind (arith, nat_tests) in rw e (omega arith, omega arith)
    by false e = rw e (omega arith, omega (arith, h))

solid_byte : (b : ℕ) → b < 2 ^ 8 → IsSolid (field_byte b)
solid_byte b h = by (is_field_byte b) refl
  where
    by : (t : Bool) → is_field_byte b ≡ t → IsSolid (field_byte b)
    by true e =
        let low : 32 < b = grind (arith, nat_tests) in
        let high : b ≤ 126 = grind (arith, nat_tests) in
        rw e (all_one IsAbove b (low, omega (arith, high)))
    by false e =
        rw e (all_three IsAbove 37 (hex_digit (b / 16)) (hex_digit (b % 16)) (omega arith, omega arith) (solid_hex (b / 16) (omega arith)) (solid_hex (b % 16) (omega arith)))

solid_bytes : (bytes : List ℕ) → All (λ b. b < 2 ^ 8) bytes → IsSolid (flat_map field_byte bytes)
solid_bytes [] h = All-nil IsAbove
solid_bytes (b ∷ bytes) h =
    All-append IsAbove (field_byte b) (flat_map field_byte bytes) (solid_byte b (All-head (λ c. c < 2 ^ 8) b bytes h)) (solid_bytes bytes (All-tail (λ c. c < 2 ^ 8) b bytes h))

pub field_solid : (bytes : List ℕ) → IsUtf8 bytes → IsSolid (field bytes)
field_solid [] h = all_two IsAbove 37 45 (omega arith, omega arith) (omega arith, omega arith)
field_solid (b ∷ bytes) h = solid_bytes (b ∷ bytes) (text_bytes (b ∷ bytes) h)

-- a blank between solid words
abbrev is_blank : ℕ → Bool
is_blank b = b == 32

no_blanks : (w : List ℕ) → IsSolid w → All (λ b. is_blank b ≡ false) w
no_blanks w h = All-weaker IsAbove (λ b. is_blank b ≡ false) (λ b k. let low = k.0 in grind (arith, nat_tests)) w h

pub split_spaced : (w : List ℕ) (words : List (List ℕ)) → IsSolid w → All IsSolid words → slice_split (λ b. b == 32) (spaced (w ∷ words)) ≡ w ∷ words
split_spaced w [] h all = rw append-nil (slice_split_none is_blank w (no_blanks w h))
split_spaced w (v ∷ words) h all =
    slice_split_at is_blank w 32 (v ++ flat_map (λ u. 32 ∷ u) words) (no_blanks w h) refl
    ∙ ap (λ r. w ∷ r) (split_spaced v words (All-head IsSolid v words all) (All-tail IsSolid v words all))

joined_spaced : (w : List ℕ) (words : List (List ℕ)) → join_with_byte 32 (w ∷ words) ≡ spaced (w ∷ words)
joined_spaced w [] = sym (append-nil w)
joined_spaced w (v ∷ words) = ap (λ r. w ++ 32 ∷ r) (joined_spaced v words)

spaced_joined : (words : List (List ℕ)) → join_with_byte 32 words ≡ spaced words
spaced_joined [] = refl
spaced_joined (w ∷ words) = joined_spaced w words

pub spaced_split : (line : List ℕ) → spaced (slice_split (λ b. b == 32) line) ≡ line
spaced_split line = sym (spaced_joined (slice_split (λ b. b == 32) line)) ∙ join_with_byte-slice_split 32 line

-- words, of which there is one at least
pub record AreWords (words : List (List ℕ)) : Type 0 where
  pub first : List ℕ
  pub others : List (List ℕ)
  pub are : words ≡ first ∷ others
  pub solid_first : IsSolid first
  pub solid_others : All IsSolid others

pub are_words : (w : List ℕ) (words : List (List ℕ)) → IsSolid w → All IsSolid words → AreWords (w ∷ words)
are_words w words h all = record { first = w; others = words; are = refl; solid_first = h; solid_others = all }

pub split_words : (words : List (List ℕ)) → AreWords words → slice_split (λ b. b == 32) (spaced words) ≡ words
split_words words h = ap (λ (ws : List (List ℕ)). slice_split (λ b. b == 32) (spaced ws)) h.are ∙ split_spaced h.first h.others h.solid_first h.solid_others ∙ sym h.are

-- from the words of a line to the line
pub reading_spaced : {X : Type 0} (Valid : X → Type 0) (words : X → List (List ℕ)) (line : List ℕ) (read : Option X)
    → ((x : X) → Valid x → AreWords (words x))
    → Reading Valid words (slice_split (λ b. b == 32) line) read → Reading Valid (λ x. spaced (words x)) line read
reading_spaced Valid words line None solid r = λ x valid e.
    r x valid (ap (slice_split (λ b. b == 32)) e ∙ split_words (words x) (solid x valid))
reading_spaced Valid words line (Some y) solid r =
    (r.0, sym (spaced_split line) ∙ ap spaced r.1, λ x valid e. r.2 x valid (ap (slice_split (λ b. b == 32)) e ∙ split_words (words x) (solid x valid)))

-- the lines of ended lines
abbrev is_end : ℕ → Bool
is_end b = b == 10

abbrev IsInLine : ℕ → Type 0
IsInLine b = (10 < b) × (b < 128)

abbrev pub IsOneLine : List ℕ → Type 0
IsOneLine = All (λ b. (10 < b) × (b < 128))

no_ends : (w : List ℕ) → IsOneLine w → All (λ b. is_end b ≡ false) w
no_ends w h = All-weaker IsInLine (λ b. is_end b ≡ false) (λ b k. let low = k.0 in grind (arith, nat_tests)) w h

split_ended : (lines : List (List ℕ)) → All IsOneLine lines → slice_split (λ b. b == 10) (ended lines) ≡ lines ++ [] ∷ []
split_ended [] all = refl
split_ended (line ∷ lines) all =
    let whole : (line ++ 10 ∷ []) ++ ended lines ≡ line ++ 10 ∷ ended lines = append_assoc line (10 ∷ []) (ended lines) in
    ap (slice_split is_end) whole
    ∙ slice_split_at is_end line 10 (ended lines) (no_ends line (All-head IsOneLine line lines all)) refl
    ∙ ap (λ r. line ∷ r) (split_ended lines (All-tail IsOneLine line lines all))

pub whole_lines-ended : (lines : List (List ℕ)) → All IsOneLine lines → whole_lines (ended lines) ≡ lines
whole_lines-ended lines all =
    let split = split_ended lines all in
    let n : length lines ≡ length (lines ++ [] ∷ []) - 1 = omega (arith, length-append lines ([] ∷ [])) in
    ap (λ (s : List (List ℕ)). take (length s - 1) s) split ∙ take_at lines ([] ∷ []) _ n

-- a line of words is one line
solid_line : (w : List ℕ) → IsSolid w → IsOneLine w
solid_line w h = All-weaker IsAbove IsInLine (λ b k. (omega (arith, k.0), k.1)) w h

one_tail : (words : List (List ℕ)) → All IsSolid words → IsOneLine (flat_map (λ w. 32 ∷ w) words)
one_tail [] all = All-nil IsInLine
one_tail (w ∷ words) all =
    All-cons IsInLine 32 (w ++ flat_map (λ u. 32 ∷ u) words) (omega arith, omega arith)
    (All-append IsInLine w (flat_map (λ u. 32 ∷ u) words) (solid_line w (All-head IsSolid w words all)) (one_tail words (All-tail IsSolid w words all)))

pub spaced_line : (words : List (List ℕ)) → AreWords words → IsOneLine (spaced words)
spaced_line words h =
    subst (λ (ws : List (List ℕ)). IsOneLine (spaced ws)) (sym h.are)
    (All-append IsInLine h.first (flat_map (λ w. 32 ∷ w) h.others) (solid_line h.first h.solid_first) (one_tail h.others h.solid_others))

pub reading_line : {X E : Type 0} (Valid : X → Type 0) (words : X → List (List ℕ)) (line : List ℕ) (found : List (List ℕ)) (read : Result (Option X) E)
    → found ≡ slice_split (λ b. b == 32) line → ((x : X) → Valid x → AreWords (words x))
    → IfOk read (Reading Valid words found) → IfOk read (Reading Valid (λ x. spaced (words x)) line)
reading_line {X} Valid words line found (Ok r) e solid h = reading_spaced Valid words line r solid (subst (λ (ws : List (List ℕ)). Reading Valid words ws r) e h)
reading_line Valid words line found (Err f) e solid h = tt

-- ended lines are ASCII
pub ended_ascii : (lines : List (List ℕ)) → All IsOneLine lines → All (λ b. b < 128) (ended lines)
ended_ascii [] all = All-nil (λ b. b < 128)
ended_ascii (line ∷ lines) all =
    All-append (λ b. b < 128) (line ++ 10 ∷ []) (ended lines)
    (All-append (λ b. b < 128) line (10 ∷ []) (All-weaker IsInLine (λ b. b < 128) (λ b k. k.1) line (All-head IsOneLine line lines all)) (all_one (λ b. b < 128) 10 (omega arith)))
    (ended_ascii lines (All-tail IsOneLine line lines all))
