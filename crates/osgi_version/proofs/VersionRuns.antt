-- Reading a text that denotes a version goes through to the end.
use Rattle.std.proofs.Common.{◌≡◌, ℕ, ◌+◌, ◌-◌, ◌*◌, ◌<◌, ◌≤◌, ◌==◌, true, false, nat_le, nat_lt, Option, Some, None, option_and_then, List, [], ◌∷◌, ◌++◌, length, fold, refl, ap, sym, ◌∙◌, arith, append_assoc, append-nil, length-append}
use Rattle.std.specs.List.{AllPass}
use Rattle.std.specs.Char.{is_ascii_digit}
use Rattle.std.proofs.lemmas.Bool.Decides.{nat_tests}
use Rattle.std.proofs.lemmas.List.Elements.{All-head, All-tail}
use Rattle.osgi_version.specs.VersionText.{is_white, is_qualifier_byte, digits_value, IsNumber, IsQualifier, Parts, Nothing, Major, Minor, Micro, Qualified, spelled, AreParts, version, version_of, DenotesVersion}
use Rattle.osgi_version.specs.VersionSteps.{Progress, at_stage, beginning, step, is_whole}
use Rattle.osgi_version.specs.declared.version.Version.{Version}
use Rattle.osgi_version.specs.declared.reading.Stage.{Stage}
use Rattle.osgi_version.specs.declared.reading.Stage.TheVariants.{Before, InMajor, ToMinor, InMinor, ToMicro, InMicro, ToQualifier, InQualifier, After}

-- the progress after a text, where it goes through
abbrev pub run : List ℕ → Progress → Option Progress
run [] p = Some p
run (b ∷ bs) p = option_and_then (run bs) (step p b)

pub run-append : (xs ys : List ℕ) (p : Progress) → run (xs ++ ys) p ≡ option_and_then (run ys) (run xs p)
run-append [] ys p = refl
run-append (b ∷ xs) ys p =
    elim (step p b) as (λ o. option_and_then (run (xs ++ ys)) o ≡ option_and_then (run ys) (option_and_then (run xs) o)) [
      | None ↦ refl
      | Some q ↦ run-append xs ys q
    ]

pub run_then : (xs ys : List ℕ) (p q : Progress) (r : Option Progress) → run xs p ≡ Some q → run ys q ≡ r → run (xs ++ ys) p ≡ r
run_then xs ys p q r first second = run-append xs ys p ∙ (ap (option_and_then (run ys)) first ∙ second)

pub digit_not_white : (b : ℕ) → is_ascii_digit b ≡ true → is_white b ≡ false
digit_not_white b h = grind (arith, nat_tests)

pub digit_not_dot : (b : ℕ) → is_ascii_digit b ≡ true → (b == 46) ≡ false
digit_not_dot b h = grind (arith, nat_tests)

pub qualifier_not_white : (b : ℕ) → is_qualifier_byte b ≡ true → is_white b ≡ false
qualifier_not_white b h = grind (arith, nat_tests)

pub le_test : (m n : ℕ) → m ≤ n → nat_le m n ≡ true
le_test m n h = grind (arith, nat_tests)

pub lt_test : (m n : ℕ) → m < n → nat_lt m n ≡ true
lt_test m n h = grind (arith, nat_tests)

abbrev pub value_from : ℕ → List ℕ → ℕ
value_from n ds = fold (λ n digit. 10 * n + (digit - 48)) n ds

pub value_from-ge : (ds : List ℕ) (n : ℕ) → n ≤ value_from n ds
value_from-ge [] n = omega arith
value_from-ge (d ∷ ds) n = let rest = value_from-ge ds (10 * n + (d - 48)) in omega arith

-- S goes on with a digit
abbrev TakesDigits : (ℕ → Progress) → Type 0
TakesDigits S = (n b : ℕ) → is_ascii_digit b ≡ true → 10 * n + (b - 48) ≤ 2147483647 → step (S n) b ≡ Some (S (10 * n + (b - 48)))

run-digits : (S : ℕ → Progress) → TakesDigits S → (ds : List ℕ) (n : ℕ) → AllPass is_ascii_digit ds → value_from n ds ≤ 2147483647 → run ds (S n) ≡ Some (S (value_from n ds))
run-digits S takes [] n each small = refl
run-digits S takes (d ∷ ds) n each small =
    let grows = value_from-ge ds (10 * n + (d - 48)) in
    ap (option_and_then (run ds)) (takes n d (All-head (λ x. is_ascii_digit x ≡ true) d ds each) (omega arith))
    ∙ run-digits S takes ds (10 * n + (d - 48)) (All-tail (λ x. is_ascii_digit x ≡ true) d ds each) small

-- p begins a number
abbrev BeginsNumber : Progress → (ℕ → Progress) → Type 0
BeginsNumber p S = (b : ℕ) → is_ascii_digit b ≡ true → 10 * 0 + (b - 48) ≤ 2147483647 → step p b ≡ Some (S (10 * 0 + (b - 48)))

run-number : (p : Progress) (S : ℕ → Progress) → BeginsNumber p S → TakesDigits S → (ds : List ℕ) → IsNumber ds → run ds p ≡ Some (S (digits_value ds))
run-number p S begins takes [] number = absurd (number.some refl)
run-number p S begins takes (d ∷ ds) number =
    let grows = value_from-ge ds (10 * 0 + (d - 48)) in
    let small = number.small in
    ap (option_and_then (run ds)) (begins d (All-head (λ x. is_ascii_digit x ≡ true) d ds number.each) (omega arith))
    ∙ run-digits S takes ds (10 * 0 + (d - 48)) (All-tail (λ x. is_ascii_digit x ≡ true) d ds number.each) number.small

run-major : (a : List ℕ) → IsNumber a → run a beginning ≡ Some (at_stage InMajor (version (digits_value a) 0 0 []))
run-major a number =
    run-number beginning (λ n. at_stage InMajor (version n 0 0 []))
    (λ b digit fits. simp (digit_not_white b digit, digit, le_test _ _ fits))
    (λ n b digit fits. simp (digit_not_white b digit, digit_not_dot b digit, digit, le_test _ _ fits))
    a number

run-minor : (m : ℕ) (b : List ℕ) → IsNumber b → run (46 ∷ b) (at_stage InMajor (version m 0 0 [])) ≡ Some (at_stage InMinor (version m (digits_value b) 0 []))
run-minor m b number =
    run-number (at_stage ToMinor (version m 0 0 [])) (λ n. at_stage InMinor (version m n 0 []))
    (λ b digit fits. simp (digit, le_test _ _ fits))
    (λ n b digit fits. simp (digit_not_white b digit, digit_not_dot b digit, digit, le_test _ _ fits))
    b number

run-micro : (m k : ℕ) (c : List ℕ) → IsNumber c → run (46 ∷ c) (at_stage InMinor (version m k 0 [])) ≡ Some (at_stage InMicro (version m k (digits_value c) []))
run-micro m k c number =
    run-number (at_stage ToMicro (version m k 0 [])) (λ n. at_stage InMicro (version m k n []))
    (λ b digit fits. simp (digit, le_test _ _ fits))
    (λ n b digit fits. simp (digit_not_white b digit, digit_not_dot b digit, digit, le_test _ _ fits))
    c number

-- the rest of a qualifier
run-bytes : (m k i : ℕ) (read bytes : List ℕ) → AllPass is_qualifier_byte bytes → length read + length bytes ≤ 80 → run bytes (at_stage InQualifier (version m k i read)) ≡ Some (at_stage InQualifier (version m k i (read ++ bytes)))
run-bytes m k i read [] each short = ap (λ q. Some (at_stage InQualifier (version m k i q))) (sym (append-nil read))
run-bytes m k i read (b ∷ bytes) each short =
    let passes = All-head (λ x. is_qualifier_byte x ≡ true) b bytes each in
    let fits : length read < 80 = omega arith in
    let longer : length (read ++ b ∷ []) + length bytes ≤ 80 = omega (arith, length-append read (b ∷ [])) in
    let stepped : step (at_stage InQualifier (version m k i read)) b ≡ Some (at_stage InQualifier (version m k i (read ++ b ∷ []))) = simp (qualifier_not_white b passes, passes, lt_test _ _ fits) in
    ap (option_and_then (run bytes)) stepped
    ∙ (run-bytes m k i (read ++ b ∷ []) bytes (All-tail (λ x. is_qualifier_byte x ≡ true) b bytes each) longer
    ∙ ap (λ q. Some (at_stage InQualifier (version m k i q))) (append_assoc read (b ∷ []) bytes))

run-qualifier : (m k i : ℕ) (q : List ℕ) → IsQualifier q → run (46 ∷ q) (at_stage InMicro (version m k i [])) ≡ Some (at_stage InQualifier (version m k i q))
run-qualifier m k i [] qualifier = absurd (qualifier.some refl)
run-qualifier m k i (b ∷ bytes) qualifier =
    let passes = All-head (λ x. is_qualifier_byte x ≡ true) b bytes qualifier.each in
    let short = qualifier.short in
    let stepped : step (at_stage ToQualifier (version m k i [])) b ≡ Some (at_stage InQualifier (version m k i (b ∷ []))) = simp passes in
    ap (option_and_then (run bytes)) stepped
    ∙ run-bytes m k i (b ∷ []) bytes (All-tail (λ x. is_qualifier_byte x ≡ true) b bytes qualifier.each) (omega arith)

-- the stage behind the parts
abbrev pub end_of : Parts → Stage
end_of Nothing = Before
end_of (Major a) = InMajor
end_of (Minor a b) = InMinor
end_of (Micro a b c) = InMicro
end_of (Qualified a b c q) = InQualifier

abbrev major_read : List ℕ → Progress
major_read a = at_stage InMajor (version (digits_value a) 0 0 [])

abbrev minor_read : List ℕ → List ℕ → Progress
minor_read a b = at_stage InMinor (version (digits_value a) (digits_value b) 0 [])

abbrev micro_read : List ℕ → List ℕ → List ℕ → Progress
micro_read a b c = at_stage InMicro (version (digits_value a) (digits_value b) (digits_value c) [])

pub run-parts : (parts : Parts) → AreParts parts → run (spelled parts) beginning ≡ Some (at_stage (end_of parts) (version_of parts))
run-parts Nothing are = refl
run-parts (Major a) are = run-major a are
run-parts (Minor a b) are =
    run_then a (46 ∷ b) beginning (major_read a) _ (run-major a are.0) (run-minor (digits_value a) b are.1)
run-parts (Micro a b c) are =
    run_then a (46 ∷ (b ++ 46 ∷ c)) beginning (major_read a) _ (run-major a are.0)
    (run_then (46 ∷ b) (46 ∷ c) (major_read a) (minor_read a b) _ (run-minor (digits_value a) b are.1)
    (run-micro (digits_value a) (digits_value b) c are.2))
run-parts (Qualified a b c q) are =
    run_then a (46 ∷ (b ++ 46 ∷ (c ++ 46 ∷ q))) beginning (major_read a) _ (run-major a are.0)
    (run_then (46 ∷ b) (46 ∷ (c ++ 46 ∷ q)) (major_read a) (minor_read a b) _ (run-minor (digits_value a) b are.1)
    (run_then (46 ∷ c) (46 ∷ q) (minor_read a b) (micro_read a b c) _ (run-micro (digits_value a) (digits_value b) c are.2)
    (run-qualifier (digits_value a) (digits_value b) (digits_value c) q are.3)))

pub run-white_before : (ws : List ℕ) → AllPass is_white ws → run ws beginning ≡ Some beginning
run-white_before [] white = refl
run-white_before (w ∷ ws) white =
    let first = All-head (λ x. is_white x ≡ true) w ws white in
    let stepped : step beginning w ≡ Some beginning = simp first in
    ap (option_and_then (run ws)) stepped ∙ run-white_before ws (All-tail (λ x. is_white x ≡ true) w ws white)

-- the stage behind white space
abbrev behind_white : Stage → Stage
behind_white Before = Before
behind_white _ = After

step-white : (s : Stage) (v : Version) (w : ℕ) → is_whole s ≡ true → is_white w ≡ true → step (at_stage s v) w ≡ Some (at_stage (behind_white s) v)
step-white Before v w whole white = simp white
step-white InMajor v w whole white = simp white
step-white ToMinor v w whole white = cc
step-white InMinor v w whole white = simp white
step-white ToMicro v w whole white = cc
step-white InMicro v w whole white = simp white
step-white ToQualifier v w whole white = cc
step-white InQualifier v w whole white = simp white
step-white After v w whole white = simp white

whole-behind_white : (s : Stage) → is_whole (behind_white s) ≡ true
whole-behind_white Before = refl
whole-behind_white InMajor = refl
whole-behind_white ToMinor = refl
whole-behind_white InMinor = refl
whole-behind_white ToMicro = refl
whole-behind_white InMicro = refl
whole-behind_white ToQualifier = refl
whole-behind_white InQualifier = refl
whole-behind_white After = refl

-- The text goes through, to a stage where it may end, and gives the version.
pub record Reads (text : List ℕ) (v : Version) : Type 0 where
  pub stage : Stage
  pub whole : is_whole stage ≡ true
  pub gives : run text beginning ≡ Some (at_stage stage v)

run-white : (ws : List ℕ) (s : Stage) (v : Version) → is_whole s ≡ true → AllPass is_white ws → (t : Stage) × (is_whole t ≡ true) × (run ws (at_stage s v) ≡ Some (at_stage t v))
run-white [] s v whole white = (s, whole, refl)
run-white (w ∷ ws) s v whole white =
    let first = All-head (λ x. is_white x ≡ true) w ws white in
    let rest = run-white ws (behind_white s) v (whole-behind_white s) (All-tail (λ x. is_white x ≡ true) w ws white) in
    (rest.0, rest.1, ap (option_and_then (run ws)) (step-white s v w whole first) ∙ rest.2)

whole-end_of : (parts : Parts) → is_whole (end_of parts) ≡ true
whole-end_of Nothing = refl
whole-end_of (Major a) = refl
whole-end_of (Minor a b) = refl
whole-end_of (Micro a b c) = refl
whole-end_of (Qualified a b c q) = refl

-- A text of the grammar is read, as the version that it denotes.
pub Reads-denoted : (text : List ℕ) (v : Version) → DenotesVersion text v → Reads text v
Reads-denoted text v d =
    let behind = run-white d.after (end_of d.parts) (version_of d.parts) (whole-end_of d.parts) d.white_after in
    let gives : run (d.before ++ (spelled d.parts ++ d.after)) beginning ≡ Some (at_stage behind.0 (version_of d.parts)) =
    run_then d.before (spelled d.parts ++ d.after) beginning beginning _ (run-white_before d.before d.white_before)
    (run_then (spelled d.parts) d.after beginning (at_stage (end_of d.parts) (version_of d.parts)) _ (run-parts d.parts d.are_parts) behind.2) in
    record { stage = behind.0; whole = behind.1; gives = rw (d.spelling, d.value) gives }
