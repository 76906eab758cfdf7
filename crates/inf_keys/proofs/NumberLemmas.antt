-- Facts on numbers in keys.
use Rattle.std.proofs.Common.{◌≡◌, ℕ, ◌+◌, ◌-◌, ◌*◌, ◌<◌, ◌≤◌, ◌^◌, ◌==◌, ◌&&◌, nat_le, Bool, true, false, cond, zero, suc, List, [], ◌∷◌, length, get_or, Some, None, arith, rules, refl, sym, ap, ◌∙◌}
use Rattle.std.specs.Char.{is_ascii_digit}
use Rattle.std.specs.Fmt.{decimal}
use Rattle.std.specs.Str.{all_ascii_digits}
use Rattle.std.proofs.lemmas.Bool.{eqb-true, eqb-false, leb-true, le-leb, and_parts, and_from}
use Rattle.std.proofs.lemmas.Fmt.{decimal_digit, decimal_nonempty, first_decimal, digits_decimal, digits_value-decimal, decimal-digits_value}
use Rattle.std.proofs.lemmas.Option.{same_Some}
use Rattle.std.proofs.lemmas.Str.Parse.{IsNumeralModel, numerals_by_fold}
use Rattle.inf_keys.specs.Number.{digits_from, is_plain, number_at_most}

-- the number that the digits make behind those of `n`
abbrev read_on : ℕ → List ℕ → ℕ
read_on n [] = n
read_on n (c ∷ cs) = read_on (10 * n + (c - 48)) cs

own : IsNumeralModel (λ ds. all_ascii_digits ds ≡ true) (read_on 0)
own = numerals_by_fold _ (search rules) read_on (search rules)

pub decimal_is_digits : (n : ℕ) → n ≤ 999999 → all_ascii_digits (decimal n) ≡ true
decimal_is_digits n h = digits_decimal own n (omega (arith, h))

digits_found : (most number : ℕ) (text : List ℕ) (n : ℕ) → number ≤ most → digits_from most number text ≡ Some n
    → (all_ascii_digits text ≡ true) × (read_on number text ≡ n) × (n ≤ most)
unfolding digits_from
digits_found most number [] n within h =
    let same : number ≡ n = same_Some number n h in
    (refl, same, omega (arith, within, same))
digits_found most number (b ∷ text) n within h =
    by (is_ascii_digit b) refl (nat_le (10 * number + (b - 48)) most) refl h (λ below. digits_found most (10 * number + (b - 48)) text n below)
  where
    Found : Type 0
    Found = (all_ascii_digits (b ∷ text) ≡ true) × (read_on number (b ∷ text) ≡ n) × (n ≤ most)

    by : (t : Bool) → is_ascii_digit b ≡ t → (u : Bool) → nat_le (10 * number + (b - 48)) most ≡ u
        → cond (t && u) (digits_from most (10 * number + (b - 48)) text) None ≡ Some n
        → (10 * number + (b - 48) ≤ most → digits_from most (10 * number + (b - 48)) text ≡ Some n
        → (all_ascii_digits text ≡ true) × (read_on (10 * number + (b - 48)) text ≡ n) × (n ≤ most))
        → Found
    by true e true f k more =
        let rest = more (leb-true _ _ f) k in
        (and_from _ _ e rest.0, rest.1, rest.2)
    by true e false f k more = absurd (cc)
    by false e u f k more = absurd (cc)

grows : (number : ℕ) (text : List ℕ) → number ≤ read_on number text
grows number [] = omega arith
grows number (b ∷ text) = let more = grows (10 * number + (b - 48)) text in omega (arith, more)

digits_again : (most number : ℕ) (text : List ℕ) → all_ascii_digits text ≡ true → read_on number text ≤ most → digits_from most number text ≡ Some (read_on number text)
unfolding digits_from
digits_again most number [] all within = refl
digits_again most number (b ∷ text) all within =
    let next : ℕ = 10 * number + (b - 48) in
    let parts = and_parts (is_ascii_digit b) (all_ascii_digits text) all in
    let more = grows (10 * number + (b - 48)) text in
    let below : 10 * number + (b - 48) ≤ most = omega (arith, more, within) in
    ap (λ t. cond (t && nat_le (10 * number + (b - 48)) most) (digits_from most (10 * number + (b - 48)) text) None) parts.0
    ∙ ap (λ t. cond t (digits_from most (10 * number + (b - 48)) text) None) (le-leb _ _ below)
    ∙ digits_again most (10 * number + (b - 48)) text parts.1 within

plain_text : (text : List ℕ) → 0 < length text → (get_or text 0 0 ≡ 48 → length text ≡ 1) → is_plain text ≡ true
plain_text [] some lead = absurd (omega arith)
plain_text (b ∷ []) some lead = refl
plain_text (b ∷ c ∷ text) some lead = by (b == 48) refl
  where
    by : (t : Bool) → (b == 48) ≡ t → cond t false true ≡ true
    by true e = absurd (omega (arith, lead (eqb-true b 48 e)))
    by false e = refl

lead : (n : ℕ) → n < 2 ^ 64 → get_or (decimal n) 0 0 ≡ 48 → length (decimal n) ≡ 1
lead zero h e = ap length (decimal_digit 0 (omega arith))
lead (suc m) h e = let first = first_decimal (suc m) (omega arith) h in absurd (omega (arith, first, e))

-- The digits of a number are read as it.
pub number_again : (n : ℕ) → n ≤ 999999 → number_at_most 999999 (decimal n) ≡ Some n
number_again n h =
    let small : n < 2 ^ 64 = omega (arith, h) in
    let value = digits_value-decimal own n small in
    let below : read_on 0 (decimal n) ≤ 999999 = omega (arith, value, h) in
    ap (λ t. cond t (digits_from 999999 0 (decimal n)) None) (plain_text (decimal n) (decimal_nonempty n small) (lead n small))
    ∙ digits_again 999999 0 (decimal n) (decimal_is_digits n h) below ∙ ap Some value

spelled : (text : List ℕ) (n : ℕ) → 0 < length text → (get_or text 0 0 ≡ 48 → length text ≡ 1) → digits_from 999999 0 text ≡ Some n → (n ≤ 999999) × (text ≡ decimal n)
spelled text n some lead h =
    let found = digits_found 999999 0 text n (omega arith) h in
    let small : read_on 0 text < 2 ^ 64 = omega (arith, found.1, found.2) in
    (found.2, sym (decimal-digits_value own text found.0 some lead small) ∙ ap decimal found.1)

-- What is read as a number is its digits.
pub number_found : (text : List ℕ) (n : ℕ) → number_at_most 999999 text ≡ Some n → (n ≤ 999999) × (text ≡ decimal n)
number_found [] n h = absurd (cc)
number_found (b ∷ []) n h = spelled (b ∷ []) n (omega arith) (λ e. refl) h
number_found (b ∷ c ∷ text) n h = by (b == 48) refl h
  where
    by : (t : Bool) → (b == 48) ≡ t → cond (cond t false true) (digits_from 999999 0 (b ∷ c ∷ text)) None ≡ Some n → (n ≤ 999999) × (b ∷ c ∷ text ≡ decimal n)
    by true e k = absurd (cc)
    by false e k = spelled (b ∷ c ∷ text) n (omega arith) (λ z. absurd (eqb-false b 48 e z)) k
