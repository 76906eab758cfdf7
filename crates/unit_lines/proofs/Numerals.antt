-- std's words for the digits of a number, and those of versions.
use Rattle.std.proofs.Common.{◌≡◌, ◌≢◌, ℕ, ◌+◌, ◌-◌, ◌*◌, ◌<◌, ◌≤◌, ◌^◌, true, Result, Ok, sym, ◌∙◌, subst, List, [], ◌∷◌, length, refl, ap, arith, fold, decimal}
use Rattle.std.specs.List.{AllPass}
use Rattle.std.specs.Char.{is_ascii_digit}
use Rattle.std.specs.Int.{IsInRange}
use Rattle.std.specs.Str.Parse.{ParsesUnsigned}
use Rattle.std.proofs.lemmas.Bool.Decides.{nat_tests}
use Rattle.std.proofs.lemmas.Fmt.{digits_decimal, digits_value-decimal, decimal_nonempty}
use Rattle.std.proofs.lemmas.Str.Parse.{parse_gives, IsNumeralModel, IsDigitsTest, FoldsDigits, numerals_by_fold}
use Rattle.std.proofs.lemmas.List.Elements.{All-head, All-tail, All-cons, All-nil}
use Rattle.osgi_version.specs.VersionText.{digits_value, IsNumber}

digit_from_range : (c : ℕ) → IsInRange 48 57 c → is_ascii_digit c ≡ true
digit_from_range c h = grind (arith, nat_tests)

range_from_digit : (c : ℕ) → is_ascii_digit c ≡ true → IsInRange 48 57 c
range_from_digit c h = grind (arith, nat_tests)

tests_digits : IsDigitsTest (AllPass is_ascii_digit)
tests_digits = record {
  empty = All-nil _;
  parts = λ c cs each. (range_from_digit c (All-head (λ x. is_ascii_digit x ≡ true) c cs each), All-tail (λ x. is_ascii_digit x ≡ true) c cs each);
  more = λ c cs digit each. All-cons (λ x. is_ascii_digit x ≡ true) c cs (digit_from_range c digit) each;
}

-- the value of digits behind those of n
abbrev value_from : ℕ → List ℕ → ℕ
value_from n digits = fold (λ m digit. 10 * m + (digit - 48)) n digits

folds_digits : FoldsDigits value_from
folds_digits = record {
  empty = λ n. refl;
  more = λ n c cs digit. ap (λ m. value_from m cs) (omega arith);
}

pub numerals : IsNumeralModel (AllPass is_ascii_digit) digits_value
numerals = numerals_by_fold (AllPass is_ascii_digit) tests_digits value_from folds_digits

not_empty : (xs : List ℕ) → 0 < length xs → xs ≢ []
not_empty [] more = absurd (omega arith)
not_empty (x ∷ xs) more = λ e. cc

pub IsNumber-decimal : (n : ℕ) → n ≤ 2147483647 → IsNumber (decimal n)
IsNumber-decimal n small =
    let fits : n < 2 ^ 64 = omega arith in
    record {
      some = not_empty (decimal n) (decimal_nonempty n fits);
      each = digits_decimal numerals n fits;
      small = rw (digits_value-decimal numerals n fits) small;
    }

pub decimal_value : (n : ℕ) → n ≤ 2147483647 → digits_value (decimal n) ≡ n
decimal_value n small = digits_value-decimal numerals n (omega arith)

-- A number's digits are read as the number.
pub parsed : {E : Type 0} (n : ℕ) (text : List ℕ) (r : Result ℕ E) → n ≤ 2147483647 → decimal n ≡ text → ParsesUnsigned 32 10 text r → r ≡ Ok n
parsed n text r small same parses =
    let fits : n < 2 ^ 64 = omega arith in
    let digits : AllPass is_ascii_digit text = subst (AllPass is_ascii_digit) same (digits_decimal numerals n fits) in
    let some : 0 < length text = subst (λ (t : List ℕ). 0 < length t) same (decimal_nonempty n fits) in
    let value : digits_value text ≡ n = ap digits_value (sym same) ∙ decimal_value n small in
    let below : digits_value text < 2 ^ 32 = omega (arith, value) in
    parse_gives numerals 32 text r parses digits some below ∙ ap Ok value
