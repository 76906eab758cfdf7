-- The canonical text of a version denotes it.
use Rattle.std.proofs.Common.{◌≡◌, ◌≢◌, ℕ, ◌<◌, ◌≤◌, ◌^◌, ◌==◌, true, false, List, [], ◌∷◌, ◌++◌, length, refl, ap, arith, append_assoc, append-nil, decimal, Result, Ok, Err, IfOk}
use Rattle.std.specs.List.{AllPass}
use Rattle.std.specs.Char.{is_ascii_digit}
use Rattle.std.specs.Int.{IsInRange}
use Rattle.std.proofs.lemmas.Bool.Decides.{nat_tests}
use Rattle.std.proofs.lemmas.Fmt.{digits_decimal, digits_value-decimal, decimal_nonempty}
use Rattle.std.proofs.lemmas.Str.Parse.{IsNumeralModel, IsDigitsTest, FoldsDigits, numerals_by_fold}
use Rattle.std.proofs.lemmas.List.Elements.{All-head, All-tail, All-cons, All-nil}
use Rattle.osgi_version.specs.VersionText.{digits_value, IsNumber, Micro, Qualified, version, version_text, qualifier_text, DenotesVersion, IsVersion}
use Rattle.osgi_version.specs.declared.version.Version.{Version}
use Rattle.osgi_version.proofs.VersionRuns.{value_from}

digit_from_range : (c : ℕ) → IsInRange 48 57 c → is_ascii_digit c ≡ true
digit_from_range c h = grind (arith, nat_tests)

range_from_digit : (c : ℕ) → is_ascii_digit c ≡ true → IsInRange 48 57 c
range_from_digit c h = grind (arith, nat_tests)

tests_digits : IsDigitsTest (AllPass is_ascii_digit)
tests_digits = record {
  empty = All-nil _;
  parts = λ c cs each. (range_from_digit c (All-head (λ x. is_ascii_digit x ≡ true) c cs each), All-tail (λ x. is_ascii_digit x ≡ true) c cs each);
  more = λ c cs digit each. All-cons (λ x. is_ascii_digit x ≡ true) c cs (digit_from_range c digit) each;
}

folds_digits : FoldsDigits value_from
folds_digits = record {
  empty = λ n. refl;
  more = λ n c cs digit. ap (λ m. value_from m cs) (omega arith);
}

-- std's words for the digits of a number, and these
numerals : IsNumeralModel (AllPass is_ascii_digit) digits_value
numerals = numerals_by_fold (AllPass is_ascii_digit) tests_digits value_from folds_digits

not_empty : (xs : List ℕ) → 0 < length xs → xs ≢ []
not_empty [] more = absurd (omega arith)
not_empty (x ∷ xs) more = λ e. cc

IsNumber-decimal : (n : ℕ) → n ≤ 2147483647 → IsNumber (decimal n)
IsNumber-decimal n small =
    let fits : n < 2 ^ 64 = omega arith in
    record {
      some = not_empty (decimal n) (decimal_nonempty n fits);
      each = digits_decimal numerals n fits;
      small = rw (digits_value-decimal numerals n fits) small;
    }

-- a version's numbers with their digits' values in place of them
value-decimal : (a b c : ℕ) (q : List ℕ) → IsVersion (version a b c q) → version a b c q ≡ version (digits_value (decimal a)) (digits_value (decimal b)) (digits_value (decimal c)) q
value-decimal a b c q is =
    let major = is.major in
    let minor = is.minor in
    let micro = is.micro in
    let first : digits_value (decimal a) ≡ a = digits_value-decimal numerals a (omega arith) in
    let second : digits_value (decimal b) ≡ b = digits_value-decimal numerals b (omega arith) in
    let third : digits_value (decimal c) ≡ c = digits_value-decimal numerals c (omega arith) in
    cc

denotes : (a b c : ℕ) (q : List ℕ) → IsVersion (version a b c q) → DenotesVersion (version_text (version a b c q)) (version a b c q)
denotes a b c [] is = record {
  before = [];
  parts = Micro (decimal a) (decimal b) (decimal c);
  after = [];
  spelling = simp (append_assoc, append-nil);
  white_before = All-nil _;
  white_after = All-nil _;
  are_parts = (IsNumber-decimal a is.major, IsNumber-decimal b is.minor, IsNumber-decimal c is.micro);
  value = value-decimal a b c [] is;
}
denotes a b c (x ∷ q) is = record {
  before = [];
  parts = Qualified (decimal a) (decimal b) (decimal c) (x ∷ q);
  after = [];
  spelling = simp (append_assoc, append-nil);
  white_before = All-nil _;
  white_after = All-nil _;
  are_parts = (
    IsNumber-decimal a is.major,
    IsNumber-decimal b is.minor,
    IsNumber-decimal c is.micro,
    record { some = λ e. cc; each = is.qualifier; short = is.short },
  );
  value = value-decimal a b c (x ∷ q) is;
}

pub DenotesVersion-text : (v : Version) → IsVersion v → DenotesVersion (version_text v) v
DenotesVersion-text v is = denotes v.major v.minor v.micro v.qualifier is

-- The numbers with their dots are the whole text where the qualifier is empty, and else its front.
abbrev numbers_text : Version → List ℕ
numbers_text v = decimal v.major ++ 46 ∷ (decimal v.minor ++ 46 ∷ decimal v.micro)

empty_text : (q : List ℕ) → (length q == 0) ≡ true → qualifier_text q ≡ []
empty_text [] e = refl
empty_text (x ∷ q) e = absurd (grind (arith, nat_tests))

dotted_text : (q : List ℕ) → (length q == 0) ≡ false → qualifier_text q ≡ 46 ∷ q
dotted_text [] e = absurd (grind (arith, nat_tests))
dotted_text (x ∷ q) e = refl

pub version_text-empty : (v : Version) → (length v.qualifier == 0) ≡ true → numbers_text v ≡ version_text v
version_text-empty v e = rw (empty_text v.qualifier e) (simp append-nil)

pub version_text-qualified : (v : Version) → (length v.qualifier == 0) ≡ false → numbers_text v ++ 46 ∷ v.qualifier ≡ version_text v
version_text-qualified v e = rw (dotted_text v.qualifier e) (simp append_assoc)

pub reads_back : {E : Type 0} (v : Version) (r : Result (List ℕ) E) → IsVersion v → IfOk r (λ text. text ≡ version_text v) → IfOk r (λ text. DenotesVersion text v)
reads_back v (Ok text) is e = rw e (DenotesVersion-text v is)
reads_back v (Err fault) is e = tt
