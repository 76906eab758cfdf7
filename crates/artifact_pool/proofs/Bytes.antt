-- The bytes of ids and of canonical versions.
use Rattle.std.proofs.Common.{◌≡◌, ◌≢◌, ℕ, ◌+◌, ◌%◌, ◌^◌, ◌<◌, ◌≤◌, true, List, [], ◌∷◌, ◌++◌, length, get_or, All, arith, decimal, lit≤, ⊎_elim, length-append}
use Rattle.std.specs.List.{AllPass}
use Rattle.std.specs.Str.{IsAscii}
use Rattle.std.proofs.lemmas.Bool.{cases_lt}
use Rattle.std.proofs.lemmas.Bool.Decides.{nat_tests}
use Rattle.std.proofs.lemmas.Fmt.{decimal_by_steps, length-decimal-le}
use Rattle.std.proofs.lemmas.List.{get_or_past}
use Rattle.std.proofs.lemmas.List.Elements.{All-nil, All-cons, All-push, All-append, All-weaker}
use Rattle.osgi_version.specs.VersionText.{IsVersion, is_qualifier_byte, qualifier_text, version_text}
use Rattle.osgi_version.specs.declared.version.Version.{Version}
use Rattle.unit_model.specs.UnitId.{IsUnitId, is_id_byte}

-- printable ASCII, neither blank nor `/`
pub record IsPlain (b : ℕ) : Type 0 where
  pub high : 33 ≤ b
  pub low : b ≤ 126
  pub no_slash : b ≢ 47

pub plain_ascii : (bytes : List ℕ) → All IsPlain bytes → IsAscii bytes
plain_ascii bytes all i = ⊎_elim
    (λ within. let plain = all i 0 within in let low = plain.low in omega arith)
    (λ past. let e : get_or bytes i 0 ≡ 0 = get_or_past bytes i 0 past in omega arith)
    (cases_lt i (length bytes))

plain_id_byte : (b : ℕ) → is_id_byte b ≡ true → IsPlain b
plain_id_byte b h = record { high = grind (arith, nat_tests); low = grind (arith, nat_tests); no_slash = λ e. grind (arith, nat_tests) }

pub plain_id : (id : List ℕ) → IsUnitId id → All IsPlain id
plain_id id is = All-weaker (λ b. is_id_byte b ≡ true) IsPlain plain_id_byte id is.each

plain_qualifier_byte : (b : ℕ) → is_qualifier_byte b ≡ true → IsPlain b
plain_qualifier_byte b h = record { high = grind (arith, nat_tests); low = grind (arith, nat_tests); no_slash = λ e. grind (arith, nat_tests) }

plain_from : (b : ℕ) → 48 ≤ b → b ≤ 126 → IsPlain b
plain_from b high low = record { high = omega arith; low = low; no_slash = λ e. omega arith }

plain_decimal : (n : ℕ) → n < 2 ^ 64 → All IsPlain (decimal n)
plain_decimal n small = decimal_by_steps (λ _ ds. All IsPlain ds)
    (λ d below. All-cons IsPlain (48 + d) [] (plain_from (48 + d) (omega arith) (omega arith)) (All-nil IsPlain))
    (λ d ds above are. All-push IsPlain ds (48 + d % 10) are (plain_from (48 + d % 10) (omega arith) (omega arith)))
    n small

dot : IsPlain 46
dot = record { high = lit≤ tt; low = lit≤ tt; no_slash = λ is. omega arith }

plain_qualifier : (q : List ℕ) → AllPass is_qualifier_byte q → All IsPlain (qualifier_text q)
plain_qualifier [] each = All-nil IsPlain
plain_qualifier (b ∷ q) each = All-cons IsPlain 46 (b ∷ q) dot (All-weaker (λ x. is_qualifier_byte x ≡ true) IsPlain plain_qualifier_byte (b ∷ q) each)

dotted : (front rest : List ℕ) → All IsPlain front → All IsPlain rest → All IsPlain (front ++ 46 ∷ rest)
dotted front rest first second = All-append IsPlain front (46 ∷ rest) first (All-cons IsPlain 46 rest dot second)

pub plain_version : (v : Version) → IsVersion v → All IsPlain (version_text v)
plain_version v is =
    let major = is.major in
    let minor = is.minor in
    let micro = is.micro in
    dotted (decimal v.major) _ (plain_decimal v.major (omega arith))
    (dotted (decimal v.minor) _ (plain_decimal v.minor (omega arith))
    (All-append IsPlain (decimal v.micro) (qualifier_text v.qualifier) (plain_decimal v.micro (omega arith)) (plain_qualifier v.qualifier is.qualifier)))

qualifier_short : (q : List ℕ) → length q ≤ 80 → length (qualifier_text q) ≤ 81
qualifier_short [] short = omega arith
qualifier_short (b ∷ q) short = omega (arith, short)

number_short : (n : ℕ) → n ≤ 2147483647 → length (decimal n) ≤ 10
number_short n small = length-decimal-le 10 n (omega arith) (omega arith) (omega arith)

-- three numbers of ten digits, two dots, and a qualifier of 80 bytes behind a third
pub version_short : (v : Version) → IsVersion v → length (version_text v) ≤ 113
version_short v is =
    let first = length-append (decimal v.major) (46 ∷ (decimal v.minor ++ 46 ∷ (decimal v.micro ++ qualifier_text v.qualifier))) in
    let second = length-append (decimal v.minor) (46 ∷ (decimal v.micro ++ qualifier_text v.qualifier)) in
    let third = length-append (decimal v.micro) (qualifier_text v.qualifier) in
    let a = number_short v.major is.major in
    let b = number_short v.minor is.minor in
    let c = number_short v.micro is.micro in
    let q = qualifier_short v.qualifier is.short in
    omega (arith, first, second, third, a, b, c, q)
