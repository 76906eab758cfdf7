-- A field is read as each word of a line is.
use Rattle.std.proofs.Common.{◌≡◌, ℕ, ◌<◌, ◌^◌, Option, None, Some, Result, Ok, Err, IfOk, List, [], ◌∷◌, sym, ◌∙◌, All, arith}
use Rattle.std.specs.Prelude.{MatchOption}
use Rattle.std.specs.Str.{IsUtf8}
use Rattle.std.proofs.lemmas.List.Elements.{All-nil, All-cons}
use Rattle.osgi_version.specs.Field.{field, IsFieldOf, IsNoField}
use Rattle.osgi_version.proofs.Bytes.{AreBytes, AreBytes-utf8}
use Rattle.osgi_version.proofs.Fields.{field_injective}
use Rattle.deriv_check.specs.Reading.{Reading}

abbrev IsByte : ℕ → Type 0
IsByte b = b < 2 ^ 8

each_byte : (bytes : List ℕ) → AreBytes bytes → All IsByte bytes
each_byte [] are = All-nil IsByte
each_byte (b ∷ bytes) are = All-cons IsByte b bytes (omega (arith, are.0)) (each_byte bytes are.1)

-- the bytes of a text
pub text_bytes : (bytes : List ℕ) → IsUtf8 bytes → All (λ b. b < 2 ^ 8) bytes
text_bytes bytes h = each_byte bytes (AreBytes-utf8 bytes h)

one_field : (word : List ℕ) (found : Option (List ℕ)) → MatchOption found (IsNoField word) (IsFieldOf word) → Reading IsUtf8 field word found
one_field word None none = λ text utf8 e. none text utf8 (sym e)
one_field word (Some text) is =
    (is.utf8, sym is.spelling, λ other utf8 e. field_injective other text utf8 is.utf8 (sym e ∙ sym is.spelling))

pub field_reading : {E : Type 0} (word : List ℕ) (read : Result (Option (List ℕ)) E) → IfOk read (λ found. MatchOption found (IsNoField word) (IsFieldOf word))
    → IfOk read (Reading IsUtf8 field word)
field_reading word (Ok found) is = one_field word found is
field_reading word (Err e) is = tt
