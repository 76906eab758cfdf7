-- A unit's text is ASCII.
use Rattle.std.proofs.Common.{◌≡◌, ℕ, ◌+◌, ◌/◌, ◌%◌, ◌<◌, nat_lt, true, List, [], ◌∷◌, ◌++◌, map, All, refl, sym, subst, arith}
use Rattle.std.specs.Prelude.{codes}
use Rattle.std.specs.List.{flat_map, list_all}
use Rattle.std.specs.Str.{IsAscii, IsUtf8}
use Rattle.std.proofs.lemmas.Bool.Decides.{nat_tests}
use Rattle.std.proofs.lemmas.List.Elements.{All-nil, All-cons, All-head, All-tail, All-append, All-weaker}
use Rattle.std.proofs.lemmas.List.Sums.{AllPass-from_list_all}
use Rattle.std.proofs.lemmas.Str.Ascii.{IsAscii-from_all}
use Rattle.osgi_version.specs.Field.{field, field_byte, is_field_byte, hex_digit}
use Rattle.osgi_version.proofs.Bytes.{AreBytes, AreBytes-utf8, cond_holds}
use Rattle.unit_model.specs.declared.unit.Unit.{Unit as Package}
use Rattle.unit_lines.specs.Line.{behind_blanks}
use Rattle.unit_lines.specs.Words.{word_of}
use Rattle.unit_lines.specs.Parts.{part_line, part_texts, kind_of}
use Rattle.unit_lines.specs.declared.part.Part.{Part}
use Rattle.unit_lines.specs.declared.part.Part.TheVariants as part
use Rattle.unit_text.specs.UnitText.{AreTexts, unit_parts, unit_text, text_of}

abbrev Below : ℕ → Type 0
Below b = b < 128

digit_below : (d : ℕ) → d < 16 → hex_digit d < 128
digit_below d small = cond_holds (λ (n : ℕ). n < 128) (nat_lt d 10) (48 + d) (55 + d) (λ h. omega arith) (λ h. omega arith)

plain_below : (b : ℕ) → is_field_byte b ≡ true → b < 128
plain_below b is = grind (arith, nat_tests)

below_byte : (b : ℕ) → b < 256 → All Below (field_byte b)
below_byte b small = cond_holds (All Below) (is_field_byte b) (b ∷ []) (37 ∷ hex_digit (b / 16) ∷ hex_digit (b % 16) ∷ [])
    (λ is. All-cons Below b [] (plain_below b is) (All-nil Below))
    (λ other.
    All-cons Below 37 (hex_digit (b / 16) ∷ hex_digit (b % 16) ∷ []) (omega arith)
    (All-cons Below (hex_digit (b / 16)) (hex_digit (b % 16) ∷ []) (digit_below (b / 16) (omega arith))
    (All-cons Below (hex_digit (b % 16)) [] (digit_below (b % 16) (omega arith)) (All-nil Below))))

below_bytes : (bytes : List ℕ) → AreBytes bytes → All Below (flat_map field_byte bytes)
below_bytes [] are = All-nil Below
below_bytes (b ∷ bytes) are = All-append Below (field_byte b) (flat_map field_byte bytes) (below_byte b are.0) (below_bytes bytes are.1)

below_field : (text : List ℕ) → AreBytes text → All Below (field text)
below_field [] are = All-cons Below 37 (45 ∷ []) (omega arith) (All-cons Below 45 [] (omega arith) (All-nil Below))
below_field (b ∷ text) are = below_bytes (b ∷ text) are

below_fields : (texts : List (List ℕ)) → All IsUtf8 texts → All Below (behind_blanks (map field texts))
below_fields [] utf8 = All-nil Below
below_fields (text ∷ texts) utf8 =
    All-cons Below 32 (field text ++ behind_blanks (map field texts)) (omega arith)
    (All-append Below (field text) (behind_blanks (map field texts)) (below_field text (AreBytes-utf8 text (All-head IsUtf8 text texts utf8))) (below_fields texts (All-tail IsUtf8 text texts utf8)))

below_test : (bytes : List ℕ) → list_all (λ b. nat_lt b 128) bytes ≡ true → All Below bytes
below_test bytes test = All-weaker (λ b. nat_lt b 128 ≡ true) Below (λ b below. grind (arith, nat_tests)) bytes (AllPass-from_list_all (λ b. nat_lt b 128) bytes test)

below_word : (p : Part) → All Below (word_of (kind_of p))
below_word (part.Name x) = below_test (codes "unit") refl
below_word part.Singleton = below_test (codes "singleton") refl
below_word (part.Filter x) = below_test (codes "filter") refl
below_word (part.Update x) = below_test (codes "update") refl
below_word (part.Touchpoint x) = below_test (codes "touchpoint") refl
below_word (part.Property x) = below_test (codes "property") refl
below_word (part.Provided x) = below_test (codes "provides") refl
below_word (part.Required x) = below_test (codes "requires") refl
below_word (part.Artifact x) = below_test (codes "artifact") refl
below_word (part.Phase x) = below_test (codes "phase") refl
below_word part.End = below_test (codes "end") refl

below_line : (p : Part) → All IsUtf8 (part_texts p) → All Below (part_line p)
below_line p utf8 = All-append Below (word_of (kind_of p)) (behind_blanks (map field (part_texts p))) (below_word p) (below_fields (part_texts p) utf8)

abbrev Texts : Part → Type 0
Texts p = All IsUtf8 (part_texts p)

below_text : (ps : List Part) → All Texts ps → All Below (text_of ps)
below_text [] texts = All-nil Below
below_text (p ∷ ps) texts =
    All-append Below (part_line p ++ 10 ∷ []) (text_of ps)
    (All-append Below (part_line p) (10 ∷ []) (below_line p (All-head Texts p ps texts)) (All-cons Below 10 [] (omega arith) (All-nil Below)))
    (below_text ps (All-tail Texts p ps texts))

pub ascii_unit : (u : Package) → AreTexts u → IsAscii (unit_text u)
ascii_unit u texts = IsAscii-from_all (unit_text u) (below_text (unit_parts u) texts)

pub ascii_same : (u : Package) (bytes : List ℕ) → bytes ≡ unit_text u → AreTexts u → IsAscii bytes
ascii_same u bytes same texts = subst IsAscii (sym same) (ascii_unit u texts)
