-- Lines are cut into their word and their fields in one way.
use Rattle.std.proofs.Common.{◌≡◌, ℕ, ◌+◌, ◌/◌, ◌%◌, ◌<◌, ◌==◌, nat_lt, true, false, List, [], ◌∷◌, ◌++◌, map, All, refl, sym, ap, ◌∙◌, append-nil, arith}
use Rattle.std.specs.List.{slice_split, flat_map, join_with_byte, list_all}
use Rattle.std.proofs.lemmas.Bool.Decides.{nat_tests}
use Rattle.std.proofs.lemmas.List.Elements.{All-nil, All-cons, All-head, All-tail, All-append, All-weaker}
use Rattle.std.proofs.lemmas.List.Splits.{slice_split_at, slice_split_none, join_with_byte-slice_split}
use Rattle.std.proofs.lemmas.List.Sums.{AllPass-from_list_all}
use Rattle.osgi_version.specs.Field.{field, field_byte, is_field_byte, hex_digit}
use Rattle.osgi_version.proofs.Bytes.{cond_holds}
use Rattle.unit_lines.specs.Line.{behind_blanks}
use Rattle.unit_lines.specs.Words.{word_of}
use Rattle.unit_lines.specs.Parts.{part_line, part_texts, kind_of}
use Rattle.unit_lines.specs.declared.words.Kind.{Kind}
use Rattle.unit_lines.specs.declared.words.Kind.TheVariants as kind
use Rattle.unit_lines.specs.declared.part.Part.{Part}

-- Each byte is above that of a blank.
abbrev pub IsSolid : List ℕ → Type 0
IsSolid bytes = All (λ b. 32 < b) bytes

no_blank : (b : ℕ) → 32 < b → (b == 32) ≡ false
no_blank b above = grind (arith, nat_tests)

unbroken : (bytes : List ℕ) → IsSolid bytes → All (λ b. (b == 32) ≡ false) bytes
unbroken bytes solid = All-weaker (λ b. 32 < b) (λ b. (b == 32) ≡ false) no_blank bytes solid

pub split_line : (word : List ℕ) (pieces : List (List ℕ)) → IsSolid word → All IsSolid pieces → slice_split (λ b. b == 32) (word ++ behind_blanks pieces) ≡ word ∷ pieces
split_line word [] solid all = rw (append-nil word) (slice_split_none (λ b. b == 32) word (unbroken word solid))
split_line word (piece ∷ pieces) solid all =
    slice_split_at (λ b. b == 32) word 32 (piece ++ behind_blanks pieces) (unbroken word solid) refl
    ∙ ap (λ ps. word ∷ ps) (split_line piece pieces (All-head IsSolid piece pieces all) (All-tail IsSolid piece pieces all))

joined : (word : List ℕ) (pieces : List (List ℕ)) → join_with_byte 32 (word ∷ pieces) ≡ word ++ behind_blanks pieces
joined word [] = sym (append-nil word)
joined word (piece ∷ pieces) = ap (λ l. word ++ 32 ∷ l) (joined piece pieces)

pub line_split : (line word : List ℕ) (pieces : List (List ℕ)) → slice_split (λ b. b == 32) line ≡ word ∷ pieces → word ++ behind_blanks pieces ≡ line
line_split line word pieces cut = sym (joined word pieces) ∙ (ap (join_with_byte 32) (sym cut) ∙ join_with_byte-slice_split 32 line)

-- fields and words have no blank

digit_above : (d : ℕ) → 32 < hex_digit d
digit_above d = cond_holds (λ (n : ℕ). 32 < n) (nat_lt d 10) (48 + d) (55 + d) (λ h. omega arith) (λ h. omega arith)

plain_above : (b : ℕ) → is_field_byte b ≡ true → 32 < b
plain_above b is = grind (arith, nat_tests)

abbrev Above : ℕ → Type 0
Above b = 32 < b

solid_byte : (b : ℕ) → IsSolid (field_byte b)
solid_byte b = cond_holds IsSolid (is_field_byte b) (b ∷ []) (37 ∷ hex_digit (b / 16) ∷ hex_digit (b % 16) ∷ [])
    (λ is. All-cons Above b [] (plain_above b is) (All-nil Above))
    (λ other.
    All-cons Above 37 (hex_digit (b / 16) ∷ hex_digit (b % 16) ∷ []) (omega arith)
    (All-cons Above (hex_digit (b / 16)) (hex_digit (b % 16) ∷ []) (digit_above (b / 16))
    (All-cons Above (hex_digit (b % 16)) [] (digit_above (b % 16)) (All-nil Above))))

solid_bytes : (bytes : List ℕ) → IsSolid (flat_map field_byte bytes)
solid_bytes [] = All-nil Above
solid_bytes (b ∷ bytes) = All-append Above (field_byte b) (flat_map field_byte bytes) (solid_byte b) (solid_bytes bytes)

pub solid_field : (text : List ℕ) → IsSolid (field text)
solid_field [] = All-cons Above 37 (45 ∷ []) (omega arith) (All-cons Above 45 [] (omega arith) (All-nil Above))
solid_field (b ∷ text) = solid_bytes (b ∷ text)

pub solid_fields : (texts : List (List ℕ)) → All IsSolid (map field texts)
solid_fields [] = All-nil IsSolid
solid_fields (text ∷ texts) = All-cons IsSolid (field text) (map field texts) (solid_field text) (solid_fields texts)

solid_test : (bytes : List ℕ) → list_all (nat_lt 32) bytes ≡ true → IsSolid bytes
solid_test bytes test = All-weaker (λ b. nat_lt 32 b ≡ true) Above (λ b above. grind (arith, nat_tests)) bytes (AllPass-from_list_all (nat_lt 32) bytes test)

pub solid_word : (k : Kind) → IsSolid (word_of k)
solid_word kind.Name = solid_test (word_of kind.Name) refl
solid_word kind.Singleton = solid_test (word_of kind.Singleton) refl
solid_word kind.Filter = solid_test (word_of kind.Filter) refl
solid_word kind.Update = solid_test (word_of kind.Update) refl
solid_word kind.Touchpoint = solid_test (word_of kind.Touchpoint) refl
solid_word kind.Property = solid_test (word_of kind.Property) refl
solid_word kind.Provided = solid_test (word_of kind.Provided) refl
solid_word kind.Required = solid_test (word_of kind.Required) refl
solid_word kind.Artifact = solid_test (word_of kind.Artifact) refl
solid_word kind.Phase = solid_test (word_of kind.Phase) refl
solid_word kind.End = solid_test (word_of kind.End) refl

-- a part's line is cut into its word and its fields
pub split_part : (part : Part) → slice_split (λ b. b == 32) (part_line part) ≡ word_of (kind_of part) ∷ map field (part_texts part)
split_part part = split_line (word_of (kind_of part)) (map field (part_texts part)) (solid_word (kind_of part)) (solid_fields (part_texts part))

-- no LF stands in a part's line

no_lf : (b : ℕ) → 32 < b → (b == 10) ≡ false
no_lf b above = grind (arith, nat_tests)

abbrev Other : ℕ → Type 0
Other b = (b == 10) ≡ false

solid_pieces : (pieces : List (List ℕ)) → All IsSolid pieces → All Other (behind_blanks pieces)
solid_pieces [] all = All-nil Other
solid_pieces (piece ∷ pieces) all =
    All-cons Other 32 (piece ++ behind_blanks pieces) refl
    (All-append Other piece (behind_blanks pieces) (All-weaker Above Other no_lf piece (All-head IsSolid piece pieces all)) (solid_pieces pieces (All-tail IsSolid piece pieces all)))

pub one_line : (part : Part) → All (λ b. (b == 10) ≡ false) (part_line part)
one_line part =
    All-append Other (word_of (kind_of part)) (behind_blanks (map field (part_texts part)))
    (All-weaker Above Other no_lf (word_of (kind_of part)) (solid_word (kind_of part)))
    (solid_pieces (map field (part_texts part)) (solid_fields (part_texts part)))
