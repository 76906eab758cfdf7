-- How keys are read, word by word. Clauses of private functions alone cite this.
use Rattle.std.specs.Prelude.{ℕ, Bool, nat_eq, List, Option, Some, None, option_map, option_and_then, codes, if◌then◌else◌}
use Rattle.std.specs.List.{starts_with}
use Rattle.std.specs.Str.{bytes_eq}
use Rattle.case_table.specs.Rows.{beside}
use Rattle.inf_keys.specs.declared.fields.Phase.{Phase}
use Rattle.inf_keys.specs.declared.fields.PhaseField.{PhaseField}
use Rattle.inf_keys.specs.declared.fields.PhaseField.TheVariants as phase_field
use Rattle.inf_keys.specs.declared.key.Owner.{Owner}
use Rattle.inf_keys.specs.declared.key.Owner.TheVariants.{Host, Unit}
use Rattle.inf_keys.specs.declared.key.Part.{Part}
use Rattle.inf_keys.specs.declared.key.Part.TheVariants as part
use Rattle.inf_keys.specs.declared.key.Key.{Key}
use Rattle.inf_keys.specs.declared.reading.Reading.{Reading}
use Rattle.inf_keys.specs.declared.reading.Reading.TheVariants as reading
use Rattle.inf_keys.specs.declared.words.Word.{Word}
use Rattle.inf_keys.specs.declared.words.Word.TheVariants as word
use Rattle.inf_keys.specs.Cut.{first_word, behind_first}
use Rattle.inf_keys.specs.Meaning.{has}
use Rattle.inf_keys.specs.NameTables.{Names, words, singles, passed, property_fields, provided_fields, required_fields, artifact_fields, phases}
use Rattle.inf_keys.specs.Number.{number_at_most}

-- `N.REST`
unfoldable pub row_in : List ℕ → Option (ℕ × List ℕ)
row_in text = option_and_then (λ rest. option_map (λ n. (n, rest)) (number_at_most 999999 (first_word text))) (behind_first text)

abbrev pub known : {X : Type 0} → Option X → Reading X
known None = reading.Unknown
known (Some x) = reading.Meaning x

-- a field of a row
abbrev pub field_of_row : {F : Type 0} → (ℕ → F → Part) → Names F → Option (ℕ × List ℕ) → Option Part
field_of_row make fields None = None
field_of_row make fields (Some row) = option_map (make row.0) (beside fields row.1)

abbrev pub row_part : {F : Type 0} → (ℕ → F → Part) → Names F → List ℕ → Option Part
row_part make fields text = field_of_row make fields (row_in text)

abbrev pub required_field_of : Option (ℕ × List ℕ) → Reading Part
required_field_of None = reading.Unknown
required_field_of (Some row) =
    if bytes_eq row.1 (codes "matchExp") then reading.LeftOut else known (field_of_row part.Required required_fields (Some row))

abbrev pub phase_field_in : Option (List ℕ) → Option PhaseField
phase_field_in None = Some phase_field.Text
phase_field_in (Some last) = if bytes_eq last (codes "import") then Some phase_field.Import else None

abbrev pub instruction_of : Option Phase → Option PhaseField → Option Part
instruction_of None field = None
instruction_of (Some phase) field = option_map (part.Instruction phase) field

abbrev pub instruction_part : List ℕ → Option Part
instruction_part text = instruction_of (beside phases (first_word text)) (phase_field_in (behind_first text))

-- what stands behind a first word and its dot
abbrev pub word_reading : Word → List ℕ → Reading Part
word_reading word.Properties rest = known (row_part part.Property property_fields rest)
word_reading word.Provides rest = known (row_part part.Provided provided_fields rest)
word_reading word.Requires rest = required_field_of (row_in rest)
word_reading word.Artifacts rest = known (row_part part.Artifact artifact_fields rest)
word_reading word.Instructions rest = known (instruction_part rest)
word_reading word.MetaRequirements rest = reading.Silent
word_reading word.Licenses rest = reading.Silent
word_reading word.HostRequirements rest = reading.LeftOut

-- a first word, and what stands behind its dot
unfoldable pub word_in : List ℕ → Option (Word × List ℕ)
word_in text = option_and_then (λ rest. option_map (λ w. (w, rest)) (beside words (first_word text))) (behind_first text)

abbrev pub or_known : {X : Type 0} → Option (Reading X) → Option X → Reading X
or_known (Some found) other = found
or_known None other = known other

-- a part without such a first word
unfoldable pub lone_reading : List ℕ → Reading Part
lone_reading text = or_known (beside passed text) (option_map part.Single (beside singles text))

abbrev pub reading_by : List ℕ → Option (Word × List ℕ) → Reading Part
reading_by text None = lone_reading text
reading_by text (Some found) = word_reading found.0 found.1

unfoldable pub part_reading : List ℕ → Reading Part
part_reading text = if starts_with nat_eq text (codes "copyright") then reading.Silent else reading_by text (word_in text)

abbrev pub unit_of : List ℕ → Option (Owner × List ℕ)
unit_of text = option_map (λ found. (Unit found.0, found.1)) (row_in text)

abbrev pub owner_by : List ℕ → Bool → Option (List ℕ) → Option (Owner × List ℕ)
owner_by text is_unit None = Some (Host, text)
owner_by text is_unit (Some rest) = if is_unit then unit_of rest else Some (Host, text)

-- whose part the text names, and what stands behind the owner
unfoldable pub owner_in : List ℕ → Option (Owner × List ℕ)
owner_in text = owner_by text (bytes_eq (first_word text) (codes "units")) (behind_first text)

abbrev pub key_of : Owner → Part → Key
key_of owner part = record { owner = owner; part = part }

-- what an owner's part means
abbrev pub owned : Owner → Reading Part → Reading Key
owned owner (reading.Meaning part) = if has owner part then reading.Meaning (key_of owner part) else reading.Unknown
owned owner reading.Silent = reading.Silent
owned owner reading.LeftOut = reading.LeftOut
owned owner reading.Unknown = reading.Unknown

abbrev pub reading_of : Option (Owner × List ℕ) → Reading Key
reading_of None = reading.Unknown
reading_of (Some found) = owned found.0 (part_reading found.1)

abbrev pub key_reading : List ℕ → Reading Key
key_reading text = reading_of (owner_in text)
