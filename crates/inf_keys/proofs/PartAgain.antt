-- What is written of a part is read again.
use Rattle.std.proofs.Common.{◌≡◌, ℕ, cond, List, ◌∷◌, ◌++◌, Some, option_map, codes, inl, inr, refl, ap, ◌∙◌}
use Rattle.std.specs.Bool.{⊤}
use Rattle.std.specs.Fmt.{decimal}
use Rattle.std.proofs.lemmas.Bool.Decides.{Decides-eqb}
use Rattle.std.proofs.lemmas.Slice.Eq.{starts_is}
use Rattle.case_table.specs.Rows.{beside}
use Rattle.inf_keys.specs.declared.fields.Single.{Single}
use Rattle.inf_keys.specs.declared.fields.Single.TheVariants as single
use Rattle.inf_keys.specs.declared.fields.PropertyField.{PropertyField}
use Rattle.inf_keys.specs.declared.fields.PropertyField.TheVariants as property
use Rattle.inf_keys.specs.declared.fields.ProvidedField.{ProvidedField}
use Rattle.inf_keys.specs.declared.fields.ProvidedField.TheVariants as provided
use Rattle.inf_keys.specs.declared.fields.RequiredField.{RequiredField}
use Rattle.inf_keys.specs.declared.fields.RequiredField.TheVariants as required
use Rattle.inf_keys.specs.declared.fields.ArtifactField.{ArtifactField}
use Rattle.inf_keys.specs.declared.fields.ArtifactField.TheVariants as artifact
use Rattle.inf_keys.specs.declared.fields.Phase.{Phase}
use Rattle.inf_keys.specs.declared.fields.Phase.TheVariants as phase
use Rattle.inf_keys.specs.declared.fields.PhaseField.TheVariants as phase_field
use Rattle.inf_keys.specs.declared.key.Part.{Part}
use Rattle.inf_keys.specs.declared.key.Part.TheVariants as part
use Rattle.inf_keys.specs.declared.reading.Reading.{Reading}
use Rattle.inf_keys.specs.declared.reading.Reading.TheVariants as reading
use Rattle.inf_keys.specs.declared.words.Word.{Word}
use Rattle.inf_keys.specs.declared.words.Word.TheVariants as word
use Rattle.inf_keys.specs.KeyReading.{known, field_of_row, required_field_of, word_reading, word_in, lone_reading, reading_by, part_reading}
use Rattle.inf_keys.specs.KeyText.{part_text}
use Rattle.inf_keys.specs.Meaning.{IsPart, IsSilentPart, IsLeftOutPart}
use Rattle.inf_keys.specs.NameTables.{word_name, property_fields, provided_fields, artifact_fields}
use Rattle.inf_keys.specs.Names.{single_name, property_name, provided_name, required_name, artifact_name, phase_name}
use Rattle.inf_keys.proofs.RowLemmas.{row_again}
use Rattle.inf_keys.proofs.PartFound.{FoundPart}

by_word : (w : Word) (rest : List ℕ) → part_reading (word_name w ++ 46 ∷ rest) ≡ word_reading w rest
unfolding part_reading word_in
by_word word.Properties rest = refl
by_word word.Provides rest = refl
by_word word.Requires rest = refl
by_word word.Artifacts rest = refl
by_word word.Instructions rest = refl
by_word word.MetaRequirements rest = refl
by_word word.Licenses rest = refl
by_word word.HostRequirements rest = refl

single_again : (s : Single) → part_reading (single_name s) ≡ reading.Meaning (part.Single s)
unfolding part_reading word_in lone_reading
single_again single.Id = refl
single_again single.Version = refl
single_again single.Singleton = refl
single_again single.Filter = refl
single_again single.UpdateId = refl
single_again single.UpdateRange = refl
single_again single.UpdateSeverity = refl
single_again single.UpdateDescription = refl
single_again single.TouchpointId = refl
single_again single.TouchpointVersion = refl

property_again : (f : PropertyField) → beside property_fields (property_name f) ≡ Some f
property_again property.Name = refl
property_again property.Value = refl

provided_again : (f : ProvidedField) → beside provided_fields (provided_name f) ≡ Some f
provided_again provided.Namespace = refl
provided_again provided.Name = refl
provided_again provided.Version = refl

artifact_again : (f : ArtifactField) → beside artifact_fields (artifact_name f) ≡ Some f
artifact_again artifact.Classifier = refl
artifact_again artifact.Id = refl
artifact_again artifact.Version = refl

required_again : (n : ℕ) (f : RequiredField) → required_field_of (Some (n, required_name f)) ≡ reading.Meaning (part.Required n f)
required_again n required.Namespace = refl
required_again n required.Name = refl
required_again n required.Range = refl
required_again n required.Greedy = refl
required_again n required.Optional = refl
required_again n required.Multiple = refl
required_again n required.Filter = refl
required_again n required.Min = refl
required_again n required.Max = refl

text_again : (p : Phase) → word_reading word.Instructions (phase_name p) ≡ reading.Meaning (part.Instruction p phase_field.Text)
text_again phase.Collect = refl
text_again phase.Unconfigure = refl
text_again phase.Uninstall = refl
text_again phase.Install = refl
text_again phase.Configure = refl

import_again : (p : Phase) → word_reading word.Instructions (phase_name p ++ codes ".import") ≡ reading.Meaning (part.Instruction p phase_field.Import)
import_again phase.Collect = refl
import_again phase.Unconfigure = refl
import_again phase.Uninstall = refl
import_again phase.Install = refl
import_again phase.Configure = refl

part_again : (p : Part) → IsPart p → part_reading (part_text p) ≡ reading.Meaning p
part_again (part.Single s) h = single_again s
part_again (part.Property n f) h =
    by_word word.Properties (decimal n ++ 46 ∷ property_name f) ∙ ap (λ o. known (field_of_row part.Property property_fields o)) (row_again n (property_name f) h)
    ∙ ap (λ o. known (option_map (part.Property n) o)) (property_again f)
part_again (part.Provided n f) h =
    by_word word.Provides (decimal n ++ 46 ∷ provided_name f) ∙ ap (λ o. known (field_of_row part.Provided provided_fields o)) (row_again n (provided_name f) h)
    ∙ ap (λ o. known (option_map (part.Provided n) o)) (provided_again f)
part_again (part.Required n f) h =
    by_word word.Requires (decimal n ++ 46 ∷ required_name f) ∙ ap required_field_of (row_again n (required_name f) h) ∙ required_again n f
part_again (part.Artifact n f) h =
    by_word word.Artifacts (decimal n ++ 46 ∷ artifact_name f) ∙ ap (λ o. known (field_of_row part.Artifact artifact_fields o)) (row_again n (artifact_name f) h)
    ∙ ap (λ o. known (option_map (part.Artifact n) o)) (artifact_again f)
part_again (part.Instruction p phase_field.Text) h = by_word word.Instructions (phase_name p) ∙ text_again p
part_again (part.Instruction p phase_field.Import) h = by_word word.Instructions (phase_name p ++ codes ".import") ∙ import_again p

copyright_again : (text rest : List ℕ) → text ≡ codes "copyright" ++ rest → part_reading text ≡ reading.Silent
unfolding part_reading
copyright_again text rest e = ap (λ t. cond t reading.Silent (reading_by text (word_in text))) ((starts_is Decides-eqb text (codes "copyright") _ refl).1 rest e)

advice_again : part_reading (codes "advice.version") ≡ reading.Silent
unfolding part_reading word_in lone_reading
advice_again = refl

update_again : part_reading (codes "update.matchExp") ≡ reading.LeftOut
unfolding part_reading word_in lone_reading
update_again = refl

silent_again : (text : List ℕ) → IsSilentPart text → part_reading text ≡ reading.Silent
silent_again text (inl e) = ap part_reading e ∙ advice_again
silent_again text (inr (inl (rest, e))) = ap part_reading e ∙ by_word word.MetaRequirements rest
silent_again text (inr (inr (inl (rest, e)))) = ap part_reading e ∙ by_word word.Licenses rest
silent_again text (inr (inr (inr (rest, e)))) = copyright_again text rest e

left_out_again : (text : List ℕ) → IsLeftOutPart text → part_reading text ≡ reading.LeftOut
left_out_again text (inl e) = ap part_reading e ∙ update_again
left_out_again text (inr (inl (rest, e))) = ap part_reading e ∙ by_word word.HostRequirements rest
left_out_again text (inr (inr (n, small, e))) =
    ap part_reading e ∙ by_word word.Requires (decimal n ++ 46 ∷ codes "matchExp") ∙ ap required_field_of (row_again n (codes "matchExp") small)

-- says something of the text
abbrev pub IsMeant : {X : Type 0} → Reading X → Type 0
IsMeant (reading.Meaning x) = ⊤
IsMeant reading.Silent = ⊤
IsMeant reading.LeftOut = ⊤
IsMeant reading.Unknown = ⊥

pub found_again : (text : List ℕ) (r : Reading Part) → FoundPart text r → IsMeant r → part_reading text ≡ r
found_again text (reading.Meaning p) h m = ap part_reading h.1 ∙ part_again p h.0
found_again text reading.Silent h m = silent_again text h
found_again text reading.LeftOut h m = left_out_again text h
found_again text reading.Unknown h m = absurd m
