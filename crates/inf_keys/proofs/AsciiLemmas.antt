-- Keys are ASCII.
use Rattle.std.proofs.Common.{◌≡◌, ℕ, ◌<◌, ◌^◌, nat_lt, zero, suc, true, List, [], ◌∷◌, ◌++◌, codes, arith, refl}
use Rattle.std.specs.Fmt.{decimal}
use Rattle.std.specs.List.{list_all}
use Rattle.std.specs.Str.{IsAscii}
use Rattle.std.proofs.lemmas.Bool.{ltb-true, and_parts}
use Rattle.std.proofs.lemmas.Fmt.{IsAscii-decimal}
use Rattle.std.proofs.lemmas.Str.{IsAscii-append}
use Rattle.inf_keys.specs.declared.fields.Single.{Single}
use Rattle.inf_keys.specs.declared.fields.Single.TheVariants as single
use Rattle.inf_keys.specs.declared.fields.PropertyField.{PropertyField}
use Rattle.inf_keys.specs.declared.fields.PropertyField.TheVariants as property
use Rattle.inf_keys.specs.declared.fields.ProvidedField.{ProvidedField}
use Rattle.inf_keys.specs.declared.fields.ProvidedField.TheVariants as provided
use Rattle.inf_keys.specs.declared.fields.RequiredField.{RequiredField}
use Rattle.inf_keys.specs.declared.fields.RequiredField.TheVariants as required
use Rattle.inf_keys.specs.declared.fields.ArtifactField.{ArtifactField}
use Rattle.inf_keys.specs.declared.fields.ArtifactField.TheVariants as artifact
use Rattle.inf_keys.specs.declared.fields.Phase.{Phase}
use Rattle.inf_keys.specs.declared.fields.Phase.TheVariants as phase
use Rattle.inf_keys.specs.declared.fields.PhaseField.{PhaseField}
use Rattle.inf_keys.specs.declared.fields.PhaseField.TheVariants as phase_field
use Rattle.inf_keys.specs.declared.key.Owner.TheVariants.{Unit}
use Rattle.inf_keys.specs.declared.key.Part.TheVariants as part
use Rattle.inf_keys.specs.declared.words.Word.{Word}
use Rattle.inf_keys.specs.declared.words.Word.TheVariants as word
use Rattle.inf_keys.specs.KeyText.{row_text, part_text, owner_text}
use Rattle.inf_keys.specs.NameTables.{word_name}
use Rattle.inf_keys.specs.Names.{single_name, property_name, provided_name, required_name, artifact_name}

-- bytes that are tested one by one
below : (text : List ℕ) → list_all (λ b. nat_lt b 128) text ≡ true → IsAscii text
below [] h i = omega arith
below (b ∷ text) h zero = ltb-true b 128 (and_parts _ _ h).0
below (b ∷ text) h (suc i) = below text (and_parts _ _ h).1 i

word_ascii : (w : Word) → IsAscii (word_name w)
word_ascii word.Properties = below (word_name word.Properties) refl
word_ascii word.Provides = below (word_name word.Provides) refl
word_ascii word.Requires = below (word_name word.Requires) refl
word_ascii word.Artifacts = below (word_name word.Artifacts) refl
word_ascii word.Instructions = below (word_name word.Instructions) refl
word_ascii word.MetaRequirements = below (word_name word.MetaRequirements) refl
word_ascii word.Licenses = below (word_name word.Licenses) refl
word_ascii word.HostRequirements = below (word_name word.HostRequirements) refl

pub single_ascii : (x : Single) → IsAscii (single_name x)
single_ascii single.Id = below (single_name single.Id) refl
single_ascii single.Version = below (single_name single.Version) refl
single_ascii single.Singleton = below (single_name single.Singleton) refl
single_ascii single.Filter = below (single_name single.Filter) refl
single_ascii single.UpdateId = below (single_name single.UpdateId) refl
single_ascii single.UpdateRange = below (single_name single.UpdateRange) refl
single_ascii single.UpdateSeverity = below (single_name single.UpdateSeverity) refl
single_ascii single.UpdateDescription = below (single_name single.UpdateDescription) refl
single_ascii single.TouchpointId = below (single_name single.TouchpointId) refl
single_ascii single.TouchpointVersion = below (single_name single.TouchpointVersion) refl

pub property_ascii : (x : PropertyField) → IsAscii (property_name x)
property_ascii property.Name = below (property_name property.Name) refl
property_ascii property.Value = below (property_name property.Value) refl

pub provided_ascii : (x : ProvidedField) → IsAscii (provided_name x)
provided_ascii provided.Namespace = below (provided_name provided.Namespace) refl
provided_ascii provided.Name = below (provided_name provided.Name) refl
provided_ascii provided.Version = below (provided_name provided.Version) refl

pub required_ascii : (x : RequiredField) → IsAscii (required_name x)
required_ascii required.Namespace = below (required_name required.Namespace) refl
required_ascii required.Name = below (required_name required.Name) refl
required_ascii required.Range = below (required_name required.Range) refl
required_ascii required.Greedy = below (required_name required.Greedy) refl
required_ascii required.Optional = below (required_name required.Optional) refl
required_ascii required.Multiple = below (required_name required.Multiple) refl
required_ascii required.Filter = below (required_name required.Filter) refl
required_ascii required.Min = below (required_name required.Min) refl
required_ascii required.Max = below (required_name required.Max) refl

pub artifact_ascii : (x : ArtifactField) → IsAscii (artifact_name x)
artifact_ascii artifact.Classifier = below (artifact_name artifact.Classifier) refl
artifact_ascii artifact.Id = below (artifact_name artifact.Id) refl
artifact_ascii artifact.Version = below (artifact_name artifact.Version) refl

pub instruction_ascii : (p : Phase) (f : PhaseField) → IsAscii (part_text (part.Instruction p f))
instruction_ascii phase.Collect phase_field.Text = below (part_text (part.Instruction phase.Collect phase_field.Text)) refl
instruction_ascii phase.Collect phase_field.Import = below (part_text (part.Instruction phase.Collect phase_field.Import)) refl
instruction_ascii phase.Unconfigure phase_field.Text = below (part_text (part.Instruction phase.Unconfigure phase_field.Text)) refl
instruction_ascii phase.Unconfigure phase_field.Import = below (part_text (part.Instruction phase.Unconfigure phase_field.Import)) refl
instruction_ascii phase.Uninstall phase_field.Text = below (part_text (part.Instruction phase.Uninstall phase_field.Text)) refl
instruction_ascii phase.Uninstall phase_field.Import = below (part_text (part.Instruction phase.Uninstall phase_field.Import)) refl
instruction_ascii phase.Install phase_field.Text = below (part_text (part.Instruction phase.Install phase_field.Text)) refl
instruction_ascii phase.Install phase_field.Import = below (part_text (part.Instruction phase.Install phase_field.Import)) refl
instruction_ascii phase.Configure phase_field.Text = below (part_text (part.Instruction phase.Configure phase_field.Text)) refl
instruction_ascii phase.Configure phase_field.Import = below (part_text (part.Instruction phase.Configure phase_field.Import)) refl

dotted : (n : ℕ) (rest : List ℕ) → n < 2 ^ 32 → IsAscii rest → IsAscii (decimal n ++ 46 ∷ rest)
dotted n rest small ascii =
    IsAscii-append (decimal n) (46 ∷ rest) (IsAscii-decimal n (omega (arith, small))) (IsAscii-append (46 ∷ []) rest (below (46 ∷ []) refl) ascii)

pub row_ascii : (w : Word) (n : ℕ) (field : List ℕ) → n < 2 ^ 32 → IsAscii field → IsAscii (row_text (word_name w) n field)
row_ascii w n field small ascii =
    IsAscii-append (word_name w) (46 ∷ (decimal n ++ 46 ∷ field)) (word_ascii w) (IsAscii-append (46 ∷ []) (decimal n ++ 46 ∷ field) (below (46 ∷ []) refl) (dotted n field small ascii))

pub unit_ascii : (n : ℕ) → n < 2 ^ 32 → IsAscii (owner_text (Unit n) [])
unit_ascii n small = IsAscii-append (codes "units.") (decimal n ++ 46 ∷ []) (below (codes "units.") refl) (dotted n [] small (below [] refl))
