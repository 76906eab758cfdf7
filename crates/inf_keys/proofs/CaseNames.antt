-- The name of each case is that of its code.
use Rattle.std.proofs.Common.{◌≡◌, Some, refl}
use Rattle.case_table.specs.Rows.{name_of}
use Rattle.inf_keys.specs.declared.fields.Single.{Single}
use Rattle.inf_keys.specs.declared.fields.Single.TheVariants as single
use Rattle.inf_keys.specs.declared.fields.PropertyField.{PropertyField}
use Rattle.inf_keys.specs.declared.fields.PropertyField.TheVariants as property
use Rattle.inf_keys.specs.declared.fields.ProvidedField.{ProvidedField}
use Rattle.inf_keys.specs.declared.fields.ProvidedField.TheVariants as provided
use Rattle.inf_keys.specs.declared.fields.RequiredField.{RequiredField}
use Rattle.inf_keys.specs.declared.fields.RequiredField.TheVariants as required
use Rattle.inf_keys.specs.declared.fields.ArtifactField.{ArtifactField}
use Rattle.inf_keys.specs.declared.fields.ArtifactField.TheVariants as artifact
use Rattle.inf_keys.specs.declared.fields.Phase.{Phase}
use Rattle.inf_keys.specs.declared.fields.Phase.TheVariants as phase
use Rattle.inf_keys.specs.declared.words.Word.{Word}
use Rattle.inf_keys.specs.declared.words.Word.TheVariants as word
use Rattle.inf_keys.specs.Names.{single_name, property_name, provided_name, required_name, artifact_name, phase_name}
use Rattle.inf_keys.specs.NameTables.{numbered, words, word_name, word_place, singles, property_fields, provided_fields, required_fields, artifact_fields, phases}
use Rattle.inf_keys.specs.Order.{single_place, property_place, provided_place, required_place, artifact_place, phase_place}

pub single_named : (x : Single) → name_of (numbered singles) (single_place x) ≡ Some (single_name x)
single_named single.Id = refl
single_named single.Version = refl
single_named single.Singleton = refl
single_named single.Filter = refl
single_named single.UpdateId = refl
single_named single.UpdateRange = refl
single_named single.UpdateSeverity = refl
single_named single.UpdateDescription = refl
single_named single.TouchpointId = refl
single_named single.TouchpointVersion = refl

pub property_named : (x : PropertyField) → name_of (numbered property_fields) (property_place x) ≡ Some (property_name x)
property_named property.Name = refl
property_named property.Value = refl

pub provided_named : (x : ProvidedField) → name_of (numbered provided_fields) (provided_place x) ≡ Some (provided_name x)
provided_named provided.Namespace = refl
provided_named provided.Name = refl
provided_named provided.Version = refl

pub required_named : (x : RequiredField) → name_of (numbered required_fields) (required_place x) ≡ Some (required_name x)
required_named required.Namespace = refl
required_named required.Name = refl
required_named required.Range = refl
required_named required.Greedy = refl
required_named required.Optional = refl
required_named required.Multiple = refl
required_named required.Filter = refl
required_named required.Min = refl
required_named required.Max = refl

pub artifact_named : (x : ArtifactField) → name_of (numbered artifact_fields) (artifact_place x) ≡ Some (artifact_name x)
artifact_named artifact.Classifier = refl
artifact_named artifact.Id = refl
artifact_named artifact.Version = refl

pub phase_named : (x : Phase) → name_of (numbered phases) (phase_place x) ≡ Some (phase_name x)
phase_named phase.Collect = refl
phase_named phase.Unconfigure = refl
phase_named phase.Uninstall = refl
phase_named phase.Install = refl
phase_named phase.Configure = refl

pub word_named : (x : Word) → name_of (numbered words) (word_place x) ≡ Some (word_name x)
word_named word.Properties = refl
word_named word.Provides = refl
word_named word.Requires = refl
word_named word.Artifacts = refl
word_named word.Instructions = refl
word_named word.MetaRequirements = refl
word_named word.Licenses = refl
word_named word.HostRequirements = refl
