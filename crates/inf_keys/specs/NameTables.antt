-- Names with what they stand for. Clauses of private functions alone cite this.
use Rattle.std.specs.Prelude.{ℕ, ◌+◌, List, [], ◌∷◌, map, codes}
use Rattle.case_table.specs.Rows.{Row}
use Rattle.inf_keys.specs.declared.fields.Single.{Single}
use Rattle.inf_keys.specs.declared.fields.Single.TheVariants as single
use Rattle.inf_keys.specs.declared.fields.PropertyField.{PropertyField}
use Rattle.inf_keys.specs.declared.fields.PropertyField.TheVariants as property
use Rattle.inf_keys.specs.declared.fields.ProvidedField.{ProvidedField}
use Rattle.inf_keys.specs.declared.fields.ProvidedField.TheVariants as provided
use Rattle.inf_keys.specs.declared.fields.RequiredField.{RequiredField}
use Rattle.inf_keys.specs.declared.fields.RequiredField.TheVariants as required
use Rattle.inf_keys.specs.declared.fields.ArtifactField.{ArtifactField}
use Rattle.inf_keys.specs.declared.fields.ArtifactField.TheVariants as artifact
use Rattle.inf_keys.specs.declared.fields.Phase.{Phase}
use Rattle.inf_keys.specs.declared.fields.Phase.TheVariants as phase
use Rattle.inf_keys.specs.declared.key.Part.{Part}
use Rattle.inf_keys.specs.declared.reading.Reading.{Reading}
use Rattle.inf_keys.specs.declared.reading.Reading.TheVariants as reading
use Rattle.inf_keys.specs.declared.words.Word.{Word}
use Rattle.inf_keys.specs.declared.words.Word.TheVariants as word
use Rattle.inf_keys.specs.Names.{single_name, property_name, provided_name, required_name, artifact_name, phase_name}

-- names, each with what stands beside it
abbrev pub Names : Type 0 → Type 0
Names X = List (List ℕ × X)

-- the rows of a table of these names, with codes from `k` on
abbrev pub numbered_from : {X : Type 0} → ℕ → Names X → List Row
numbered_from k [] = []
numbered_from k (c ∷ cases) = (c.0, k) ∷ numbered_from (k + 1) cases

abbrev pub numbered : {X : Type 0} → Names X → List Row
numbered cases = numbered_from 0 cases

abbrev pub named : {X : Type 0} → (X → List ℕ) → List X → Names X
named name xs = map (λ x. (name x, x)) xs

-- the first words of parts with more than one word, but of single ones
abbrev pub word_name : Word → List ℕ
word_name word.Properties = codes "properties"
word_name word.Provides = codes "provides"
word_name word.Requires = codes "requires"
word_name word.Artifacts = codes "artifacts"
word_name word.Instructions = codes "instructions"
word_name word.MetaRequirements = codes "metaRequirements"
word_name word.Licenses = codes "licenses"
word_name word.HostRequirements = codes "hostRequirements"

abbrev pub word_place : Word → ℕ
word_place word.Properties = 0
word_place word.Provides = 1
word_place word.Requires = 2
word_place word.Artifacts = 3
word_place word.Instructions = 4
word_place word.MetaRequirements = 5
word_place word.Licenses = 6
word_place word.HostRequirements = 7

abbrev pub every_word : List Word
every_word = word.Properties ∷ word.Provides ∷ word.Requires ∷ word.Artifacts ∷ word.Instructions ∷ word.MetaRequirements ∷ word.Licenses ∷ word.HostRequirements ∷ []

abbrev pub words : Names Word
words = named word_name every_word

abbrev pub every_single : List Single
every_single = single.Id ∷ single.Version ∷ single.Singleton ∷ single.Filter ∷ single.UpdateId ∷ single.UpdateRange ∷ single.UpdateSeverity ∷ single.UpdateDescription ∷ single.TouchpointId ∷ single.TouchpointVersion ∷ []

abbrev pub singles : Names Single
singles = named single_name every_single

abbrev pub every_property_field : List PropertyField
every_property_field = property.Name ∷ property.Value ∷ []

abbrev pub property_fields : Names PropertyField
property_fields = named property_name every_property_field

abbrev pub every_provided_field : List ProvidedField
every_provided_field = provided.Namespace ∷ provided.Name ∷ provided.Version ∷ []

abbrev pub provided_fields : Names ProvidedField
provided_fields = named provided_name every_provided_field

abbrev pub every_required_field : List RequiredField
every_required_field = required.Namespace ∷ required.Name ∷ required.Range ∷ required.Greedy ∷ required.Optional ∷ required.Multiple ∷ required.Filter ∷ required.Min ∷ required.Max ∷ []

abbrev pub required_fields : Names RequiredField
required_fields = named required_name every_required_field

abbrev pub every_artifact_field : List ArtifactField
every_artifact_field = artifact.Classifier ∷ artifact.Id ∷ artifact.Version ∷ []

abbrev pub artifact_fields : Names ArtifactField
artifact_fields = named artifact_name every_artifact_field

abbrev pub every_phase : List Phase
every_phase = phase.Collect ∷ phase.Unconfigure ∷ phase.Uninstall ∷ phase.Install ∷ phase.Configure ∷ []

abbrev pub phases : Names Phase
phases = named phase_name every_phase

-- single parts without a meaning
abbrev pub passed : Names (Reading Part)
passed = (codes "advice.version", reading.Silent) ∷ (codes "update.matchExp", reading.LeftOut) ∷ []
