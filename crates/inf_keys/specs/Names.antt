-- The names of the parts of a unit.
use Rattle.std.specs.Prelude.{ℕ, List, codes}
use Rattle.inf_keys.specs.declared.fields.Single.{Single}
use Rattle.inf_keys.specs.declared.fields.Single.TheVariants as single
use Rattle.inf_keys.specs.declared.fields.PropertyField.{PropertyField}
use Rattle.inf_keys.specs.declared.fields.PropertyField.TheVariants as property
use Rattle.inf_keys.specs.declared.fields.ProvidedField.{ProvidedField}
use Rattle.inf_keys.specs.declared.fields.ProvidedField.TheVariants as provided
use Rattle.inf_keys.specs.declared.fields.RequiredField.{RequiredField}
use Rattle.inf_keys.specs.declared.fields.RequiredField.TheVariants as required
use Rattle.inf_keys.specs.declared.fields.ArtifactField.{ArtifactField}
use Rattle.inf_keys.specs.declared.fields.ArtifactField.TheVariants as artifact
use Rattle.inf_keys.specs.declared.fields.Phase.{Phase}
use Rattle.inf_keys.specs.declared.fields.Phase.TheVariants as phase

-- the single parts
abbrev pub single_name : Single → List ℕ
single_name single.Id = codes "id"
single_name single.Version = codes "version"
single_name single.Singleton = codes "singleton"
single_name single.Filter = codes "filter"
single_name single.UpdateId = codes "update.id"
single_name single.UpdateRange = codes "update.range"
single_name single.UpdateSeverity = codes "update.severity"
single_name single.UpdateDescription = codes "update.description"
single_name single.TouchpointId = codes "touchpoint.id"
single_name single.TouchpointVersion = codes "touchpoint.version"

-- the fields of a property
abbrev pub property_name : PropertyField → List ℕ
property_name property.Name = codes "name"
property_name property.Value = codes "value"

-- the fields of a provided capability
abbrev pub provided_name : ProvidedField → List ℕ
provided_name provided.Namespace = codes "namespace"
provided_name provided.Name = codes "name"
provided_name provided.Version = codes "version"

-- the fields of a requirement
abbrev pub required_name : RequiredField → List ℕ
required_name required.Namespace = codes "namespace"
required_name required.Name = codes "name"
required_name required.Range = codes "range"
required_name required.Greedy = codes "greedy"
required_name required.Optional = codes "optional"
required_name required.Multiple = codes "multiple"
required_name required.Filter = codes "filter"
required_name required.Min = codes "min"
required_name required.Max = codes "max"

-- the fields of an artifact
abbrev pub artifact_name : ArtifactField → List ℕ
artifact_name artifact.Classifier = codes "classifier"
artifact_name artifact.Id = codes "id"
artifact_name artifact.Version = codes "version"

-- the phases
abbrev pub phase_name : Phase → List ℕ
phase_name phase.Collect = codes "collect"
phase_name phase.Unconfigure = codes "unconfigure"
phase_name phase.Uninstall = codes "uninstall"
phase_name phase.Install = codes "install"
phase_name phase.Configure = codes "configure"
