-- The order of keys.
use Rattle.std.specs.Prelude.{◌≡◌, ◌≢◌, ℕ, ◌+◌}
use Rattle.std.specs.Cmp.{IsTotalOrder, nat_cmp_total, on_total, then_total}
use Rattle.std.specs.Ordering.{nat_cmp, on, then_cmp}
use Rattle.std.specs.declared.cmp.Ordering.{Ordering}
use Rattle.std.specs.declared.cmp.Ordering.TheVariants.{Greater}
use Rattle.inf_keys.specs.declared.fields.Single.{Single}
use Rattle.inf_keys.specs.declared.fields.Single.TheVariants as single
use Rattle.inf_keys.specs.declared.fields.PropertyField.{PropertyField}
use Rattle.inf_keys.specs.declared.fields.PropertyField.TheVariants as property
use Rattle.inf_keys.specs.declared.fields.ProvidedField.{ProvidedField}
use Rattle.inf_keys.specs.declared.fields.ProvidedField.TheVariants as provided
use Rattle.inf_keys.specs.declared.fields.RequiredField.{RequiredField}
use Rattle.inf_keys.specs.declared.fields.RequiredField.TheVariants as required
use Rattle.inf_keys.specs.declared.fields.ArtifactField.{ArtifactField}
use Rattle.inf_keys.specs.declared.fields.ArtifactField.TheVariants as artifact
use Rattle.inf_keys.specs.declared.fields.Phase.{Phase}
use Rattle.inf_keys.specs.declared.fields.Phase.TheVariants as phase
use Rattle.inf_keys.specs.declared.fields.PhaseField.{PhaseField}
use Rattle.inf_keys.specs.declared.fields.PhaseField.TheVariants as phase_field
use Rattle.inf_keys.specs.declared.key.Owner.{Owner}
use Rattle.inf_keys.specs.declared.key.Owner.TheVariants.{Host, Unit}
use Rattle.inf_keys.specs.declared.key.Part.{Part}
use Rattle.inf_keys.specs.declared.key.Part.TheVariants as part
use Rattle.inf_keys.specs.declared.key.Key.{Key}

abbrev pub single_place : Single → ℕ
single_place single.Id = 0
single_place single.Version = 1
single_place single.Singleton = 2
single_place single.Filter = 3
single_place single.UpdateId = 4
single_place single.UpdateRange = 5
single_place single.UpdateSeverity = 6
single_place single.UpdateDescription = 7
single_place single.TouchpointId = 8
single_place single.TouchpointVersion = 9

abbrev pub property_place : PropertyField → ℕ
property_place property.Name = 0
property_place property.Value = 1

abbrev pub provided_place : ProvidedField → ℕ
provided_place provided.Namespace = 0
provided_place provided.Name = 1
provided_place provided.Version = 2

abbrev pub required_place : RequiredField → ℕ
required_place required.Namespace = 0
required_place required.Name = 1
required_place required.Range = 2
required_place required.Greedy = 3
required_place required.Optional = 4
required_place required.Multiple = 5
required_place required.Filter = 6
required_place required.Min = 7
required_place required.Max = 8

abbrev pub artifact_place : ArtifactField → ℕ
artifact_place artifact.Classifier = 0
artifact_place artifact.Id = 1
artifact_place artifact.Version = 2

abbrev pub phase_place : Phase → ℕ
phase_place phase.Collect = 0
phase_place phase.Unconfigure = 1
phase_place phase.Uninstall = 2
phase_place phase.Install = 3
phase_place phase.Configure = 4

abbrev pub phase_field_place : PhaseField → ℕ
phase_field_place phase_field.Text = 0
phase_field_place phase_field.Import = 1

-- the host first, then the units by their numbers
abbrev pub owner_place : Owner → ℕ
owner_place Host = 0
owner_place (Unit n) = n + 1

-- the single parts first, then the rows of each kind, last the phases
abbrev pub kind_place : Part → ℕ
kind_place (part.Single s) = 0
kind_place (part.Property n f) = 1
kind_place (part.Provided n f) = 2
kind_place (part.Required n f) = 3
kind_place (part.Artifact n f) = 4
kind_place (part.Instruction p f) = 5

-- the number of the row, or the place of the phase
abbrev pub row_place : Part → ℕ
row_place (part.Single s) = 0
row_place (part.Property n f) = n
row_place (part.Provided n f) = n
row_place (part.Required n f) = n
row_place (part.Artifact n f) = n
row_place (part.Instruction p f) = phase_place p

abbrev pub field_place : Part → ℕ
field_place (part.Single s) = single_place s
field_place (part.Property n f) = property_place f
field_place (part.Provided n f) = provided_place f
field_place (part.Required n f) = required_place f
field_place (part.Artifact n f) = artifact_place f
field_place (part.Instruction p f) = phase_field_place f

-- by owner, then by kind, then by row, then by field
abbrev pub key_cmp : Key → Key → Ordering
key_cmp =
    then_cmp (on (λ key. owner_place key.owner) nat_cmp)
    (then_cmp (on (λ key. kind_place key.part) nat_cmp)
    (then_cmp (on (λ key. row_place key.part) nat_cmp) (on (λ key. field_place key.part) nat_cmp)))

pub key_total : IsTotalOrder key_cmp
key_total =
    then_total (on_total (λ (key : Key). owner_place key.owner) nat_cmp_total)
    (then_total (on_total (λ (key : Key). kind_place key.part) nat_cmp_total)
    (then_total (on_total (λ (key : Key). row_place key.part) nat_cmp_total) (on_total (λ (key : Key). field_place key.part) nat_cmp_total)))

-- The keys name fields of one row, or parts of one phase, or single parts, of one owner.
abbrev pub InOneRow : Key → Key → Type 0
InOneRow a b = (a.owner ≡ b.owner) × (kind_place a.part ≡ kind_place b.part) × (row_place a.part ≡ row_place b.part)

-- The first key stands before the second, or is it.
abbrev pub IsUpTo : Key → Key → Type 0
IsUpTo a b = key_cmp a b ≢ Greater
