-- The parts of a unit, where `at` is the value of each key that has one. The host is the owner 0, and unit N is N + 1.
use Rattle.std.specs.Prelude.{ℕ, ◌-◌, ◌==◌, ◌&&◌, ◌||◌, not, nat_lt, Bool, true, false, List, [], ◌∷◌, ◌++◌, length, Option, Some, None, Result, Ok, Err, unwrap_or, codes, if◌then◌else◌}
use Rattle.std.specs.List.{list_any}
use Rattle.std.specs.Str.{bytes_eq}
use Rattle.osgi_version.specs.declared.version.Version.{Version}
use Rattle.unit_model.specs.declared.name.UnitName.{UnitName}
use Rattle.unit_model.specs.declared.update.Update.{Update}
use Rattle.unit_model.specs.declared.touchpoint.Touchpoint.{Touchpoint}
use Rattle.unit_model.specs.declared.property.Property.{Property}
use Rattle.unit_model.specs.declared.provided.Provided.{Provided}
use Rattle.unit_model.specs.declared.required.Required.{Required}
use Rattle.unit_model.specs.declared.artifact.ArtifactKey.{ArtifactKey}
use Rattle.unit_model.specs.declared.phase.Phase.{Phase}
use Rattle.unit_model.specs.declared.phase.Phase.TheVariants as phase
use Rattle.unit_model.specs.declared.phase.PhaseText.{PhaseText}
use Rattle.inf_keys.specs.declared.fields.Single.{Single}
use Rattle.inf_keys.specs.declared.fields.Single.TheVariants as single
use Rattle.inf_keys.specs.declared.fields.PropertyField.{PropertyField}
use Rattle.inf_keys.specs.declared.fields.PropertyField.TheVariants as property
use Rattle.inf_keys.specs.declared.fields.ProvidedField.{ProvidedField}
use Rattle.inf_keys.specs.declared.fields.ProvidedField.TheVariants as provided
use Rattle.inf_keys.specs.declared.fields.RequiredField.{RequiredField}
use Rattle.inf_keys.specs.declared.fields.RequiredField.TheVariants as required
use Rattle.inf_keys.specs.declared.fields.ArtifactField.{ArtifactField}
use Rattle.inf_keys.specs.declared.fields.ArtifactField.TheVariants as artifact
use Rattle.inf_keys.specs.declared.fields.Phase.{Phase as KeyPhase}
use Rattle.inf_keys.specs.declared.fields.Phase.TheVariants as key_phase
use Rattle.inf_keys.specs.declared.fields.PhaseField.TheVariants as phase_field
use Rattle.inf_keys.specs.declared.key.Part.TheVariants as part
use Rattle.inf_keys.specs.declared.key.Key.{Key}
use Rattle.inf_values.specs.Defaults.{any_version, below_version}
use Rattle.inf_values.specs.Host.{is_empty}
use Rattle.inf_values.specs.declared.keys.Place.{Place}
use Rattle.inf_reader.specs.declared.unit_parts.Head.{Head}
use Rattle.inf_reader.specs.declared.rows.Lists.{Lists}
use Rattle.inf_reader.specs.declared.fault.InfRefusal.{InfRefusal}
use Rattle.inf_reader.specs.declared.fault.InfRefusal.TheVariants.{MissingId, TooManyRequirements}
use Rattle.inf_reader.specs.Gives.{◌>>=◌}
use Rattle.inf_values.specs.Keys.{key_at}
use Rattle.inf_reader.specs.Parts.{At, has, text_at, truth_or, needed_text, needed_id, needed_version, version_if_there, range_if_there, number_or, filter_if_there}
use Rattle.inf_reader.specs.Placing.{rows_in}

abbrev pub single_at : ℕ → Single → Key
single_at owner s = key_at owner (part.Single s)

abbrev pub property_key : ℕ → ℕ → PropertyField → Key
property_key owner row f = key_at owner (part.Property row f)

abbrev pub provided_key : ℕ → ℕ → ProvidedField → Key
provided_key owner row f = key_at owner (part.Provided row f)

abbrev pub required_key : ℕ → ℕ → RequiredField → Key
required_key owner row f = key_at owner (part.Required row f)

abbrev pub artifact_key : ℕ → ℕ → ArtifactField → Key
artifact_key owner row f = key_at owner (part.Artifact row f)

-- what each row gives, or the first refusal
unfoldable pub traverse : {X : Type 0} → (ℕ → Result X InfRefusal) → List ℕ → Result (List X) InfRefusal
traverse f [] = Ok []
traverse f (row ∷ rows) = f row >>= λ x. traverse f rows >>= λ xs. Ok (x ∷ xs)

-- the name of a unit that isn't the host
unfoldable pub listed_name : At → ℕ → Result UnitName InfRefusal
listed_name at owner =
    if not (has at (single_at owner single.Id)) || not (has at (single_at owner single.Version)) then
    Err (MissingId (owner - 1))
    else (needed_id at (single_at owner single.Id) >>= λ id.
    needed_version at (single_at owner single.Version) >>= λ v.
    Ok (record { id = id; version = v }))

abbrev pub name_of : Option UnitName → At → ℕ → Result UnitName InfRefusal
name_of (Some host) at owner = if owner == 0 then Ok host else listed_name at owner
name_of None at owner = listed_name at owner

unfoldable pub update_of : At → ℕ → UnitName → Result Update InfRefusal
update_of at owner name =
    range_if_there at (single_at owner single.UpdateRange) >>= λ range.
    number_or at (single_at owner single.UpdateSeverity) 0 >>= λ severity.
    Ok (record {
      id = unwrap_or (text_at at (single_at owner single.UpdateId)) name.id;
      range = unwrap_or range (below_version name.version);
      severity = severity;
      description = unwrap_or (text_at at (single_at owner single.UpdateDescription)) [];
    })

unfoldable pub has_touchpoint : At → ℕ → Bool
has_touchpoint at owner = has at (single_at owner single.TouchpointId) || has at (single_at owner single.TouchpointVersion)

unfoldable pub needed_touchpoint : At → ℕ → Result Touchpoint InfRefusal
needed_touchpoint at owner =
    needed_text at (single_at owner single.TouchpointId) >>= λ id.
    needed_version at (single_at owner single.TouchpointVersion) >>= λ v.
    Ok (record { id = id; version = v })

-- Both parts, or neither.
unfoldable pub touchpoint_of : At → ℕ → Result (Option Touchpoint) InfRefusal
touchpoint_of at owner =
    if has_touchpoint at owner then needed_touchpoint at owner >>= (λ touchpoint. Ok (Some touchpoint)) else Ok None

unfoldable pub property_row : At → ℕ → ℕ → Result Property InfRefusal
property_row at owner row =
    needed_text at (property_key owner row property.Name) >>= λ name.
    needed_text at (property_key owner row property.Value) >>= λ value.
    Ok (record { name = name; value = value })

-- A provided capability has the unit's version where it has none of its own.
unfoldable pub provided_row : At → ℕ → Version → ℕ → Result Provided InfRefusal
provided_row at owner unit_version row =
    needed_text at (provided_key owner row provided.Namespace) >>= λ namespace.
    needed_text at (provided_key owner row provided.Name) >>= λ name.
    version_if_there at (provided_key owner row provided.Version) >>= λ v.
    Ok (record { namespace = namespace; name = name; version = unwrap_or v unit_version })

abbrev pub unit_namespace : List ℕ
unit_namespace = codes "org.eclipse.equinox.p2.iu"

abbrev pub is_of_units : Provided → Bool
is_of_units p = bytes_eq p.namespace unit_namespace

-- A unit that provides nothing in the namespace of units provides itself at the end.
abbrev pub with_itself : UnitName → List Provided → List Provided
with_itself name provided =
    if list_any is_of_units provided then provided
    else provided ++ record { namespace = unit_namespace; name = name.id; version = name.version } ∷ []

unfoldable pub provided_of : At → ℕ → UnitName → List ℕ → Result (List Provided) InfRefusal
provided_of at owner name rows =
    traverse (provided_row at owner name.version) rows >>= λ provided. Ok (with_itself name provided)

-- An optional requirement asks for none.
unfoldable pub required_row : At → ℕ → ℕ → Result Required InfRefusal
required_row at owner row =
    needed_text at (required_key owner row required.Namespace) >>= λ namespace.
    needed_text at (required_key owner row required.Name) >>= λ name.
    range_if_there at (required_key owner row required.Range) >>= λ range.
    filter_if_there at (required_key owner row required.Filter) >>= λ filter.
    number_or at (required_key owner row required.Min) 1 >>= λ min.
    number_or at (required_key owner row required.Max) 2147483647 >>= λ max.
    Ok (record {
      namespace = namespace;
      name = name;
      range = unwrap_or range any_version;
      filter = filter;
      min = if truth_or at (required_key owner row required.Optional) false then 0 else min;
      max = max;
      greedy = truth_or at (required_key owner row required.Greedy) true;
    })

-- at most 1,024 requirements
unfoldable pub required_of : At → ℕ → UnitName → List ℕ → Result (List Required) InfRefusal
required_of at owner name rows =
    if nat_lt 1024 (length rows) then Err (TooManyRequirements name) else traverse (required_row at owner) rows

unfoldable pub artifact_row : At → ℕ → ℕ → Result ArtifactKey InfRefusal
artifact_row at owner row =
    needed_id at (artifact_key owner row artifact.Classifier) >>= λ classifier.
    needed_id at (artifact_key owner row artifact.Id) >>= λ id.
    needed_version at (artifact_key owner row artifact.Version) >>= λ v.
    Ok (record { classifier = classifier; id = id; version = v })

-- the texts of a phase, left away where both are empty
abbrev pub phase_of : Phase → List ℕ → List ℕ → List PhaseText
phase_of phase text imports =
    if is_empty text && is_empty imports then [] else record { phase = phase; imports = imports; text = text } ∷ []

abbrev pub unit_phase : KeyPhase → Phase
unit_phase key_phase.Collect = phase.Collect
unit_phase key_phase.Unconfigure = phase.Unconfigure
unit_phase key_phase.Uninstall = phase.Uninstall
unit_phase key_phase.Install = phase.Install
unit_phase key_phase.Configure = phase.Configure

unfoldable pub phase_at : At → ℕ → KeyPhase → List PhaseText
phase_at at owner p =
    phase_of (unit_phase p) (unwrap_or (text_at at (key_at owner (part.Instruction p phase_field.Text))) [])
    (unwrap_or (text_at at (key_at owner (part.Instruction p phase_field.Import))) [])

unfoldable pub phases_of : At → ℕ → List PhaseText
phases_of at owner =
    phase_at at owner key_phase.Collect ++ phase_at at owner key_phase.Unconfigure
    ++ phase_at at owner key_phase.Uninstall ++ phase_at at owner key_phase.Install
    ++ phase_at at owner key_phase.Configure

-- what a unit has once beside its name
unfoldable pub head_of : At → ℕ → UnitName → Result Head InfRefusal
head_of at owner name =
    filter_if_there at (single_at owner single.Filter) >>= λ filter.
    update_of at owner name >>= λ update.
    touchpoint_of at owner >>= λ touchpoint.
    Ok (record { singleton = truth_or at (single_at owner single.Singleton) false; filter = filter; update = update; touchpoint = touchpoint })

-- What its rows describe. The lists are the kinds of parts: properties, provided capabilities, requirements, artifacts.
unfoldable pub lists_of : At → List Place → ℕ → UnitName → Result Lists InfRefusal
lists_of at places owner name =
    traverse (property_row at owner) (rows_in places owner 1) >>= λ properties.
    provided_of at owner name (rows_in places owner 2) >>= λ provided.
    required_of at owner name (rows_in places owner 3) >>= λ required.
    traverse (artifact_row at owner) (rows_in places owner 4) >>= λ artifacts.
    Ok (record { properties = properties; provided = provided; required = required; artifacts = artifacts })
