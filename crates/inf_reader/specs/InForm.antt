-- What the units of every p2.inf keep to: each part is in its form.
use Rattle.std.specs.Prelude.{◌≡◌, ℕ, ◌+◌, ◌≤◌, List, [], ◌∷◌, length, All, IfSome, Result, Ok, Err, ⊤}
use Rattle.osgi_version.specs.VersionText.{IsVersion}
use Rattle.osgi_version.specs.RangeText.{IsRange}
use Rattle.ldap_filter.specs.FilterText.{IsFilter}
use Rattle.unit_model.specs.UnitId.{IsUnitId}
use Rattle.unit_model.specs.declared.unit.Unit.{Unit}
use Rattle.unit_model.specs.declared.touchpoint.Touchpoint.{Touchpoint}
use Rattle.unit_model.specs.declared.provided.Provided.{Provided}
use Rattle.unit_model.specs.declared.required.Required.{Required}
use Rattle.unit_model.specs.declared.artifact.ArtifactKey.{ArtifactKey}
use Rattle.unit_model.specs.declared.phase.Phase.{Phase}
use Rattle.unit_model.specs.declared.phase.Phase.TheVariants.{Collect, Unconfigure, Uninstall, Install, Configure}
use Rattle.unit_model.specs.declared.phase.PhaseText.{PhaseText}
use Rattle.inf_reader.specs.declared.fault.InfRefusal.{InfRefusal}
use Rattle.inf_reader.specs.declared.fault.InfRefusal.TheVariants.{UnknownKey, LeftOutKey, NoHost, MissingId, BadValue, Duplicate, TooManyRequirements, NoMemory}

-- a number of a p2.inf
abbrev pub IsNumber : ℕ → Type 0
IsNumber n = n ≤ 2147483647

abbrev pub HasVersion : Provided → Type 0
HasVersion provided = IsVersion provided.version

abbrev pub IsTouchpointInForm : Touchpoint → Type 0
IsTouchpointInForm touchpoint = IsVersion touchpoint.version

-- The range and the filter of a requirement have texts, and its numbers aren't too great.
pub record IsRequiredInForm (required : Required) : Type 0 where
  pub range : IsRange required.range
  pub filter : IfSome required.filter IsFilter
  pub min : IsNumber required.min
  pub max : IsNumber required.max

-- The classifier and the id have the form of a unit's id.
pub record IsArtifactInForm (artifact : ArtifactKey) : Type 0 where
  pub classifier : IsUnitId artifact.classifier
  pub id : IsUnitId artifact.id
  pub version : IsVersion artifact.version

-- where a phase stands among the phases, as the engine goes through them
abbrev pub phase_place : Phase → ℕ
phase_place Collect = 0
phase_place Unconfigure = 1
phase_place Uninstall = 2
phase_place Install = 3
phase_place Configure = 4

-- Not both texts are empty.
abbrev pub SaysSomething : PhaseText → Type 0
SaysSomething phase = phase.text ≡ [] → phase.imports ≡ [] → ⊥

-- The phases stand in the engine's order from this place on, none twice, and each says something.
abbrev pub ArePhasesFrom : ℕ → List PhaseText → Type 0
ArePhasesFrom least [] = ⊤
ArePhasesFrom least (p ∷ phases) = (least ≤ phase_place p.phase) × SaysSomething p × ArePhasesFrom (phase_place p.phase + 1) phases

-- Each part of a unit is in its form.
pub record IsUnitInForm (unit : Unit) : Type 0 where
  pub id : IsUnitId unit.name.id
  pub version : IsVersion unit.name.version
  pub filter : IfSome unit.filter IsFilter
  pub range : IsRange unit.update.range
  pub severity : IsNumber unit.update.severity
  pub touchpoint : IfSome unit.touchpoint IsTouchpointInForm
  pub provided : All HasVersion unit.provided
  pub required : All IsRequiredInForm unit.required
  pub few : length unit.required ≤ 1024
  pub artifacts : All IsArtifactInForm unit.artifacts
  pub phases : ArePhasesFrom 0 unit.phases

-- The version of a name that stands twice has a text.
abbrev pub IsRefusalInForm : InfRefusal → Type 0
IsRefusalInForm (Duplicate name) = IsVersion name.version
IsRefusalInForm (UnknownKey key) = ⊤
IsRefusalInForm (LeftOutKey key) = ⊤
IsRefusalInForm (NoHost key) = ⊤
IsRefusalInForm (MissingId number) = ⊤
IsRefusalInForm (BadValue key) = ⊤
IsRefusalInForm (TooManyRequirements name) = ⊤
IsRefusalInForm NoMemory = ⊤

abbrev pub InForm : Result (List Unit) InfRefusal → Type 0
InForm (Ok units) = All IsUnitInForm units
InForm (Err refusal) = IsRefusalInForm refusal
