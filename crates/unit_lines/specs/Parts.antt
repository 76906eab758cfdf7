-- The parts of a unit's text, each with its line and its form.
use Rattle.std.specs.Prelude.{◌≡◌, ℕ, ◌≤◌, Bool, true, false, ⊤, List, [], ◌∷◌, Option, Some, None, IfSome, All, codes}
use Rattle.std.specs.Str.{IsUtf8}
use Rattle.std.specs.Fmt.{decimal}
use Rattle.osgi_version.specs.VersionText.{IsVersion, version_text}
use Rattle.osgi_version.specs.RangeText.{IsRange, range_text}
use Rattle.ldap_filter.specs.FilterText.{IsFilter, filter_text}
use Rattle.ldap_filter.specs.declared.filter.Filter.{Filter}
use Rattle.unit_model.specs.UnitId.{IsUnitId}
use Rattle.unit_model.specs.declared.name.UnitName.{UnitName}
use Rattle.unit_model.specs.declared.update.Update.{Update}
use Rattle.unit_model.specs.declared.touchpoint.Touchpoint.{Touchpoint}
use Rattle.unit_model.specs.declared.property.Property.{Property}
use Rattle.unit_model.specs.declared.provided.Provided.{Provided}
use Rattle.unit_model.specs.declared.required.Required.{Required}
use Rattle.unit_model.specs.declared.artifact.ArtifactKey.{ArtifactKey}
use Rattle.unit_model.specs.declared.phase.PhaseText.{PhaseText}
use Rattle.unit_lines.specs.Line.{line_of}
use Rattle.unit_lines.specs.Phases.{phase_name}
use Rattle.unit_lines.specs.Words.{word_of}
use Rattle.unit_lines.specs.declared.words.Kind.{Kind}
use Rattle.unit_lines.specs.declared.words.Kind.TheVariants as kind
use Rattle.unit_lines.specs.declared.part.Part.{Part}
use Rattle.unit_lines.specs.declared.part.Part.TheVariants.{Name, Singleton, Filter as Filtered, Update as Updating, Touchpoint as Touching, Property as Having, Provided as Providing, Required as Requiring, Artifact, Phase, End}

-- the fields of each part

abbrev pub truth_text : Bool → List ℕ
truth_text true = codes "1"
truth_text false = codes "0"

-- the empty text where there is none
abbrev pub optional_text : Option Filter → List ℕ
optional_text None = []
optional_text (Some filter) = filter_text filter

abbrev pub name_texts : UnitName → List (List ℕ)
name_texts n = n.id ∷ version_text n.version ∷ []

abbrev pub filter_texts : Filter → List (List ℕ)
filter_texts f = filter_text f ∷ []

abbrev pub update_texts : Update → List (List ℕ)
update_texts u = u.id ∷ range_text u.range ∷ decimal u.severity ∷ u.description ∷ []

abbrev pub touchpoint_texts : Touchpoint → List (List ℕ)
touchpoint_texts t = t.id ∷ version_text t.version ∷ []

abbrev pub property_texts : Property → List (List ℕ)
property_texts p = p.name ∷ p.value ∷ []

abbrev pub provided_texts : Provided → List (List ℕ)
provided_texts p = p.namespace ∷ p.name ∷ version_text p.version ∷ []

abbrev pub required_texts : Required → List (List ℕ)
required_texts r =
    r.namespace ∷ r.name ∷ range_text r.range ∷ decimal r.min ∷ decimal r.max ∷ truth_text r.greedy ∷ optional_text r.filter ∷ []

-- how many members are asked for, and whether what matches is taken into the slice
abbrev pub asked_of : Required → List (List ℕ)
asked_of r = decimal r.min ∷ decimal r.max ∷ truth_text r.greedy ∷ []

abbrev pub artifact_texts : ArtifactKey → List (List ℕ)
artifact_texts a = a.classifier ∷ a.id ∷ version_text a.version ∷ []

abbrev pub phase_texts : PhaseText → List (List ℕ)
phase_texts p = phase_name p.phase ∷ p.imports ∷ p.text ∷ []

abbrev pub part_texts : Part → List (List ℕ)
part_texts (Name name) = name_texts name
part_texts Singleton = []
part_texts (Filtered filter) = filter_texts filter
part_texts (Updating update) = update_texts update
part_texts (Touching touchpoint) = touchpoint_texts touchpoint
part_texts (Having property) = property_texts property
part_texts (Providing provided) = provided_texts provided
part_texts (Requiring required) = required_texts required
part_texts (Artifact artifact) = artifact_texts artifact
part_texts (Phase phase) = phase_texts phase
part_texts End = []

abbrev pub kind_of : Part → Kind
kind_of (Name name) = kind.Name
kind_of Singleton = kind.Singleton
kind_of (Filtered filter) = kind.Filter
kind_of (Updating update) = kind.Update
kind_of (Touching touchpoint) = kind.Touchpoint
kind_of (Having property) = kind.Property
kind_of (Providing provided) = kind.Provided
kind_of (Requiring required) = kind.Required
kind_of (Artifact artifact) = kind.Artifact
kind_of (Phase phase) = kind.Phase
kind_of End = kind.End

-- the line of a part
abbrev pub part_line : Part → List ℕ
part_line part = line_of (word_of (kind_of part)) (part_texts part)

-- the form of each part: ids are such, what is to be written of versions, ranges and filters has a text, and numbers
-- aren't above 2147483647

abbrev pub IsSmall : ℕ → Type 0
IsSmall n = n ≤ 2147483647

abbrev pub IsAny : {X : Type 0} → X → Type 0
IsAny x = ⊤

pub record IsName (n : UnitName) : Type 0 where
  pub id : IsUnitId n.id
  pub version : IsVersion n.version

pub record IsUpdate (u : Update) : Type 0 where
  pub range : IsRange u.range
  pub severity : IsSmall u.severity

pub record IsTouchpoint (t : Touchpoint) : Type 0 where
  pub version : IsVersion t.version

pub record IsProvided (p : Provided) : Type 0 where
  pub version : IsVersion p.version

pub record IsRequired (r : Required) : Type 0 where
  pub range : IsRange r.range
  pub filter : IfSome r.filter IsFilter
  pub min : IsSmall r.min
  pub max : IsSmall r.max

pub record IsArtifact (a : ArtifactKey) : Type 0 where
  pub classifier : IsUnitId a.classifier
  pub id : IsUnitId a.id
  pub version : IsVersion a.version

-- Not both texts are empty.
pub record IsPhase (p : PhaseText) : Type 0 where
  pub some : p.imports ≡ [] → p.text ≡ [] → ⊥

abbrev pub IsPart : Part → Type 0
IsPart (Name name) = IsName name
IsPart Singleton = ⊤
IsPart (Filtered filter) = IsFilter filter
IsPart (Updating update) = IsUpdate update
IsPart (Touching touchpoint) = IsTouchpoint touchpoint
IsPart (Having property) = ⊤
IsPart (Providing provided) = IsProvided provided
IsPart (Requiring required) = IsRequired required
IsPart (Artifact artifact) = IsArtifact artifact
IsPart (Phase phase) = IsPhase phase
IsPart End = ⊤

-- The line is that of the part, which is in its form and made of texts.
pub record IsLineOf (line : List ℕ) (part : Part) : Type 0 where
  pub form : IsPart part
  pub utf8 : All IsUtf8 (part_texts part)
  pub spelling : part_line part ≡ line
