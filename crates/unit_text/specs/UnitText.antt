-- A unit's canonical text: a line for each of its parts, in one order.
use Rattle.std.specs.Prelude.{ℕ, ◌≤◌, Bool, true, false, List, [], ◌∷◌, ◌++◌, map, length, Option, Some, None, IfSome, All}
use Rattle.std.specs.List.{flat_map}
use Rattle.std.specs.List.Sorted.{IsStrictlyIncreasing}
use Rattle.std.specs.Str.{IsUtf8}
use Rattle.ldap_filter.specs.FilterText.{IsFilter}
use Rattle.ldap_filter.specs.declared.filter.Filter.{Filter}
use Rattle.unit_model.specs.declared.touchpoint.Touchpoint.{Touchpoint}
use Rattle.unit_model.specs.declared.phase.PhaseText.{PhaseText}
use Rattle.unit_model.specs.declared.unit.Unit.{Unit as Package}
use Rattle.unit_lines.specs.Phases.{phase_place}
use Rattle.unit_lines.specs.Parts.{IsName, IsUpdate, IsTouchpoint, IsProvided, IsRequired, IsArtifact, IsPhase, part_line, part_texts}
use Rattle.unit_lines.specs.declared.part.Part.{Part}
use Rattle.unit_lines.specs.declared.part.Part.TheVariants as part

abbrev pub singleton_parts : Bool → List Part
singleton_parts true = part.Singleton ∷ []
singleton_parts false = []

abbrev pub filter_parts : Option Filter → List Part
filter_parts None = []
filter_parts (Some filter) = part.Filter filter ∷ []

abbrev pub touchpoint_parts : Option Touchpoint → List Part
touchpoint_parts None = []
touchpoint_parts (Some touchpoint) = part.Touchpoint touchpoint ∷ []

-- what stands before the update
abbrev pub early_parts : Package → List Part
early_parts u = part.Name u.name ∷ (singleton_parts u.singleton ++ filter_parts u.filter)

-- what stands behind it
abbrev pub late_parts : Package → List Part
late_parts u =
    touchpoint_parts u.touchpoint
    ++ (map part.Property u.properties
    ++ (map part.Provided u.provided ++ (map part.Required u.required ++ (map part.Artifact u.artifacts ++ map part.Phase u.phases))))

-- all parts but the end
abbrev pub body_parts : Package → List Part
body_parts u = early_parts u ++ (part.Update u.update ∷ late_parts u)

abbrev pub unit_parts : Package → List Part
unit_parts u = body_parts u ++ part.End ∷ []

abbrev pub unit_lines : Package → List (List ℕ)
unit_lines u = map part_line (unit_parts u)

-- lines, each ended by LF
abbrev pub ended : List ℕ → List ℕ
ended line = line ++ 10 ∷ []

abbrev pub lines_text : List (List ℕ) → List ℕ
lines_text lines = flat_map ended lines

abbrev pub text_of : List Part → List ℕ
text_of parts = lines_text (map part_line parts)

abbrev pub unit_text : Package → List ℕ
unit_text u = text_of (unit_parts u)

abbrev pub places : List PhaseText → List ℕ
places phases = map (λ p. phase_place p.phase) phases

-- The unit has a text: its parts are in their forms, at most 1,024 of them are requirements, and its phases stand in
-- their order, none twice.
pub record IsUnit (u : Package) : Type 0 where
  pub name : IsName u.name
  pub filter : IfSome u.filter IsFilter
  pub update : IsUpdate u.update
  pub touchpoint : IfSome u.touchpoint IsTouchpoint
  pub provided : All IsProvided u.provided
  pub required : All IsRequired u.required
  pub few : length u.required ≤ 1024
  pub artifacts : All IsArtifact u.artifacts
  pub phases : All IsPhase u.phases
  pub rising : IsStrictlyIncreasing (places u.phases)

-- What the unit is made of are texts.
abbrev pub AreTexts : Package → Type 0
AreTexts u = All (λ p. All IsUtf8 (part_texts p)) (unit_parts u)
