-- A unit that is read part by part: what it is with one more part, and where no unit has that part there. Clauses of
-- private functions alone cite this: what is read is told by the texts of units.
use Rattle.std.specs.Prelude.{◌≡◌, ◌≢◌, ℕ, Bool, true, false, ◌&&◌, not, nat_lt, List, [], ◌∷◌, ◌++◌, length, Option, Some, None}
use Rattle.std.specs.List.{list_all}
use Rattle.unit_model.specs.declared.name.UnitName.{UnitName}
use Rattle.unit_model.specs.declared.update.Update.{Update}
use Rattle.unit_model.specs.declared.phase.PhaseText.{PhaseText}
use Rattle.unit_model.specs.declared.unit.Unit.{Unit as Package}
use Rattle.unit_lines.specs.Parts.{IsLineOf}
use Rattle.unit_lines.specs.Phases.{phase_place}
use Rattle.unit_lines.specs.declared.part.Part.{Part}
use Rattle.unit_lines.specs.declared.part.Part.TheVariants as part
use Rattle.unit_text.specs.declared.draft.Draft.{Draft}
use Rattle.unit_text.specs.declared.taking.Step.{Step}
use Rattle.unit_text.specs.declared.taking.Step.TheVariants as step

abbrev pub is_bare : {X : Type 0} → List X → Bool
is_bare [] = true
is_bare (x ∷ xs) = false

abbrev pub has : {X : Type 0} → Option X → Bool
has None = false
has (Some x) = true

-- the name alone
abbrev pub bare : UnitName → Draft
bare n = record {
  name = n;
  singleton = false;
  filter = None;
  update = None;
  touchpoint = None;
  properties = [];
  provided = [];
  required = [];
  artifacts = [];
  phases = [];
}

-- Nothing stands behind the parts of a kind.

abbrev pub ends_artifacts : Draft → Bool
ends_artifacts d = is_bare d.phases

abbrev pub ends_required : Draft → Bool
ends_required d = is_bare d.artifacts && ends_artifacts d

abbrev pub ends_provided : Draft → Bool
ends_provided d = is_bare d.required && ends_required d

abbrev pub ends_properties : Draft → Bool
ends_properties d = is_bare d.provided && ends_provided d

abbrev pub ends_touchpoint : Draft → Bool
ends_touchpoint d = is_bare d.properties && ends_properties d

-- the phase stands behind all of these
abbrev pub rises : List PhaseText → PhaseText → Bool
rises phases text = list_all (λ earlier. nat_lt (phase_place earlier.phase) (phase_place text.phase)) phases

abbrev pub kept : Bool → Draft → Option Draft
kept true d = Some d
kept false d = None

-- what was read with one more part, where a unit may have it there
abbrev pub next : Draft → Part → Option Draft
next d (part.Name name) = None
next d part.Singleton = kept (not d.singleton && (not (has d.filter) && not (has d.update))) (record d { singleton = true })
next d (part.Filter filter) = kept (not (has d.filter) && not (has d.update)) (record d { filter = Some filter })
next d (part.Update update) = kept (not (has d.update)) (record d { update = Some update })
next d (part.Touchpoint touchpoint) =
    kept (has d.update && (not (has d.touchpoint) && ends_touchpoint d)) (record d { touchpoint = Some touchpoint })
next d (part.Property property) = kept (has d.update && ends_properties d) (record d { properties = d.properties ++ property ∷ [] })
next d (part.Provided provided) = kept (has d.update && ends_provided d) (record d { provided = d.provided ++ provided ∷ [] })
next d (part.Required required) =
    kept (has d.update && (ends_required d && nat_lt (length d.required) 1024)) (record d { required = d.required ++ required ∷ [] })
next d (part.Artifact artifact) = kept (has d.update && ends_artifacts d) (record d { artifacts = d.artifacts ++ artifact ∷ [] })
next d (part.Phase phase) = kept (has d.update && rises d.phases phase) (record d { phases = d.phases ++ phase ∷ [] })
next d part.End = kept (has d.update) d

abbrev pub with_update : Draft → Update → Package
with_update d u = record {
  name = d.name;
  singleton = d.singleton;
  filter = d.filter;
  update = u;
  touchpoint = d.touchpoint;
  properties = d.properties;
  provided = d.provided;
  required = d.required;
  artifacts = d.artifacts;
  phases = d.phases;
}

abbrev pub updated : Draft → Option Update → Option Package
updated d None = None
updated d (Some u) = Some (with_update d u)

-- the unit, once its update is there
abbrev pub finished : Draft → Option Package
finished d = updated d d.update

-- the unit of a first line
pub record IsNamed (line : List ℕ) (d : Draft) : Type 0 where
  pub name : UnitName
  pub is : IsLineOf line (part.Name name)
  pub bare : d ≡ bare name

abbrev pub NoName : List ℕ → Type 0
NoName line = (name : UnitName) → ¬ (IsLineOf line (part.Name name))

-- The line has a part that is put.
pub record IsPut (line : List ℕ) (old new : Draft) : Type 0 where
  pub said : Part
  pub is : IsLineOf line said
  pub goes_on : said ≢ part.End
  pub put : next old said ≡ Some new

-- The line is the end, and may stand there.
pub record IsEnd (line : List ℕ) (old new : Draft) : Type 0 where
  pub is : IsLineOf line part.End
  pub put : next old part.End ≡ Some new

-- what a line is to what was read before it
abbrev pub IsStep : List ℕ → Draft → Draft → Step → Type 0
IsStep line old new step.Part = IsPut line old new
IsStep line old new step.End = IsEnd line old new
IsStep line old new step.Wrong = (p : Part) → IsLineOf line p → next old p ≡ None
