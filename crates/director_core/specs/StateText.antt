-- The text of a state of a profile, version 1, with an empty environment and no notes. Its units have nothing beyond a
-- name, an update and provided capabilities.
use Rattle.std.specs.Prelude.{ℕ, List, [], ◌∷◌, ◌++◌, codes}
use Rattle.std.specs.List.{flat_map}
use Rattle.std.specs.Fmt.{decimal}
use Rattle.osgi_version.specs.Field.{field}
use Rattle.osgi_version.specs.VersionText.{version_text}
use Rattle.osgi_version.specs.RangeText.{range_text}
use Rattle.unit_model.specs.declared.name.UnitName.{UnitName}
use Rattle.unit_model.specs.declared.provided.Provided.{Provided}
use Rattle.unit_model.specs.declared.unit.Unit.{Unit}
use Rattle.unit_model.specs.declared.update.Update.{Update}

-- what a profile had after one of its commands: no variable of an environment is set, and no action left a note
pub record State : Type 0 where
  pub profile : List ℕ
  pub number : ℕ
  pub roots : List UnitName
  pub units : List Unit

-- a word, further words with a blank before each, and the line's end
unfoldable pub line : List ℕ → List (List ℕ) → List ℕ
line word words = word ++ (flat_map (λ w. 32 ∷ w) words ++ 10 ∷ [])

-- a word, and the id and version of a unit
abbrev pub name_line : List ℕ → UnitName → List ℕ
name_line word name = line word (field name.id ∷ version_text name.version ∷ [])

abbrev pub root_line : UnitName → List ℕ
root_line name = name_line (codes "root") name

abbrev pub update_line : Update → List ℕ
update_line update =
    line (codes "update") (field update.id ∷ range_text update.range ∷ decimal update.severity ∷ field update.description ∷ [])

abbrev pub provided_line : Provided → List ℕ
provided_line row = line (codes "provides") (field row.namespace ∷ field row.name ∷ version_text row.version ∷ [])

unfoldable pub unit_text : Unit → List ℕ
unit_text unit =
    name_line (codes "unit") unit.name
    ++ (update_line unit.update ++ (flat_map provided_line unit.provided ++ line (codes "end") ([])))

unfoldable pub head_text : List ℕ → ℕ → List ℕ
head_text profile number =
    line (codes "p2state") (codes "1" ∷ [])
    ++ (line (codes "profile") (field profile ∷ []) ++ line (codes "number") (decimal number ∷ []))

unfoldable pub state_text : State → List ℕ
state_text state =
    head_text state.profile state.number
    ++ (flat_map root_line state.roots ++ (flat_map unit_text state.units ++ line (codes "end") (codes "state" ∷ [])))
