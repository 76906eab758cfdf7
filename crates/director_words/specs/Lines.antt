use Rattle.std.specs.Prelude.{ℕ, List, [], ◌∷◌, ◌++◌, codes}
use Rattle.std.specs.Fmt.{decimal}
use Rattle.osgi_version.specs.Field.{field}
use Rattle.osgi_version.specs.VersionText.{version_text}
use Rattle.unit_model.specs.declared.name.UnitName.{UnitName}

-- `WORD PROFILE NUMBER`
abbrev pub state_line : List ℕ → List ℕ → ℕ → List ℕ
state_line word profile number = word ++ field profile ++ 32 ∷ (decimal number ++ 10 ∷ [])

abbrev pub plan_line_of : List ℕ → ℕ → List ℕ
plan_line_of profile number = state_line (codes "plan ") profile number

abbrev pub done_line_of : List ℕ → ℕ → List ℕ
done_line_of profile number = state_line (codes "done ") profile number

-- a unit's id and version
abbrev pub name_text : UnitName → List ℕ
name_text name = name.id ++ 47 ∷ version_text name.version

-- the same as one field
abbrev pub unit_field : UnitName → List ℕ
unit_field name = field (name_text name)

abbrev pub add_line_of : UnitName → List ℕ
add_line_of name = codes "add " ++ unit_field name ++ 10 ∷ []
