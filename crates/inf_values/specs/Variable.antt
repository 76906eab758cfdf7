-- The variables, by their names. Clauses of private functions alone cite this.
use Rattle.std.specs.Prelude.{◌≡◌, ◌≢◌, ℕ, List, ◌++◌, Option, Some, None, codes}
use Rattle.osgi_version.specs.VersionText.{version_text}
use Rattle.unit_model.specs.declared.name.UnitName.{UnitName}
use Rattle.inf_values.specs.declared.variables.Variable.{Variable}
use Rattle.inf_values.specs.declared.variables.Variable.TheVariants.{Version, Qualifier}

-- the name behind its first `$`
abbrev pub name_text : Variable → List ℕ
name_text Version = codes "version$"
name_text Qualifier = codes "qualifier$"

abbrev pub value_text : Variable → UnitName → List ℕ
value_text Version host = version_text host.version
value_text Qualifier host = host.version.qualifier

-- The text begins with the name of the variable, and has the rest behind it; or it begins with no name.
abbrev pub ReadsVariable : List ℕ → Option (Variable × List ℕ) → Type 0
ReadsVariable text (Some found) = text ≡ name_text found.0 ++ found.1
ReadsVariable text None = (v : Variable) (rest : List ℕ) → text ≢ name_text v ++ rest
