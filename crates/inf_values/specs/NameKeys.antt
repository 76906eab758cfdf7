-- Sets of names of units.
use Rattle.std.specs.Prelude.{Bool, List, map}
use Rattle.std.specs.List.{list_any}
use Rattle.std.specs.BTreeSet.{BTreeSet}
use Rattle.std.specs.String.{string_bytes}
use Rattle.unit_model.specs.declared.name.UnitName.{UnitName}
use Rattle.inf_values.specs.declared.names.NameKey.{NameKey}
use Rattle.inf_values.specs.SameName.{same_name}

-- the name that a key stands for
abbrev pub name_in : NameKey → UnitName
name_in key = record {
  id = string_bytes key.id;
  version = record { major = key.major; minor = key.minor; micro = key.micro; qualifier = string_bytes key.qualifier };
}

-- the names that a set has
abbrev pub names_in : BTreeSet NameKey → List UnitName
names_in keys = map name_in keys.keys

-- whether the name is among these
abbrev pub is_among : List UnitName → UnitName → Bool
is_among names name = list_any (λ n. same_name n name) names
