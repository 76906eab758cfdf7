-- The units of a p2.inf.
pub use Rattle.inf_values.specs.SameName.{same_version, same_name}
use Rattle.std.specs.Prelude.{ℕ, Bool, List, [], ◌∷◌, ◌++◌, Option, Result, Ok, Err, if◌then◌else◌}
use Rattle.std.specs.List.{list_any}
use Rattle.unit_model.specs.declared.name.UnitName.{UnitName}
use Rattle.unit_model.specs.declared.phase.PhaseText.{PhaseText}
use Rattle.unit_model.specs.declared.unit.Unit.{Unit}
use Rattle.inf_values.specs.Host.{host_of}
use Rattle.inf_values.specs.Readings.{Readings}
use Rattle.inf_values.specs.SameName.{same_name}
use Rattle.inf_values.specs.declared.keys.Place.{Place}
use Rattle.inf_reader.specs.declared.unit_parts.Head.{Head}
use Rattle.inf_reader.specs.declared.rows.Lists.{Lists}
use Rattle.inf_reader.specs.declared.fault.InfRefusal.{InfRefusal}
use Rattle.inf_reader.specs.declared.fault.InfRefusal.TheVariants.{Duplicate}
use Rattle.inf_reader.specs.Gives.{◌>>=◌}
use Rattle.inf_reader.specs.Entries.{Pair, entries_of}
use Rattle.inf_reader.specs.Parts.{At}
use Rattle.inf_reader.specs.Placing.{value_at, places_of, owners_of}
use Rattle.inf_reader.specs.UnitParts.{name_of, head_of, lists_of, phases_of}

-- a unit of these parts
abbrev pub whole : UnitName → Head → Lists → List PhaseText → Unit
whole name head lists phases = record {
  name = name;
  singleton = head.singleton;
  filter = head.filter;
  update = head.update;
  touchpoint = head.touchpoint;
  properties = lists.properties;
  provided = lists.provided;
  required = lists.required;
  artifacts = lists.artifacts;
  phases = phases;
}

-- the unit of an owner
unfoldable pub unit_of : Option UnitName → At → List Place → ℕ → Result Unit InfRefusal
unit_of host at places owner =
    name_of host at owner >>= λ name.
    head_of at owner name >>= λ head.
    lists_of at places owner name >>= λ lists.
    Ok (whole name head lists (phases_of at owner))

abbrev pub has_name : List Unit → UnitName → Bool
has_name units name = list_any (λ u. same_name u.name name) units

-- The units of the owners behind these units. No two have one name.
unfoldable pub units_from : Option UnitName → At → List Place → List Unit → List ℕ → Result (List Unit) InfRefusal
units_from host at places units [] = Ok units
units_from host at places units (owner ∷ owners) =
    unit_of host at places owner >>= λ unit.
    if has_name units unit.name then Err (Duplicate unit.name)
    else units_from host at places (units ++ unit ∷ []) owners

abbrev pub units_in : Readings → Option UnitName → List Pair → Result (List Unit) InfRefusal
units_in read host pairs =
    entries_of read.key host pairs >>= λ entries. units_from host (value_at read entries) (places_of entries) [] (owners_of entries)

-- The units that the pairs in a folder of this name describe, or the first refusal: first of the pairs in their
-- order, and then unit by unit.
unfoldable pub units_of : Readings → List ℕ → List Pair → Result (List Unit) InfRefusal
units_of read folder pairs = units_in read (host_of read folder) pairs
