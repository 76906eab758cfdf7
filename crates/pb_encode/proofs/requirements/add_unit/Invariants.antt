use Rattle.std.proofs.Common.{take}
use Rattle.std.specs.List.{flat_map, enumerate_from}
use Rattle.pb_rows.specs.Normalising.{Adds}
use Rattle.pb_rows.specs.Rows.{required_rows}
use Rattle.pb_encode.specs.UnitsOf.{units_of}
use Rattle.pb_encode.proofs.requirements.add_unit.Given as goal

-- the rows of the requirements so far
abbrev pub invariant-loop-place : goal.invariant-loop-place
invariant-loop-place l =
    Adds (flat_map (required_rows (units_of l.members) l.env l.variable) (take l.place (enumerate_from 1 l.unit.required))) l.initial.constraints l.constraints
