use Rattle.std.proofs.Common.{take}
use Rattle.std.specs.List.{flat_map}
use Rattle.pb_rows.specs.Members.{numbered}
use Rattle.pb_rows.specs.Normalising.{Adds}
use Rattle.pb_rows.specs.Rows.{unit_rows}
use Rattle.pb_encode.specs.UnitsOf.{units_of}
use Rattle.pb_encode.proofs.requirements.add_requirements.Given as goal

-- the rows of the members so far
abbrev pub invariant-loop-place : goal.invariant-loop-place
invariant-loop-place l =
    Adds (flat_map (unit_rows (units_of l.members) l.env) (take l.place (numbered (units_of l.members)))) l.initial.constraints l.constraints
