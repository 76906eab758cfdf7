use Rattle.std.proofs.Common.{◌-◌, ◌≤◌, List, length, drop}
use Rattle.std.specs.List.{flat_map}
use Rattle.pb_core.specs.declared.constraint.Constraint.{Constraint}
use Rattle.pb_rows.specs.Normalising.{Adds, AreTooMany}
use Rattle.pb_rows.specs.Rows.{id_rows, singleton_rows, ids}
use Rattle.pb_encode.specs.Places.{IsFirstOfId}
use Rattle.pb_encode.specs.UnitsOf.{units_of}
use Rattle.pb_encode.proofs.singletons.add_singletons.Given as goal

-- With the rows of the ids to come behind those so far there are the rows of all ids.
abbrev pub invariant-loop-from : goal.invariant-loop-from
invariant-loop-from l = record {
  within : l.from ≤ length (units_of l.members);
  first : IsFirstOfId (units_of l.members) l.from;
  added : (new : List Constraint) → Adds (flat_map (id_rows (units_of l.members)) (ids (drop l.from (units_of l.members)))) l.constraints new
      → Adds (singleton_rows (units_of l.members)) l.initial.constraints new;
  many : AreTooMany (flat_map (id_rows (units_of l.members)) (ids (drop l.from (units_of l.members)))) l.constraints
      → AreTooMany (singleton_rows (units_of l.members)) l.initial.constraints;
}

abbrev pub decreases-loop-from : goal.decreases-loop-from
decreases-loop-from l = length (units_of l.members) - l.from
