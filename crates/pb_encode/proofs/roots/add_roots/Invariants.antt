use Rattle.std.proofs.Common.{map, take}
use Rattle.pb_rows.specs.Normalising.{Adds}
use Rattle.pb_rows.specs.Rows.{root_row}
use Rattle.pb_encode.specs.UnitsOf.{units_of}
use Rattle.pb_encode.proofs.roots.add_roots.Given as goal

-- the rows of the roots so far
abbrev pub invariant-loop-root : goal.invariant-loop-root
invariant-loop-root l = Adds (map (root_row (units_of l.members)) (take l.root-index l.roots)) l.initial.constraints l.constraints
