use Rattle.std.proofs.Common.{map, take}
use Rattle.pb_rows.specs.Normalising.{Adds}
use Rattle.pb_rows.specs.Rows.{beside}
use Rattle.pb_rows.proofs.makers.add_apart.Given as goal

-- the rows of the other units so far
abbrev pub invariant-loop-other : goal.invariant-loop-other
invariant-loop-other l =
    Adds (map (beside l.id l.singles) (take l.other-index l.others)) l.initial.constraints l.constraints
