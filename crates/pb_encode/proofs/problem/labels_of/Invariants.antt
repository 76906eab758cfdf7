use Rattle.std.proofs.Common.{◌≡◌, map, take}
use Rattle.unit_model.specs.declared.unit.Unit.{Unit as Package}
use Rattle.pb_rows.specs.Rows.{label}
use Rattle.pb_encode.specs.UnitsOf.{units_of}
use Rattle.pb_encode.proofs.problem.labels_of.Given as goal

-- the labels of the members so far
abbrev pub invariant-loop-place : goal.invariant-loop-place
invariant-loop-place l = l.labels ≡ map (λ (u : Package). label u.name) (take l.place (units_of l.members))
