use Rattle.std.proofs.Common.{◌≡◌, length, vec_len}
use Rattle.deriv_check.specs.Trail.{Covers}
use Rattle.deriv_check.proofs.scratch.Scratch.clear.Given as goal

abbrev pub invariant-loop-variable : goal.invariant-loop-variable
invariant-loop-variable l = Covers l.self-inside.values l.self-inside.trail.items × (length l.self-inside.values ≡ length l.initial.self-inside.values)

abbrev pub decreases-loop-variable : goal.decreases-loop-variable
decreases-loop-variable l = vec_len l.self-inside.trail
