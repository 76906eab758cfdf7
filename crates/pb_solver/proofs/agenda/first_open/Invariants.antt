use Rattle.std.proofs.Common.{ℕ, ◌<◌, ◌≤◌, length, IsSome}
use Rattle.pb_core.specs.Values.{value_of}
use Rattle.pb_solver.proofs.agenda.first_open.Given as goal

abbrev pub invariant-loop-variable : goal.invariant-loop-variable
invariant-loop-variable l = (v : ℕ) → 0 < v → v < l.variable → v ≤ length l.values → IsSome (value_of l.values v)
