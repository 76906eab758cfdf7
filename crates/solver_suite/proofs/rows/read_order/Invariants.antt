use Rattle.std.proofs.Common.{◌<◌, ◌≤◌, All}
use Rattle.solver_suite.proofs.rows.read_order.Given as goal

abbrev pub invariant-loop-word : goal.invariant-loop-word
invariant-loop-word l = All (λ v. (0 < v) × (v ≤ l.most)) l.order
