use Rattle.std.proofs.Common.{◌<◌, ◌≤◌, All}
use Rattle.solver_suite.proofs.random.variables_of.Given as goal

abbrev pub invariant-loop-variable : goal.invariant-loop-variable
invariant-loop-variable l = All (λ v. (0 < v) × (v ≤ l.most)) l.order
