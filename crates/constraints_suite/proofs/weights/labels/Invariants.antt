use Rattle.std.proofs.Common.{◌≡◌, length}
use Rattle.constraints_suite.proofs.weights.labels.Given as goal

abbrev pub invariant-loop : goal.invariant-loop
invariant-loop l = length l.labels ≡ l.counter
