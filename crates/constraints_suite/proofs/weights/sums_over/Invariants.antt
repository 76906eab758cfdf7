use Rattle.std.proofs.Common.{All}
use Rattle.pb_core.specs.AtLeast.{at_least}
use Rattle.pb_core.specs.Normal.{IsNormalOver}
use Rattle.constraints_suite.proofs.weights.sums_over.Given as goal

abbrev pub invariant-loop-one : goal.invariant-loop-one
invariant-loop-one l = All (λ c. IsNormalOver l.variables (at_least c)) l.sums
