use Rattle.std.proofs.Common.{All}
use Rattle.pb_core.specs.AtLeast.{at_least}
use Rattle.pb_core.specs.Normal.{IsNormalOver}
use Rattle.solver_suite.proofs.builder.normal_sums.Given as goal

abbrev pub invariant-loop-sum : goal.invariant-loop-sum
invariant-loop-sum l = All (λ c. IsNormalOver l.variables (at_least c)) l.constraints
