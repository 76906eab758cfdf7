use Rattle.std.proofs.Common.{false, arith}
use Rattle.clause_learning.proofs.learning.floor_of.Goals as goal

pub overflow_add-result : goal.overflow_add-result
overflow_add-result c = omega (arith, c.requires.small 1 (record { variable = 0; positive = false }) (omega arith))
