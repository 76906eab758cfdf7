use Rattle.std.specs.List.{AllAdjacentBelow}
use Rattle.folder_core.specs.PathOrder.{IsPathBefore}
use Rattle.actions_suite.proofs.shape.are_rising.Given as goal

abbrev pub invariant-loop-place : goal.invariant-loop-place
invariant-loop-place l = AllAdjacentBelow (λ a b. IsPathBefore a.path b.path) l.nodes l.place
