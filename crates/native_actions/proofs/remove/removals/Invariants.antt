use Rattle.std.proofs.Common.{◌≡◌, ◌≤◌, length, drop}
use Rattle.action_core.specs.Standing.{under_in}
use Rattle.native_actions.specs.Removals.{removals}
use Rattle.native_actions.proofs.remove.removals.Given as goal

abbrev pub invariant-loop-left : goal.invariant-loop-left
invariant-loop-left l = (l.left ≤ length l.nodes) × (l.steps ≡ removals (under_in (drop l.left l.nodes) l.path))

abbrev pub decreases-loop-left : goal.decreases-loop-left
decreases-loop-left l = l.left
