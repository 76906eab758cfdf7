use Rattle.std.proofs.Common.{◌≡◌, ◌≤◌, ◌++◌, length, take}
use Rattle.std.specs.Prelude.{reverse}
use Rattle.native_actions.specs.Cleared.{ArePathsRising, cleared}
use Rattle.native_actions.proofs.cleanupcopy.cleared.Given as goal

abbrev pub invariant-loop-count : goal.invariant-loop-count
invariant-loop-count l =
    (l.count ≤ length l.noted)
    × ArePathsRising l.left.items
    × (cleared (reverse l.noted) l.fn.left.items ≡ l.steps ++ cleared (reverse (take l.count l.noted)) l.left.items)

abbrev pub decreases-loop-count : goal.decreases-loop-count
decreases-loop-count l = l.count
