use Rattle.std.proofs.Common.{◌≡◌, ◌++◌, drop}
use Rattle.action_core.specs.Standing.{under_in}
use Rattle.native_actions.specs.Cleared.{paths_of}
use Rattle.native_actions.proofs.cleanupcopy.standing.Given as goal

abbrev pub invariant-loop-touch : goal.invariant-loop-touch
invariant-loop-touch l = paths_of (under_in l.nodes l.place) ≡ l.standing.items ++ paths_of (under_in (drop l.touch-index l.nodes) l.place)
