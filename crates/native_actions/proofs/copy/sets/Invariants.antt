use Rattle.std.proofs.Common.{◌≡◌, ◌++◌, drop}
use Rattle.action_core.specs.Rows.{too_deep_from}
use Rattle.action_core.specs.Standing.{under_in}
use Rattle.native_actions.specs.Copied.{copied_sets}
use Rattle.native_actions.proofs.copy.sets.Given as goal

abbrev pub invariant-loop-touch : goal.invariant-loop-touch
invariant-loop-touch l =
    (copied_sets l.source l.target (under_in l.nodes l.source) ≡ l.steps ++ copied_sets l.source l.target (under_in (drop l.touch-index l.nodes) l.source))
    × (too_deep_from l.source l.target (under_in l.nodes l.source) ≡ too_deep_from l.source l.target (under_in (drop l.touch-index l.nodes) l.source))
