use Rattle.std.proofs.Common.{◌≡◌, ℕ, ◌<◌, get_or, false}
use Rattle.std.specs.Prelude.{◌&&◌, not}
use Rattle.folder_core.specs.Path.{path_eqb}
use Rattle.folder_core.specs.declared.node.Touch.{Touch}
use Rattle.action_core.specs.Standing.{stands_under}
use Rattle.action_core.proofs.looking.any_below.Given as goal

abbrev pub invariant-loop-touch : goal.invariant-loop-touch
invariant-loop-touch l = (k : ℕ) (d : Touch) → k < l.touch-index → (stands_under l.path (get_or l.nodes k d) && not (path_eqb (get_or l.nodes k d).path l.path)) ≡ false
