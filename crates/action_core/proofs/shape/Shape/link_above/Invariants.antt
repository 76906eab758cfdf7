use Rattle.std.proofs.Common.{◌≡◌, ◌≤◌, [], length, take, drop}
use Rattle.action_core.specs.Standing.{map_of}
use Rattle.action_core.specs.Tests.{link_from}
use Rattle.action_core.proofs.shape.Shape.link_above.Given as goal

abbrev pub invariant-loop-count : goal.invariant-loop-count
invariant-loop-count l = (l.count ≤ length l.names) × (link_from (map_of l.self) (take l.count l.names) (drop l.count l.names) ≡ link_from (map_of l.self) [] l.names)
