use Rattle.std.proofs.Common.{◌≡◌, take}
use Rattle.action_core.proofs.testing.front.Given as goal

abbrev pub invariant-loop-name : goal.invariant-loop-name
invariant-loop-name l = l.front ≡ take l.name-index l.names
