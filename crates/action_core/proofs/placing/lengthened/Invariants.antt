use Rattle.std.proofs.Common.{◌≡◌, ◌++◌, take}
use Rattle.action_core.proofs.placing.lengthened.Given as goal

abbrev pub invariant-loop-name : goal.invariant-loop-name
invariant-loop-name l = l.longer ≡ l.fn.path ++ take l.name-index l.names
