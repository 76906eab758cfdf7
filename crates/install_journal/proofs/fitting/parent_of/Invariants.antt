use Rattle.std.proofs.Common.{◌≡◌, take}
use Rattle.install_journal.proofs.fitting.parent_of.Given as goal

abbrev pub invariant-loop-name : goal.invariant-loop-name
invariant-loop-name l = l.above ≡ take l.name-index l.front
