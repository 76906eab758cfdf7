use Rattle.std.proofs.Common.{◌≡◌, ◌++◌, drop, false}
use Rattle.props_reader.specs.Signs.{signs}
use Rattle.props_reader.proofs.signs.signs.Given as goal

-- the signs so far, and those of the rest
abbrev pub invariant-loop-placed : goal.invariant-loop-placed
invariant-loop-placed l = l.found.items ++ signs l.escaped (drop l.placed-index l.line) ≡ signs false l.line
