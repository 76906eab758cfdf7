use Rattle.std.proofs.Common.{◌≡◌, ◌++◌, length, map}
use Rattle.props_reader.specs.NaturalLines.{natural_lines}
use Rattle.props_reader.proofs.lines.natural_lines.Given as goal

-- the lines so far, and those of the rest
abbrev pub invariant-lines : goal.invariant-lines
invariant-lines l = map (λ line. line.now) l.lines.items ++ natural_lines l.rest ≡ natural_lines l.fn.text

abbrev pub decreases-lines : goal.decreases-lines
decreases-lines l = length l.rest
