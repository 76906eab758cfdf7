use Rattle.std.proofs.Common.{◌≡◌, false, [], map}
use Rattle.props_reader.specs.LogicalLines.{logical_lines}
use Rattle.props_reader.proofs.JoinLemmas.{from_index}
use Rattle.props_reader.proofs.logical.logical_lines.Given as goal

-- the logical lines so far, and those of the natural lines that are left
abbrev pub invariant-loop-index : goal.invariant-loop-index
invariant-loop-index l =
    (l.goes_on ≡ false → l.joined.items ≡ [])
    × (from_index (map (λ line. line.items) l.found.items) l.goes_on l.joined.items l.index l.lines
    ≡ logical_lines false 1 (map (λ line. line.now) l.lines))
