use Rattle.std.proofs.Common.{◌≡◌, drop, map}
use Rattle.props_reader.specs.Entries.{entries_seen}
use Rattle.props_reader.specs.PairsOf.{merged}
use Rattle.props_reader.proofs.PairLemmas.{collected}
use Rattle.props_reader.proofs.reader.merged.Given as goal

-- the pairs so far, and those of the lines that are left
abbrev pub invariant-loop-line : goal.invariant-loop-line
invariant-loop-line l =
    collected (entries_seen l.found.entries) (map (λ line. line.items) (drop l.line-index l.lines)) ≡ merged (map (λ line. line.items) l.lines)
