use Rattle.std.proofs.Common.{◌≡◌, ◌++◌, map}
use Rattle.props_reader.specs.Entries.{entries_seen}
use Rattle.props_reader.proofs.reader.as_pairs.Given as goal

-- the pairs so far, and the entries that are left
abbrev pub invariant-loop-key : goal.invariant-loop-key
invariant-loop-key l = map (λ p. (p.key, p.value)) l.pairs ++ entries_seen l.key-iterator ≡ entries_seen l.fn.entries.entries
