use Rattle.std.proofs.Common.{◌≡◌, ◌++◌, map, take}
use Rattle.props_reader.proofs.logical.join.Given as goal

abbrev pub invariant-loop-byte : goal.invariant-loop-byte
invariant-loop-byte l =
    l.joined.items ≡ l.initial.joined.items ++ map (λ b. record { byte = b; line = l.number }) (take l.byte-index l.kept)
