use Rattle.std.proofs.Common.{◌≡◌, ◌++◌, ◌∷◌, drop}
use Rattle.ldap_filter.specs.FilterValue.{pieces_from, pieces}
use Rattle.ldap_filter.proofs.value.pieces.Given as goal

-- the rest is still to be added
abbrev pub invariant-loop-byte : goal.invariant-loop-byte
invariant-loop-byte l =
    l.list ++ (l.piece.items ++ (pieces_from l.escaped (drop l.byte-index l.written)).first) ∷ (pieces_from l.escaped (drop l.byte-index l.written)).later ≡ pieces l.written
