use Rattle.std.proofs.Common.{◌≡◌, ◌++◌, take, string_bytes}
use Rattle.std.specs.List.{flat_map}
use Rattle.ldap_filter.specs.FilterText.{starred_piece}
use Rattle.ldap_filter.proofs.writing.push_others.Given as goal

-- the pieces so far are added
abbrev pub invariant-loop-piece : goal.invariant-loop-piece
invariant-loop-piece l =
    string_bytes l.text ≡ string_bytes l.fn.text ++ flat_map starred_piece (take l.piece-index l.pieces)
