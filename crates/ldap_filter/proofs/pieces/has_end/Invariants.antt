use Rattle.std.proofs.Common.{◌≡◌, [], ◌∷◌, ◌++◌, drop}
use Rattle.std.specs.List.{list_any}
use Rattle.ldap_filter.specs.Pieces.{tails, fits}
use Rattle.ldap_filter.proofs.pieces.has_end.Given as goal

-- the pieces that are left decide on the rest
abbrev pub invariant-loop-piece : goal.invariant-loop-piece
invariant-loop-piece l =
    list_any (fits (l.middle ++ l.last ∷ [])) (tails l.value) ≡ list_any (fits (drop l.piece-index l.middle ++ l.last ∷ [])) (tails l.rest)
