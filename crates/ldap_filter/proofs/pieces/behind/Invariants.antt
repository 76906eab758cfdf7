use Rattle.std.proofs.Common.{◌≡◌, length}
use Rattle.ldap_filter.specs.Behind.{behind}
use Rattle.ldap_filter.proofs.pieces.behind.Given as goal

-- the piece isn't before the rest
abbrev pub invariant-loop-rest : goal.invariant-loop-rest
invariant-loop-rest l = behind l.piece l.value ≡ behind l.piece l.rest

abbrev pub decreases-loop-rest : goal.decreases-loop-rest
decreases-loop-rest l = length l.rest
