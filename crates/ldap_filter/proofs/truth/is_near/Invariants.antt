use Rattle.std.proofs.Common.{◌≡◌, nat_eq, length}
use Rattle.std.specs.Cmp.Lexicographic.{pointwise}
use Rattle.ldap_filter.specs.Truth.{blurred}
use Rattle.ldap_filter.proofs.truth.is_near.Given as goal

-- the rests decide
abbrev pub invariant-loop-byte : goal.invariant-loop-byte
invariant-loop-byte l =
    pointwise nat_eq (blurred l.value) (blurred l.other) ≡ pointwise nat_eq (blurred l.rest) (blurred l.other_rest)

abbrev pub decreases-loop-byte : goal.decreases-loop-byte
decreases-loop-byte l = length l.rest
