use Rattle.std.proofs.Common.{◌≡◌, drop}
use Rattle.ldap_filter.specs.Truth.{blurred}
use Rattle.ldap_filter.proofs.truth.next_visible.Given as goal

-- only blanks so far
abbrev pub invariant-loop-place : goal.invariant-loop-place
invariant-loop-place l = blurred l.value ≡ blurred (drop l.place l.value)
