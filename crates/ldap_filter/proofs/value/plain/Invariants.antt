use Rattle.std.proofs.Common.{◌≡◌, ◌++◌, drop}
use Rattle.ldap_filter.specs.FilterValue.{plain_from, plain}
use Rattle.ldap_filter.proofs.value.plain.Given as goal

-- the rest is still to be added
abbrev pub invariant-loop-byte : goal.invariant-loop-byte
invariant-loop-byte l = l.bytes.items ++ plain_from l.escaped (drop l.byte-index l.written) ≡ plain l.written
