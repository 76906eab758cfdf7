use Rattle.std.proofs.Common.{◌≡◌, drop}
use Rattle.ldap_filter.specs.EnvPairs.{lowered, value_of}
use Rattle.ldap_filter.specs.EnvSeen.{pairs_seen}
use Rattle.ldap_filter.proofs.env.Env.get.Given as goal

-- the key isn't among the entries so far
abbrev pub invariant-loop-entry : goal.invariant-loop-entry
invariant-loop-entry l =
    value_of (pairs_seen l.entry-items) (lowered l.key) ≡ value_of (pairs_seen (drop l.entry-index l.entry-items)) (lowered l.key)
