use Rattle.ldap_filter.specs.EnvPlace.{AreBelow}
use Rattle.ldap_filter.proofs.env_set.place_of.Given as goal

-- the entries so far come before the key
abbrev pub invariant-loop-place : goal.invariant-loop-place
invariant-loop-place l = AreBelow l.entries l.key l.place
