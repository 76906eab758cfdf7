use Rattle.std.proofs.Common.{◌≡◌, take}
use Rattle.ldap_filter.proofs.env.EnvTwin.copy.Given as goal

-- what is copied so far is a front of the entries
abbrev pub invariant-loop-entry : goal.invariant-loop-entry
invariant-loop-entry l = l.entries.items ≡ take l.entry-index l.entry-items
