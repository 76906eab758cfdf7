use Rattle.std.proofs.Common.{◌≡◌, take}
use Rattle.ldap_filter.proofs.filter.+copy.Given as goal

-- what is copied so far is a front of the filters
abbrev pub invariant-copy_all-loop-filter : goal.invariant-copy_all-loop-filter
invariant-copy_all-loop-filter l = l.copied ≡ take l.filter-index l.filters
