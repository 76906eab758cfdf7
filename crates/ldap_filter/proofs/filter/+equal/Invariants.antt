use Rattle.std.proofs.Common.{◌≡◌, drop, map, length}
use Rattle.ldap_filter.specs.Same.{filter_eq, each_is}
use Rattle.ldap_filter.proofs.filter.+equal.Given as goal

-- the rest decides
abbrev pub invariant-are_equal-loop-place : goal.invariant-are_equal-loop-place
invariant-are_equal-loop-place l =
    (length l.filters ≡ length l.others) × (each_is (map filter_eq l.filters) l.others ≡ each_is (map filter_eq (drop l.place l.filters)) (drop l.place l.others))
