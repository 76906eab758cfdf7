use Rattle.std.proofs.Common.{◌≡◌, drop, map}
use Rattle.std.specs.List.{list_any, list_all}
use Rattle.ldap_filter.specs.Truth.{is_true}
use Rattle.ldap_filter.proofs.+truth.Given as goal

-- the rest decides
abbrev pub invariant-truth::all_true-loop-filter : goal.invariant-truth::all_true-loop-filter
invariant-truth::all_true-loop-filter l =
    list_all (λ t. t) (map (is_true l.env) l.filters) ≡ list_all (λ t. t) (map (is_true l.env) (drop l.filter-index l.filters))

abbrev pub invariant-truth::any_true-loop-filter : goal.invariant-truth::any_true-loop-filter
invariant-truth::any_true-loop-filter l =
    list_any (λ t. t) (map (is_true l.env) l.filters) ≡ list_any (λ t. t) (map (is_true l.env) (drop l.filter-index l.filters))
