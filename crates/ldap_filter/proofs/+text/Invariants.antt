use Rattle.std.proofs.Common.{◌≡◌, ◌++◌, take, map, string_bytes}
use Rattle.ldap_filter.specs.FilterText.{filter_text, joined}
use Rattle.ldap_filter.proofs.+text.Given as goal

-- the texts so far are added
abbrev pub invariant-writing::push_all-loop-filter : goal.invariant-writing::push_all-loop-filter
invariant-writing::push_all-loop-filter l =
    string_bytes l.text ≡ string_bytes l.fn.text ++ joined (map filter_text (take l.filter-index l.filters))
