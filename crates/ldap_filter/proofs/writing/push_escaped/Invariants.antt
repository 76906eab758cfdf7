use Rattle.std.proofs.Common.{◌≡◌, ◌++◌, string_bytes}
use Rattle.ldap_filter.specs.FilterText.{escaped}
use Rattle.ldap_filter.proofs.writing.push_escaped.Given as goal

-- the rest is still to be added
abbrev pub invariant-loop-character : goal.invariant-loop-character
invariant-loop-character l =
    string_bytes l.text ++ escaped l.character-iterator.rest.now ≡ string_bytes l.fn.text ++ escaped l.value
