use Rattle.ldap_filter.specs.FilterReading.{IsReadTo}
use Rattle.ldap_filter.proofs.filter.Filter.parse.Given as goal

abbrev pub invariant-loop-at : goal.invariant-loop-at
invariant-loop-at l = IsReadTo l.text l.at l.reader
