use Rattle.ldap_filter.proofs.SameLength.{each_is-length}
use Rattle.ldap_filter.proofs.filter.+equal.Goals as goal

pub are_equal-returns-then-filters-others : goal.are_equal-returns-then-filters-others
are_equal-returns-then-filters-others t c = each_is-length _ _ c.if-filters-others.true
