use Rattle.std.proofs.Common.{◌∙◌}
use Rattle.ldap_filter.proofs.EnvLemmas.{entries_eq}
use Rattle.ldap_filter.proofs.env.EnvPartialEq.eq.Goals as goal

pub returns : goal.returns
returns c = rw (← c.self.view_is, ← c.other.view_is) (c.eq.ensures ∙ entries_eq c.self.inside.entries.items c.other.inside.entries.items)
