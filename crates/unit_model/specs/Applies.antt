use Rattle.std.specs.Prelude.{Bool, true, Option, Some, None, List}
use Rattle.ldap_filter.specs.EnvPairs.{EnvPair}
use Rattle.ldap_filter.specs.Truth.{is_true}
use Rattle.ldap_filter.specs.declared.filter.Filter.{Filter}

-- Whether a filter is true in an environment. A filter that is missing is.
abbrev pub filter_true : List EnvPair → Option Filter → Bool
filter_true env None = true
filter_true env (Some filter) = is_true env filter
