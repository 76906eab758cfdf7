use Rattle.std.specs.Prelude.{List, map}
use Rattle.ldap_filter.specs.EnvPairs.{EnvPair}
use Rattle.ldap_filter.specs.declared.env.Entry.{Entry}

-- an entry as its key and its value
abbrev pub pair_seen : Entry → EnvPair
pair_seen e = (e.key, e.value)

abbrev pub pairs_seen : List Entry → List EnvPair
pairs_seen entries = map pair_seen entries
