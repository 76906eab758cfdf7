-- What one requirement asks for.
use Rattle.std.specs.Prelude.{List}
use Rattle.ldap_filter.specs.EnvPairs.{EnvPair}
use Rattle.unit_model.specs.declared.unit.Unit.{Unit as Package}
use Rattle.pb_rows.specs.Rows.{Row, required_rows}
use Rattle.pb_encode.specs.declared.requirements.Asked.{Asked}

abbrev pub asked_rows : List Package → List EnvPair → Asked → List Row
asked_rows members env asked = required_rows members env asked.variable (asked.row, asked.required.now)
