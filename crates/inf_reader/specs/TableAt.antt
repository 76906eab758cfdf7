use Rattle.std.specs.Prelude.{Option}
use Rattle.std.specs.BTreeMap.{get}
use Rattle.inf_keys.specs.declared.key.Key.{Key}
use Rattle.inf_keys.specs.Order.{key_cmp}
use Rattle.inf_values.specs.declared.reading.Value.{Value}
use Rattle.inf_reader.specs.declared.table.Table.{Table}

-- the value that a table has at a key
abbrev pub at : Table → Key → Option Value
at table key = get key_cmp table.values key
