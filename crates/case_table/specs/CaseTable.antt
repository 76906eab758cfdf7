use Rattle.std.specs.Prelude.{ℕ, List}
use Rattle.case_table.specs.Rows.{Row, rows_of}
use Rattle.case_table.specs.declared.table.CaseTable.{CaseTable}

-- what a table shows: its rows
abbrev pub rows : {N : ℕ} → CaseTable N → List Row
rows table = rows_of table.names.now table.codes
