use Rattle.std.proofs.Common.{◌≡◌, ◌+◌, length, drop}
use Rattle.case_table.specs.Rows.{names_of, rows_of, code_of}
use Rattle.case_table.proofs.table.CaseTable.find.Given as goal

-- the name's code is that in the rows that are left
abbrev pub invariant-loop-code : goal.invariant-loop-code
invariant-loop-code g l =
    (length (names_of l.rest) + l.code-index ≡ length l.self.codes)
    × (code_of (rows_of l.rest (drop l.code-index l.self.codes)) l.name ≡ code_of (rows_of l.self.names.now l.self.codes) l.name)
