use Rattle.std.proofs.Common.{◌≡◌, ◌+◌, length, drop}
use Rattle.case_table.specs.Rows.{names_of, rows_of, name_of}
use Rattle.case_table.proofs.table.CaseTable.name.Given as goal

-- the code's name is that in the rows that are left
abbrev pub invariant-loop-other : goal.invariant-loop-other
invariant-loop-other g l =
    (length (names_of l.rest) + l.other-index ≡ length l.self.codes)
    × (name_of (rows_of l.rest (drop l.other-index l.self.codes)) l.code ≡ name_of (rows_of l.self.names.now l.self.codes) l.code)
