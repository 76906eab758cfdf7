use Rattle.std.proofs.Common.{◌≡◌, ◌++◌, drop, filter, map}
use Rattle.instr_text.specs.Cut.{seen}
use Rattle.instr_parser.specs.Naming.{is_plain_in}
use Rattle.instr_parser.specs.Tables.{actions}
use Rattle.instr_parser.proofs.naming.plain_among.Given as goal

-- the actions so far, and those that are left
abbrev pub invariant-loop-kind : goal.invariant-loop-kind
invariant-loop-kind l =
    l.kinds.items ++ filter (is_plain_in l.is_native (seen l.imports)) (drop l.kind-index (map (λ row. row.1) actions))
    ≡ filter (is_plain_in l.is_native (seen l.imports)) (map (λ row. row.1) actions)
