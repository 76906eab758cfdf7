use Rattle.std.proofs.Common.{◌≡◌, ◌++◌, drop, filter}
use Rattle.instr_text.specs.Cut.{seen}
use Rattle.instr_parser.specs.Path.{is_kept}
use Rattle.instr_parser.proofs.path.kept.Given as goal

-- the pieces that are kept so far, and those of the ones that are left
abbrev pub invariant-loop-piece : goal.invariant-loop-piece
invariant-loop-piece l = seen l.names.items ++ filter is_kept (seen (drop l.piece-index l.pieces)) ≡ filter is_kept (seen l.pieces)
