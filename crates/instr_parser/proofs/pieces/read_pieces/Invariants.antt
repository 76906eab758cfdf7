use Rattle.std.proofs.Common.{◌≡◌, ◌+◌, drop}
use Rattle.instr_text.specs.Cut.{seen, sizes}
use Rattle.instr_text.proofs.Steps.{with_items}
use Rattle.instr_parser.specs.Calls.{calls_from}
use Rattle.instr_parser.proofs.pieces.read_pieces.Given as goal

-- the calls so far and those of the pieces that are left, and how far the text is read
abbrev pub invariant-loop-piece : goal.invariant-loop-piece
invariant-loop-piece l =
    (with_items l.calls (calls_from l.plain l.at (seen (drop l.piece-index l.pieces))) ≡ calls_from l.plain 0 (seen l.pieces))
    × (l.at + sizes (seen (drop l.piece-index l.pieces)) ≡ sizes (seen l.pieces))
