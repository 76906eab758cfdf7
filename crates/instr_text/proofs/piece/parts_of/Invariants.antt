use Rattle.std.proofs.Common.{◌≡◌, drop}
use Rattle.instr_text.specs.Cut.{seen}
use Rattle.instr_text.specs.Piece.{parts_seen, parts_of}
use Rattle.instr_text.proofs.PieceLemmas.{with_parts}
use Rattle.instr_text.proofs.piece.parts_of.Given as goal

-- the parts so far, and those of the texts that are left
abbrev pub invariant-loop-text : goal.invariant-loop-text
invariant-loop-text l = with_parts (parts_seen l.parts.items) (parts_of (seen (drop l.text-index l.texts))) ≡ parts_of (seen l.texts)
