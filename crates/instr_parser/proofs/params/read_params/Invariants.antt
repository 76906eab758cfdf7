use Rattle.std.proofs.Common.{◌≡◌, drop}
use Rattle.instr_text.specs.Piece.{parts_seen}
use Rattle.instr_parser.specs.Params.{params_of, params_from}
use Rattle.instr_parser.proofs.params.read_params.Given as goal

-- what is given so far, and the parts that are left
abbrev pub invariant-loop-part : goal.invariant-loop-part
invariant-loop-part l = params_from l.kind l.given.items (parts_seen (drop l.part-index l.parts)) ≡ params_of l.kind (parts_seen l.parts)
