use Rattle.std.proofs.Common.{◌≡◌, Option, option_map, subst}
use Rattle.std.specs.Prelude.{IfOk}
use Rattle.instr_text.specs.Piece.{Piece, parts_seen, written_piece, piece_of}
use Rattle.instr_text.proofs.PieceLemmas.{piece_of-utf8, piece_of-other}
use Rattle.instr_text.proofs.piece.read_piece.Goals as goal

pub returns-in-Ok : goal.returns-in-Ok
returns-in-Ok c =
    let text = c.in-Ok.ensures.cases in
    let same : written_piece c.in-Ok.text.now ≡ piece_of c.args.bytes.now = piece_of-utf8 c.args.bytes.now c.in-Ok.text.now text.0 text.1 in
    subst (λ (w : Option Piece). IfOk c.written_piece.result (λ piece. option_map (λ p. (p.name.now, parts_seen p.parts.items)) piece ≡ w)) same c.written_piece.ensures

pub returns-in-Err : goal.returns-in-Err
returns-in-Err c = piece_of-other c.args.bytes.now c.in-Err.ensures.cases.0
