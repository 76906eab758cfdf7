-- The calls of an instruction's text.
use Rattle.std.specs.Prelude.{ℕ, ◌+◌, ◌==◌, List, [], ◌∷◌, ◌++◌, length, Option, Some, None, option_to_list, Result, Ok, Err, if◌then◌else◌}
use Rattle.std.specs.List.{slice_split}
use Rattle.instr_text.specs.declared.fault.InstrRefusal.{InstrRefusal}
use Rattle.instr_text.specs.declared.fault.InstrRefusal.TheVariants.{BadSyntax}
use Rattle.instr_text.specs.Gives.{◌>>=◌}
use Rattle.instr_text.specs.Cut.{is_empty, trimmed}
use Rattle.instr_text.specs.Piece.{Piece, piece_of}
use Rattle.instr_parser.specs.declared.call.Call.{Call}
use Rattle.instr_parser.specs.Naming.{plain_kinds, kind_of}
use Rattle.instr_parser.specs.Params.{call_with}

-- the call that a name with parameters is, where these actions may be named plainly
unfoldable pub call_of : List ℕ → Piece → Result Call InstrRefusal
call_of plain piece = kind_of plain piece.0 >>= λ kind. call_with kind piece.1

abbrev pub call_or_place : List ℕ → ℕ → Option Piece → Result Call InstrRefusal
call_or_place plain at None = Err (BadSyntax at)
call_or_place plain at (Some piece) = call_of plain piece

unfoldable pub call_at : List ℕ → ℕ → List ℕ → Result Call InstrRefusal
call_at plain at bytes = call_or_place plain at (piece_of bytes)

-- the call in what stands between two `;` behind `at` bytes, or none where that is white space
unfoldable pub piece_call : List ℕ → ℕ → List ℕ → Result (Option Call) InstrRefusal
piece_call plain at piece =
    if is_empty (trimmed piece) then Ok None else (call_at plain at (trimmed piece) >>= λ call. Ok (Some call))

-- the calls of pieces, of which the first begins behind `at` bytes
unfoldable pub calls_from : List ℕ → ℕ → List (List ℕ) → Result (List Call) InstrRefusal
calls_from plain at [] = Ok []
calls_from plain at (piece ∷ pieces) =
    piece_call plain at piece >>= λ call. calls_from plain (at + (length piece + 1)) pieces >>= λ calls. Ok (option_to_list call ++ calls)

-- the calls of a text, in a unit with these imports and this touchpoint
abbrev pub calls_of : List ℕ → List ℕ → Option (List ℕ) → Result (List Call) InstrRefusal
calls_of text imports touchpoint = calls_from (plain_kinds imports touchpoint) 0 (slice_split (λ b. b == 59) text)
