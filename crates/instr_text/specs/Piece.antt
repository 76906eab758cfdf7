-- The pieces of an instruction's text: `NAME(KEY:VALUE,KEY:VALUE)`.
use Rattle.std.specs.Prelude.{ℕ, ◌==◌, List, [], ◌∷◌, map, Option, Some, None, option_map, option_and_then, if◌then◌else◌}
use Rattle.std.specs.List.{slice_split}
use Rattle.std.specs.Str.{is_utf8}
use Rattle.instr_text.specs.Cut.{is_empty, trimmed, cut, before_last}
use Rattle.instr_text.specs.declared.piece.Part.{Part as Read}

-- a key and its value
abbrev pub Part : Type 0
Part = List ℕ × List ℕ

-- a name and the parameters
abbrev pub Piece : Type 0
Piece = List ℕ × List Part

-- `KEY:VALUE`: the key ends at the first `:` and isn't empty, and both stand in white space or none
unfoldable pub part_of : List ℕ → Option Part
part_of text =
    option_and_then (λ halves. if is_empty (trimmed halves.0) then None else Some (trimmed halves.0, trimmed halves.1))
    (cut 58 text)

-- all of these texts, where each is one
unfoldable pub parts_of : List (List ℕ) → Option (List Part)
parts_of [] = Some []
parts_of (text ∷ texts) = option_and_then (λ part. option_map (λ parts. part ∷ parts) (parts_of texts)) (part_of text)

-- no parameter, or parameters with `,` between each two
unfoldable pub params_of : List ℕ → Option (List Part)
params_of text = if is_empty (trimmed text) then Some [] else parts_of (slice_split (λ b. b == 44) text)

-- The name ends at the first `(` and isn't empty, and the last byte is `)`.
unfoldable pub written_piece : List ℕ → Option Piece
written_piece text =
    option_and_then (λ halves. option_and_then (λ params.
    if is_empty (trimmed halves.0) then None else option_map (λ parts. (trimmed halves.0, parts)) (params_of params))
    (before_last 41 halves.1)) (cut 40 text)

-- a piece is UTF-8
unfoldable pub piece_of : List ℕ → Option Piece
piece_of bytes = if is_utf8 bytes then written_piece bytes else None

-- what is read of a part
abbrev pub part_seen : Read → Part
part_seen part = (part.key.now, part.value.now)

abbrev pub parts_seen : List Read → List Part
parts_seen parts = map part_seen parts
