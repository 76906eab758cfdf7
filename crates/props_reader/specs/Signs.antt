-- The signs of a logical line: a byte with a backslash before it is escaped.
use Rattle.std.specs.Prelude.{◌==◌, ◌&&◌, not, Bool, true, false, List, [], ◌∷◌, if◌then◌else◌}
use Rattle.props_reader.specs.declared.logical.Placed.{Placed}
use Rattle.props_reader.specs.declared.signs.Sign.{Sign}

-- The signs, where `escaped` tells whether a backslash stands before the first byte. A backslash that escapes is
-- no sign itself; one that nothing follows is dropped.
unfoldable pub signs : Bool → List Placed → List Sign
signs escaped [] = []
signs escaped (b ∷ bytes) =
    if not escaped && (b.byte == 92) then signs true bytes
    else record { byte = b.byte; line = b.line; escaped = escaped } ∷ signs false bytes
