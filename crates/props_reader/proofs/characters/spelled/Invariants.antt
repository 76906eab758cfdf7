use Rattle.std.proofs.Common.{◌≡◌, length, string_bytes}
use Rattle.props_reader.specs.Characters.{characters, spelled}
use Rattle.props_reader.proofs.CharacterLemmas.{after_text}
use Rattle.props_reader.proofs.characters.spelled.Given as goal

-- the text so far, and the characters of the rest
abbrev pub invariant-loop-sign : goal.invariant-loop-sign
invariant-loop-sign l = after_text (string_bytes l.text) (characters 0 l.rest) ≡ spelled l.fn.signs

abbrev pub decreases-loop-sign : goal.decreases-loop-sign
decreases-loop-sign l = length l.rest
