use Rattle.instr_parser.proofs.GivenCalls.{parsed_are_calls}
use Rattle.instr_parser.proofs.pieces.calls.Goals as goal

pub returns-clause-given : goal.returns-clause-given
returns-clause-given c = parsed_are_calls _ _ c.read_pieces.result c.read_pieces.ensures
