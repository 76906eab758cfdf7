use Rattle.instr_parser.proofs.NameForms.{is_true-same}
use Rattle.instr_parser.proofs.value.is_true.Goals as goal

pub returns : goal.returns
returns c = is_true-same c.eq_ignore_ascii_case.result c.args.bytes.now c.eq_ignore_ascii_case.ensures.test
