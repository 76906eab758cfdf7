use Rattle.std.proofs.Common.{take, ap, ◌∙◌}
use Rattle.instr_parser.proofs.naming.before_semicolon.Goals as goal

pub returns : goal.returns
returns c = c.split_at.ensures.front ∙ ap (λ n. take n c.args.import.now) c.semicolon_at.ensures.value
