use Rattle.instr_text.proofs.Fronts.{behind_text}
use Rattle.instr_text.proofs.front.behind.Goals as goal

pub returns : goal.returns
returns c = behind_text c.args.front.now c.args.text.now c.strip_prefix.result c.strip_prefix.ensures.cases
