use Rattle.instr_text.proofs.CutLemmas.{cut_is}
use Rattle.instr_text.proofs.cut.cut.Goals as goal

pub returns : goal.returns
returns c = cut_is c.args.mark c.args.text.now _ (c.split_once.ensures.byte c.requires (λ w o f. f))
