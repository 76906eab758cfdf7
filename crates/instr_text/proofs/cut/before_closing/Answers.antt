use Rattle.std.proofs.Common.{lit<}
use Rattle.std.proofs.lemmas.Str.Pattern.{strip_suffix_char}
use Rattle.instr_text.proofs.CutLemmas.{before_last_is}
use Rattle.instr_text.proofs.cut.before_closing.Goals as goal

pub returns : goal.returns
returns c = before_last_is c.args.text.now _ (strip_suffix_char 41 c.args.text.now _ c.strip_suffix.ensures.cases (lit< tt))
