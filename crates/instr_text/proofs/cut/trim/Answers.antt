use Rattle.std.proofs.Common.{refl}
use Rattle.std.proofs.lemmas.Str.Ascii.{trim_ascii_is}
use Rattle.instr_text.specs.Cut.{trimmed, trimmed_start}
use Rattle.instr_text.proofs.cut.trim.Goals as goal

pub returns : goal.returns
unfolding trimmed
returns c = trim_ascii_is c.args.text.now _ (trimmed_start c.args.text.now) refl c.trim_ascii.ensures.value
