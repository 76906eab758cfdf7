use Rattle.unit_lines.proofs.Injective as injective
use Rattle.unit_lines.proofs.laws.one_part.Goals as goal

pub returns : goal.returns
returns c = injective.one_part
