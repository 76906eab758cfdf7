use Rattle.unit_lines.specs.declared.part.Part.TheVariants as part
use Rattle.unit_text.proofs.taking.begin.Goals as goal

pub returns-in_default : goal.returns-in_default
returns-in_default c = λ name has. (rw c.in_default.is at c.in_ok-part.ensures) (part.Name name) has
