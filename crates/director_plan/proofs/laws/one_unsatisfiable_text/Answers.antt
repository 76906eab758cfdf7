use Rattle.director_plan.proofs.TextLaws.{one_text}
use Rattle.director_plan.proofs.laws.one_unsatisfiable_text.Goals as goal

pub returns : goal.returns
returns c = one_text
