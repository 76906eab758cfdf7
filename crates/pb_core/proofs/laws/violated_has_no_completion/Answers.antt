use Rattle.pb_core.proofs.SatisfactionLaws.{violated_has_no_completion as law}
use Rattle.pb_core.proofs.laws.violated_has_no_completion.Goals as goal

pub returns : goal.returns
returns c = λ values k full violated completes satisfied. law full values k violated completes satisfied
