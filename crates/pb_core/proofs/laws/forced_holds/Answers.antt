use Rattle.pb_core.proofs.SatisfactionLaws.{forced_holds as law}
use Rattle.pb_core.proofs.laws.forced_holds.Goals as goal

pub returns : goal.returns
returns c = λ values k lit full forces completes satisfied. law full values k lit forces completes satisfied
