use Rattle.pb_core.proofs.PropagationLaws.{wide_slack_rests as law}
use Rattle.pb_core.proofs.laws.wide_slack_rests.Goals as goal

pub returns : goal.returns
returns c = law
