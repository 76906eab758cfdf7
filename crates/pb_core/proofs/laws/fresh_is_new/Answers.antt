use Rattle.pb_core.proofs.PropagationLaws.{fresh_is_new as law}
use Rattle.pb_core.proofs.laws.fresh_is_new.Goals as goal

pub returns : goal.returns
returns c = law
