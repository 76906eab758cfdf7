use Rattle.pb_core.proofs.PropagationLaws.{settles_alike, violation_or_rest}
use Rattle.pb_core.proofs.laws.propagation_has_one_end.Goals as goal

pub returns : goal.returns
returns c = record { values = settles_alike; violation = violation_or_rest }
