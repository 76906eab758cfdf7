use Rattle.pb_core.proofs.PropagationLaws.{Completes-Propagates, violation_refutes}
use Rattle.pb_core.proofs.laws.propagation_is_sound.Goals as goal

pub returns : goal.returns
returns c = record { values = λ constraints values later full p s k. Completes-Propagates p full s k; violation = λ constraints values full r s k. violation_refutes constraints values r full s k }
