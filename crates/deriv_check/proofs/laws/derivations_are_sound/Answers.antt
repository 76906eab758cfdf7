use Rattle.deriv_check.proofs.Soundness.{are_sound as law}
use Rattle.deriv_check.proofs.laws.derivations_are_sound.Goals as goal

pub returns : goal.returns
returns c = law
