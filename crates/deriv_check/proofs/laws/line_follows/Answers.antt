use Rattle.deriv_check.proofs.Soundness.{line_follows as law}
use Rattle.deriv_check.proofs.laws.line_follows.Goals as goal

pub returns : goal.returns
returns c = law
