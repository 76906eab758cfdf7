use Rattle.std.proofs.Common.{arith, length}
use Rattle.std.proofs.lemmas.Bool.{false≢true}
use Rattle.artifact_pool.proofs.Parts.{parts}
use Rattle.artifact_pool.proofs.artifact_path.is_artifact_name.Goals as goal

pub returns : goal.returns
returns c = (
  λ e. absurd (false≢true e),
  λ is. let p = parts c.args.name.now is in absurd (c.loop-place.invariant (length is.id) (omega (arith, p.inside, c.loop-place-test.false)) p.at),
)
