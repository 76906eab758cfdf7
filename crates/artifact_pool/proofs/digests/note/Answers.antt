use Rattle.std.proofs.Common.{◌∷◌, [], inr, refl}
use Rattle.artifact_pool.proofs.Reading.{not_said, some_bytes}
use Rattle.artifact_pool.proofs.digests.note.Goals as goal

pub returns-in_default : goal.returns-in_default
returns-in_default c = not_said c.args.line.now (some_bytes c.args.line.now c.is_empty.result c.is_empty.ensures c.if-is_empty.false) (rw c.in_default.is at c.in_ok-known.ensures)

pub returns : goal.returns
returns c = (c.in-Some.known ∷ [], inr (c.in-Some.known, (rw c.in-Some.is at c.in_ok-known.ensures), refl), c.in_ok-add.ensures)
