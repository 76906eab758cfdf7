use Rattle.std.proofs.Common.{◌∙◌, sym}
use Rattle.artifact_pool.proofs.Noting.{known_first, known_again}
use Rattle.artifact_pool.proofs.digests.add.Goals as goal

pub returns-in_ok-insert : goal.returns-in_ok-insert
returns-in_ok-insert c = λ before known.
    known_first c.args.known c.args.digests.now (record { known = c.insert.new.self }) (sym c.contains_key.ensures ∙ c.if-not-contains_key.true) c.in_ok-insert.ensures.updates.0 before known

pub returns-else-not-contains_key : goal.returns-else-not-contains_key
returns-else-not-contains_key c = λ before known.
    known_again c.args.known c.args.digests.now (sym c.contains_key.ensures ∙ c.if-not-contains_key.false) before known
