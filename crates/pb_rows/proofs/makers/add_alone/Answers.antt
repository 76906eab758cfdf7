use Rattle.std.proofs.Common.{false, arith}
use Rattle.pb_rows.proofs.AmongLaws.{terms_moderate}
use Rattle.pb_rows.proofs.makers.add_alone.Goals as goal

pub push-requires-clause-coefs : goal.push-requires-clause-coefs
push-requires-clause-coefs c = rw c.in_ok-terms.ensures (terms_moderate 1 false c.args.singles.now (omega arith))
