use Rattle.std.proofs.Common.{true, arith}
use Rattle.pb_rows.proofs.AmongLaws.{terms_moderate}
use Rattle.pb_rows.proofs.makers.add_root.Goals as goal

pub push-requires-clause-coefs : goal.push-requires-clause-coefs
push-requires-clause-coefs c = rw c.in_ok-terms.ensures (terms_moderate 1 true c.args.named.now (omega arith))
