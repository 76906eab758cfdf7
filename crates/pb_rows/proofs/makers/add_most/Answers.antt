use Rattle.std.proofs.Common.{◌-◌, false, length, arith}
use Rattle.pb_rows.proofs.AmongLaws.{weighed_moderate}
use Rattle.pb_rows.proofs.makers.add_most.Goals as goal

pub push-requires-clause-coefs : goal.push-requires-clause-coefs
push-requires-clause-coefs c = rw c.in_ok-terms.ensures (weighed_moderate (length c.args.matching.now - c.args.max) c.args.variable false c.args.matching.now (omega arith))
