use Rattle.std.proofs.Common.{true, arith}
use Rattle.pb_rows.proofs.AmongLaws.{weighed_moderate}
use Rattle.pb_rows.proofs.makers.add_need.Goals as goal

pub push-requires-clause-coefs : goal.push-requires-clause-coefs
push-requires-clause-coefs c = rw c.in_ok-terms.ensures (weighed_moderate c.args.min c.args.variable true c.args.matching.now (omega arith))
