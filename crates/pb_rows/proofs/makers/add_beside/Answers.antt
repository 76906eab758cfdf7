use Rattle.pb_rows.proofs.AmongLaws.{beside_moderate}
use Rattle.pb_rows.proofs.makers.add_beside.Goals as goal

pub push-requires-clause-coefs : goal.push-requires-clause-coefs
push-requires-clause-coefs c = rw c.in_ok-terms.ensures (beside_moderate c.args.singles.now c.args.other)
