use Rattle.pb_rows.specs.Rows.{rows}
use Rattle.pb_rows.proofs.AmongLaws.{rows_over, normal_over}
use Rattle.pb_rows.proofs.laws.constraints_are_normal.Goals as goal
use Rattle.std.proofs.Common.{length}

pub returns : goal.returns
returns c = λ members roots env constraints is. normal_over (length members) (rows members roots env) constraints is (rows_over members roots env)
