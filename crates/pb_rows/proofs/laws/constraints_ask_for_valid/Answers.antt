use Rattle.pb_rows.proofs.NormalisingLaws.{constraints_hold}
use Rattle.pb_rows.proofs.RowsLaws.{constraints_say_valid}
use Rattle.pb_rows.proofs.laws.constraints_ask_for_valid.Goals as goal

pub returns : goal.returns
returns c = record { same = constraints_hold; valid = constraints_say_valid }
