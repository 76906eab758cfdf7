use Rattle.pb_rows.proofs.RootLaws.{roots_hold as law}
use Rattle.pb_rows.proofs.laws.root_rows_ask_for_roots.Goals as goal

pub returns : goal.returns
returns c = law
