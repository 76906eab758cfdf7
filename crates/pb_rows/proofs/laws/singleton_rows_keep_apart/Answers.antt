use Rattle.pb_rows.proofs.SingletonLaws.{singletons_hold as law}
use Rattle.pb_rows.proofs.laws.singleton_rows_keep_apart.Goals as goal

pub returns : goal.returns
returns c = law
