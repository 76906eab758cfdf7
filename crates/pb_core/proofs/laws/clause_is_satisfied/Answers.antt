use Rattle.pb_core.proofs.SatisfactionLaws.{clause_from_true, true_from_clause}
use Rattle.pb_core.proofs.laws.clause_is_satisfied.Goals as goal

pub returns : goal.returns
returns c = λ lits full. (true_from_clause full lits, clause_from_true full lits)
