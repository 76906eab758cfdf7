use Rattle.pb_rows.proofs.UniqueForms.{one_list, terms_counted}
use Rattle.pb_rows.proofs.laws.rows_have_one_problem.Goals as goal

pub returns : goal.returns
returns c = record { one = one_list; counted = terms_counted }
