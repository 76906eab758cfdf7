use Rattle.inf_values.proofs.TruthLemmas.{is_true-same}
use Rattle.inf_values.proofs.value.is_true.Goals as goal

pub returns : goal.returns
returns c = is_true-same c.eq_ignore_ascii_case.result c.args.text.now c.eq_ignore_ascii_case.ensures.test
