use Rattle.inf_values.proofs.IdLemmas.{is_id-same}
use Rattle.inf_values.proofs.host.is_id.Goals as goal

pub returns-clause-value : goal.returns-clause-value
returns-clause-value c = is_id-same c.is_unit_id.result c.args.id.now c.is_unit_id.ensures
