use Rattle.std.proofs.Common.{rules}
use Rattle.inf_keys.proofs.TableLemmas.{required_rows}
use Rattle.inf_keys.proofs.names.required_fields.Goals as goal

pub returns : goal.returns
returns c = search (rules, required_rows)
