use Rattle.inf_keys.proofs.CaseNames.{single_named}
use Rattle.inf_keys.proofs.TableLemmas.{name_there, name_is}
use Rattle.inf_keys.proofs.names.single_name.Goals as goal

pub unreachable-requires : goal.unreachable-requires
unreachable-requires c = name_there _ _ _ _ _ c.singles.ensures c.single_code.ensures (single_named c.args.single) c.in-None.ensures.value

pub returns : goal.returns
returns c = name_is _ _ _ _ _ c.singles.ensures c.single_code.ensures (single_named c.args.single) _ c.in-Some.ensures.value
