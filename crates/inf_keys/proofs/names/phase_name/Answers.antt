use Rattle.inf_keys.proofs.CaseNames.{phase_named}
use Rattle.inf_keys.proofs.TableLemmas.{name_there, name_is}
use Rattle.inf_keys.proofs.names.phase_name.Goals as goal

pub unreachable-requires : goal.unreachable-requires
unreachable-requires c = name_there _ _ _ _ _ c.phases.ensures c.phase_code.ensures (phase_named c.args.phase) c.in-None.ensures.value

pub returns : goal.returns
returns c = name_is _ _ _ _ _ c.phases.ensures c.phase_code.ensures (phase_named c.args.phase) _ c.in-Some.ensures.value
