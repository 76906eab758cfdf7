use Rattle.inf_keys.proofs.CaseNames.{provided_named}
use Rattle.inf_keys.proofs.TableLemmas.{name_there, name_is}
use Rattle.inf_keys.proofs.names.provided_field_name.Goals as goal

pub unreachable-requires : goal.unreachable-requires
unreachable-requires c = name_there _ _ _ _ _ c.provided_fields.ensures c.provided_field_code.ensures (provided_named c.args.field) c.in-None.ensures.value

pub returns : goal.returns
returns c = name_is _ _ _ _ _ c.provided_fields.ensures c.provided_field_code.ensures (provided_named c.args.field) _ c.in-Some.ensures.value
