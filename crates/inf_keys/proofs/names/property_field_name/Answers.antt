use Rattle.inf_keys.proofs.CaseNames.{property_named}
use Rattle.inf_keys.proofs.TableLemmas.{name_there, name_is}
use Rattle.inf_keys.proofs.names.property_field_name.Goals as goal

pub unreachable-requires : goal.unreachable-requires
unreachable-requires c = name_there _ _ _ _ _ c.property_fields.ensures c.property_field_code.ensures (property_named c.args.field) c.in-None.ensures.value

pub returns : goal.returns
returns c = name_is _ _ _ _ _ c.property_fields.ensures c.property_field_code.ensures (property_named c.args.field) _ c.in-Some.ensures.value
