use Rattle.std.proofs.Common.{refl, arith}
use Rattle.inf_keys.specs.NameTables.{property_fields}
use Rattle.inf_keys.proofs.TableLemmas.{case_found, case_past, case_none}
use Rattle.inf_keys.proofs.names.find_property_field.Goals as goal

pub returns-in_err-code : goal.returns-in_err-code
returns-in_err-code c =
    let none = case_none property_fields refl _ c.property_fields.ensures c.args.name.now c.in_err-code.ensures.value in
    cc

pub returns-in-0 : goal.returns-in-0
returns-in-0 c = case_found property_fields refl _ c.property_fields.ensures c.args.name.now c.in_ok-code.code 0 c.in_ok-code.ensures.value c.in-0.is

pub returns-in-1 : goal.returns-in-1
returns-in-1 c = case_found property_fields refl _ c.property_fields.ensures c.args.name.now c.in_ok-code.code 1 c.in_ok-code.ensures.value c.in-1.is

pub returns-in_default : goal.returns-in_default
returns-in_default c = case_past property_fields refl _ c.property_fields.ensures c.args.name.now c.in_ok-code.code c.in_ok-code.ensures.value (omega (arith, c.in_default))
