use Rattle.std.proofs.Common.{refl, arith}
use Rattle.inf_keys.specs.NameTables.{singles}
use Rattle.inf_keys.proofs.TableLemmas.{case_found, case_past, case_none}
use Rattle.inf_keys.proofs.names.find_single.Goals as goal

pub returns-in_err-code : goal.returns-in_err-code
returns-in_err-code c =
    let none = case_none singles refl _ c.singles.ensures c.args.name.now c.in_err-code.ensures.value in
    cc

pub returns-in-0 : goal.returns-in-0
returns-in-0 c = case_found singles refl _ c.singles.ensures c.args.name.now c.in_ok-code.code 0 c.in_ok-code.ensures.value c.in-0.is

pub returns-in-1 : goal.returns-in-1
returns-in-1 c = case_found singles refl _ c.singles.ensures c.args.name.now c.in_ok-code.code 1 c.in_ok-code.ensures.value c.in-1.is

pub returns-in-2 : goal.returns-in-2
returns-in-2 c = case_found singles refl _ c.singles.ensures c.args.name.now c.in_ok-code.code 2 c.in_ok-code.ensures.value c.in-2.is

pub returns-in-3 : goal.returns-in-3
returns-in-3 c = case_found singles refl _ c.singles.ensures c.args.name.now c.in_ok-code.code 3 c.in_ok-code.ensures.value c.in-3.is

pub returns-in-4 : goal.returns-in-4
returns-in-4 c = case_found singles refl _ c.singles.ensures c.args.name.now c.in_ok-code.code 4 c.in_ok-code.ensures.value c.in-4.is

pub returns-in-5 : goal.returns-in-5
returns-in-5 c = case_found singles refl _ c.singles.ensures c.args.name.now c.in_ok-code.code 5 c.in_ok-code.ensures.value c.in-5.is

pub returns-in-6 : goal.returns-in-6
returns-in-6 c = case_found singles refl _ c.singles.ensures c.args.name.now c.in_ok-code.code 6 c.in_ok-code.ensures.value c.in-6.is

pub returns-in-7 : goal.returns-in-7
returns-in-7 c = case_found singles refl _ c.singles.ensures c.args.name.now c.in_ok-code.code 7 c.in_ok-code.ensures.value c.in-7.is

pub returns-in-8 : goal.returns-in-8
returns-in-8 c = case_found singles refl _ c.singles.ensures c.args.name.now c.in_ok-code.code 8 c.in_ok-code.ensures.value c.in-8.is

pub returns-in-9 : goal.returns-in-9
returns-in-9 c = case_found singles refl _ c.singles.ensures c.args.name.now c.in_ok-code.code 9 c.in_ok-code.ensures.value c.in-9.is

pub returns-in_default : goal.returns-in_default
returns-in_default c = case_past singles refl _ c.singles.ensures c.args.name.now c.in_ok-code.code c.in_ok-code.ensures.value (omega (arith, c.in_default))
