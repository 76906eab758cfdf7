use Rattle.std.proofs.Common.{refl, sym, subst}
use Rattle.unit_model.specs.declared.unit.Unit.{Unit}
use Rattle.inf_reader.specs.InForm.{IsUnitInForm}
use Rattle.director_words.specs.Root.{DenotesRoot}
use Rattle.director_core.specs.Found.{Finds}
use Rattle.director_core.proofs.LookUps.{denoted, finds, finds_none, found_in_form}
use Rattle.director_core.proofs.look_up.look_up.Goals as goal

pub returns-in_ok-copy-in-Some-unit_of-clause-found :
    goal.returns-in_ok-copy-in-Some-unit_of-clause-found
returns-in_ok-copy-in-Some-unit_of-clause-found c =
    let P : Unit → Type 0 = λ u. Finds c.args.word c.args.catalog.now u in
    let denotes : DenotesRoot c.args.word c.in-Some.root = denoted c.args.word c.bytes.result.now c.in_ok-root.field-0 c.in-Some.root c.bytes.ensures.value c.in-Some.is c.in_ok-root.ensures.found in
    subst P (sym c.in_ok-copy-in-Some-unit_of.ensures) (finds c.args.word c.in-Some.root c.args.catalog.now c.in-Some-unit_of.unit.now denotes c.in-Some-unit_of.ensures)

pub returns-in_ok-copy-in-Some-unit_of-clause-form :
    goal.returns-in_ok-copy-in-Some-unit_of-clause-form
returns-in_ok-copy-in-Some-unit_of-clause-form c =
    subst IsUnitInForm (sym c.in_ok-copy-in-Some-unit_of.ensures) (found_in_form c.in-Some.root c.args.catalog.now c.in-Some-unit_of.unit.now c.requires.form c.in-Some-unit_of.ensures)

pub returns-in-None-clause-refused : goal.returns-in-None-clause-refused
returns-in-None-clause-refused c =
    let denotes : DenotesRoot c.args.word c.in-Some.root = denoted c.args.word c.bytes.result.now c.in_ok-root.field-0 c.in-Some.root c.bytes.ensures.value c.in-Some.is c.in_ok-root.ensures.found in
    (refl, finds_none c.args.word c.in-Some.root c.args.catalog.now denotes c.in-None.ensures)
