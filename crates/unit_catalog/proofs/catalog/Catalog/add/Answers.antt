use Rattle.std.proofs.Common.{◌≡◌, ◌++◌, [], ◌∷◌, ◌≤◌, length, length-append, sym, ◌∙◌, subst, arith, rules}
use Rattle.std.proofs.lemmas.Grind.{common_steps}
use Rattle.std.specs.Prelude.{List}
use Rattle.unit_model.specs.declared.unit.Unit.{Unit as Package}
use Rattle.unit_catalog.specs.Named.{IsNew}
use Rattle.unit_catalog.proofs.Adding.{found_not_new, not_found_new, new_not_named, distinct_more}
use Rattle.unit_catalog.proofs.catalog.Catalog.add.Goals as goal

pub returns-then-is_some-clause-full : goal.returns-then-is_some-clause-full
returns-then-is_some-clause-full c = λ new full. absurd (found_not_new c.args.self.now c.args.unit.name c.find.result (sym c.is_some.ensures ∙ c.if-is_some.true) c.find.ensures.found new)

pub returns-then-is_some-clause-room : goal.returns-then-is_some-clause-room
returns-then-is_some-clause-room c = λ new room. absurd (found_not_new c.args.self.now c.args.unit.name c.find.result (sym c.is_some.ensures ∙ c.if-is_some.true) c.find.ensures.found new)

pub returns-then-len-eq-MOST_UNITS-clause-named : goal.returns-then-len-eq-MOST_UNITS-clause-named
returns-then-len-eq-MOST_UNITS-clause-named c = λ has.
    absurd (new_not_named c.args.self.now c.args.unit.name (not_found_new c.args.self.now c.args.unit.name c.find.result (sym c.is_some.ensures ∙ c.if-is_some.false) c.find.ensures.found) has)

pub returns-in_err-append-clause-named : goal.returns-in_err-append-clause-named
returns-in_err-append-clause-named c = λ has.
    absurd (new_not_named c.args.self.now c.args.unit.name (not_found_new c.args.self.now c.args.unit.name c.find.result (sym c.is_some.ensures ∙ c.if-is_some.false) c.find.ensures.found) has)

pub returns-clause-named : goal.returns-clause-named
returns-clause-named c = λ has.
    absurd (new_not_named c.args.self.now c.args.unit.name (not_found_new c.args.self.now c.args.unit.name c.find.result (sym c.is_some.ensures ∙ c.if-is_some.false) c.find.ensures.found) has)

pub invariant_of-self-2 : goal.invariant_of-self-2
invariant_of-self-2 c =
    let units = c.self.inside.units.items in
    let new : IsNew c.args.self.now c.args.unit.name = not_found_new c.args.self.now c.args.unit.name c.find.result (sym c.is_some.ensures ∙ c.if-is_some.false) c.find.ensures.found in
    let pushed : c.append.new.units.items ≡ units ++ c.args.unit ∷ [] = c.in_ok-append.ensures.ok in
    let long = length-append units (c.args.unit ∷ []) in
    let few : length units ≤ 65535 = first_of (omega arith, grind (arith, common_steps), search rules) in
    record {
      few = rw pushed (omega arith);
      distinct = rw pushed (distinct_more units c.args.unit c.self.invariant.distinct (subst (λ (us : List Package). IsNew us c.args.unit.name) (sym c.self.view_is) new));
      indexed = c.append.ensures.indexed;
    }
