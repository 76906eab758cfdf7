use Rattle.std.proofs.Common.{◌≡◌, ◌<◌, List, length, get_or, refl, sym, ap, subst, ◌∙◌, arith}
use Rattle.pb_core.specs.AtLeast.{AtLeast}
use Rattle.pb_core.specs.ConstraintAt.{constraint_at}
use Rattle.pb_core.specs.Literal.{complement}
use Rattle.pb_core.specs.Occurrences.{occurrences_from}
use Rattle.pb_core.specs.Shares.{AreNumbered}
use Rattle.pb_core.specs.declared.literal.Lit.{Lit}
use Rattle.pb_core.specs.declared.occurrences.Occurrence.{Occurrence}
use Rattle.pb_core.proofs.KeptLaws.{occurrences_numbered}
use Rattle.pb_trail.specs.Rest.{Rests}
use Rattle.pb_trail.specs.declared.trail.Entry.{Entry}
use Rattle.pb_trail.proofs.PassLaws.{entry_among}
use Rattle.pb_trail.proofs.TrailLaws.{RestBesides, RestBesides-begins, RestBesides-visited, RestBesides-ends, Grows-itself, Grows-through, Counted-through}
use Rattle.pb_trail.proofs.trail.Trail.pass.Goals as goal

abbrev none : Occurrence
none = record { number = 0; coef = 0 }

pub occurrences-i-end-requires-clause-within : goal.occurrences-i-end-requires-clause-within
occurrences-i-end-requires-clause-within g c =
    let a = entry_among c.args.self.now c.args.place c.index.result.now c.requires.good c.requires.within in
    let same : c.complement-denied.result.variable ≡ (get_or c.args.self.now.entries.items c.args.place c.index.result.now).lit.variable = ap (λ (l : Lit). l.variable) c.complement-denied.ensures ∙ ap (λ (e : Entry). e.lit.variable) c.index.ensures in
    omega (arith, same, a.1)

pub loop-i-init : goal.loop-i-init
loop-i-init g c =
    let P : Lit → Type 0 = λ l. RestBesides c.args.self.now c.args.place 0 l in
    let denied : complement (get_or c.args.self.now.entries.items c.args.place c.index.result.now).lit ≡ c.complement-denied.result = sym (c.complement-denied.ensures ∙ ap (λ (e : Entry). complement e.lit) c.index.ensures) in
    record {
      good = c.requires.good;
      grows = Grows-itself c.args.self.now;
      rest = subst P denied (RestBesides-begins c.args.self.now c.args.place c.index.result.now c.requires.within c.requires.rest);
      steps = refl;
    }

pub occurrences-requires-clause-within : goal.occurrences-requires-clause-within
occurrences-requires-clause-within g c =
    let a = entry_among c.args.self.now c.args.place c.index.result.now c.requires.good c.requires.within in
    let same : c.complement-denied.result.variable ≡ (get_or c.args.self.now.entries.items c.args.place c.index.result.now).lit.variable = ap (λ (l : Lit). l.variable) c.complement-denied.ensures ∙ ap (λ (e : Entry). e.lit.variable) c.index.ensures in
    omega (arith, same, a.1, c.loop-i.invariant.grows.extends.variables)

pub visit-requires-clause-from_one : goal.visit-requires-clause-from_one
visit-requires-clause-from_one g c =
    let size : length c.occurrences.result.now ≡ length c.occurrences-i-end.result.now = ap length c.occurrences.ensures ∙ (ap (λ (cs : List AtLeast). length (occurrences_from 1 c.complement-denied.result cs)) c.loop-i.invariant.grows.extends.constraints ∙ sym (ap length c.occurrences-i-end.ensures)) in
    let P : List Occurrence → Type 0 = λ xs. AreNumbered (length c.loop-i.self.kept.constraints) xs in
    let numbered = subst P (sym c.occurrences.ensures) (occurrences_numbered c.complement-denied.result c.loop-i.self.kept.constraints) in
    (numbered c.loop-i.i none (omega (arith, size, c.loop-i-test.true))).0

pub visit-requires-clause-within : goal.visit-requires-clause-within
visit-requires-clause-within g c =
    let size : length c.occurrences.result.now ≡ length c.occurrences-i-end.result.now = ap length c.occurrences.ensures ∙ (ap (λ (cs : List AtLeast). length (occurrences_from 1 c.complement-denied.result cs)) c.loop-i.invariant.grows.extends.constraints ∙ sym (ap length c.occurrences-i-end.ensures)) in
    let P : List Occurrence → Type 0 = λ xs. AreNumbered (length c.loop-i.self.kept.constraints) xs in
    let numbered = subst P (sym c.occurrences.ensures) (occurrences_numbered c.complement-denied.result c.loop-i.self.kept.constraints) in
    (numbered c.loop-i.i none (omega (arith, size, c.loop-i-test.true))).1

pub returns-then-visit-clause-grows : goal.returns-then-visit-clause-grows
returns-then-visit-clause-grows g c = Grows-through c.args.self.now c.loop-i.self c.visit.new.self c.loop-i.invariant.grows c.visit.ensures.grows

pub returns-then-visit-clause-found : goal.returns-then-visit-clause-found
returns-then-visit-clause-found g c =
    let size : length c.occurrences.result.now ≡ length c.occurrences-i-end.result.now = ap length c.occurrences.ensures ∙ (ap (λ (cs : List AtLeast). length (occurrences_from 1 c.complement-denied.result cs)) c.loop-i.invariant.grows.extends.constraints ∙ sym (ap length c.occurrences-i-end.ensures)) in
    let P : List Occurrence → Type 0 = λ xs. AreNumbered (length c.loop-i.self.kept.constraints) xs in
    let numbered = subst P (sym c.occurrences.ensures) (occurrences_numbered c.complement-denied.result c.loop-i.self.kept.constraints) in
    let here = numbered c.loop-i.i none (omega (arith, size, c.loop-i-test.true)) in
    (here.0, omega (arith, here.1, ap length c.visit.ensures.grows.extends.constraints), c.if-visit.ensures.rests)

pub loop-i-preserved : goal.loop-i-preserved
loop-i-preserved g c =
    let size : length c.occurrences.result.now ≡ length c.occurrences-i-end.result.now = ap length c.occurrences.ensures ∙ (ap (λ (cs : List AtLeast). length (occurrences_from 1 c.complement-denied.result cs)) c.loop-i.invariant.grows.extends.constraints ∙ sym (ap length c.occurrences-i-end.ensures)) in
    let inside : c.loop-i.i < length (occurrences_from 1 c.complement-denied.result c.loop-i.self.kept.constraints) = omega (arith, size, c.loop-i-test.true, ap length c.occurrences.ensures) in
    let number = (get_or c.occurrences.result.now c.loop-i.i none).number in
    let is : (get_or c.occurrences.result.now c.loop-i.i none).number ≡ (get_or (occurrences_from 1 c.complement-denied.result c.loop-i.self.kept.constraints) c.loop-i.i none).number = ap (λ (xs : List Occurrence). (get_or xs c.loop-i.i none).number) c.occurrences.ensures in
    let P : List AtLeast → Type 0 = λ cs. Rests c.visit.new.self.kept.values (constraint_at cs (get_or c.occurrences.result.now c.loop-i.i none).number) in
    record {
      good = c.visit.ensures.good;
      grows = Grows-through c.args.self.now c.loop-i.self c.visit.new.self c.loop-i.invariant.grows c.visit.ensures.grows;
      rest = RestBesides-visited c.loop-i.self c.visit.new.self c.args.place c.loop-i.i (get_or c.occurrences.result.now c.loop-i.i none).number c.complement-denied.result none c.loop-i.invariant.good c.visit.ensures.good c.visit.ensures.grows.extends (omega (arith, c.requires.within, c.loop-i.invariant.grows.extends.longer)) inside is c.loop-i.invariant.rest (subst P c.visit.ensures.grows.extends.constraints c.if-visit.ensures.rests);
      steps = Counted-through c.args.self.now c.loop-i.self c.visit.new.self c.args.steps.now c.loop-i.steps c.visit.new.steps c.loop-i.invariant.grows.extends.constraints c.loop-i.invariant.steps c.visit.ensures.steps;
    }

pub returns-clause-found : goal.returns-clause-found
returns-clause-found g c =
    let size : length (occurrences_from 1 c.complement-denied.result c.loop-i.self.kept.constraints) ≡ length c.occurrences-i-end.result.now = ap (λ (cs : List AtLeast). length (occurrences_from 1 c.complement-denied.result cs)) c.loop-i.invariant.grows.extends.constraints ∙ sym (ap length c.occurrences-i-end.ensures) in
    RestBesides-ends c.loop-i.self c.args.place c.loop-i.i c.complement-denied.result (omega (arith, size, c.loop-i-test.false)) c.loop-i.invariant.rest
