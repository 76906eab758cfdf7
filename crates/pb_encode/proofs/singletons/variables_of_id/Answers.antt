use Rattle.std.proofs.Common.{◌≡◌, length, subst, ℕ, arith}
use Rattle.pb_rows.specs.Members.{variables}
use Rattle.pb_encode.specs.Places.{id_at, of_id}
use Rattle.pb_encode.specs.UnitsOf.{units_of}
use Rattle.pb_encode.proofs.FoundLaws.{few_variables}
use Rattle.pb_encode.proofs.IdLaws.{IsFoundUpTo, found_push, found_skip, found_all, same_truth, other_truth}
use Rattle.pb_encode.proofs.UnitLaws.{few_units}
use Rattle.pb_encode.proofs.singletons.variables_of_id.Goals as goal
use Rattle.pb_encode.proofs.singletons.variables_of_id.Goals.{then-unit-singleton+in_ok-push, else-unit-singleton}

pub overflow_cast-place : goal.overflow_cast-place
overflow_cast-place c = let few = few_units c.args.members.now in let within = c.requires.within in omega (arith, few, within)

pub overflow_add-place : goal.overflow_add-place
overflow_add-place c = let few = few_units c.args.members.now in let within = c.requires.within in omega (arith, few, within)

pub loop-place-preserved : goal.loop-place-preserved
loop-place-preserved c =
    let ms = units_of c.args.members.now in
    let u = c.unit.result.now in
    elim c.if-unit-singleton.branch [
      | then-unit-singleton+in_ok-push w ↦
          rw (w.found-is, w.in_ok-push.ensures.items)
          (found_push ms c.args.from c.args.to c.args.singleton c.loop-place.place c.loop-place.found.items u c.requires c.loop-place.auto.place c.loop-place-test.true c.unit.ensures
          (same_truth u.singleton c.args.singleton w.if-unit-singleton.true) c.loop-place.invariant)
      | else-unit-singleton w ↦
          rw w.found-is
          (found_skip ms c.args.from c.args.singleton c.loop-place.place c.loop-place.found.items u c.unit.ensures (other_truth u.singleton c.args.singleton w.if-unit-singleton.false) c.loop-place.invariant)
    ]

found : (c : goal.After-loop-place) → c.loop-place.found.items ≡ variables (of_id (id_at (units_of c.args.members.now) c.args.from) c.args.singleton) (units_of c.args.members.now)
found c =
    let ms = units_of c.args.members.now in
    let some = c.requires.some in
    let end : c.loop-place.place ≡ c.args.to = omega arith in
    let P : ℕ → Type 0 = λ p. IsFoundUpTo ms (id_at ms c.args.from) c.args.singleton c.args.from p c.loop-place.found.items in
    found_all ms c.args.from c.args.to c.args.singleton c.loop-place.found.items c.requires (subst P end c.loop-place.invariant)

pub returns-clause-value : goal.returns-clause-value
returns-clause-value c = found c

pub returns-clause-few : goal.returns-clause-few
returns-clause-few c =
    let ms = units_of c.args.members.now in
    let test = of_id (id_at ms c.args.from) c.args.singleton in
    let is = found c in
    let long : length c.loop-place.found.items ≡ length (variables test ms) = λ i. length (is i) in
    let short = few_variables test ms in
    let few = few_units c.args.members.now in
    omega (arith, long, short, few, c.loop-place.found.ok)
