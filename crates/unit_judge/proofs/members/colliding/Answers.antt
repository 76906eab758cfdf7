use Rattle.std.proofs.Common.{◌≡◌, ◌∙◌, length, refl, sym, subst, true, arith}
use Rattle.std.specs.Prelude.{Some, slice_get}
use Rattle.std.proofs.lemmas.Option.{slice_get_read, same_Some}
use Rattle.unit_model.specs.Valid.{Collide}
use Rattle.unit_model.specs.declared.unit.Unit.{Unit as Package}
use Rattle.unit_judge.proofs.Collisions.{grouped_new, grouped_more, grouped_all, grouped_found}
use Rattle.unit_judge.proofs.members.colliding.Goals as goal
use Rattle.unit_judge.proofs.members.colliding.Goals.{then-not-same_id, else-not-same_id+else-first-place, else-first-place-via-then-first-place+else-collide, else-first-place-via-else-first-place}

pub returns-then-collide : goal.returns-then-collide
returns-then-collide c =
    let units = c.args.units.now in
    let bound = c.loop-place.invariant.bound in
    let u = c.index-units-first.result in
    let w = c.index-units-first-then-collide.result in
    let v = c.index-units-place.result in
    let tested = c.index-units-first-then-first-place.result in
    let first : slice_get units c.loop-place.first ≡ Some tested = slice_get_read units (length units) c.loop-place.first tested refl (omega arith) c.index-units-first-then-first-place.is in
    let again : slice_get units c.loop-place.first ≡ Some w = slice_get_read units (length units) c.loop-place.first w refl (omega arith) c.index-units-first-then-collide.is in
    let here : slice_get units c.loop-place.place ≡ Some v = slice_get_read units (length units) c.loop-place.place v refl c.loop-place-test.true c.index-units-place.is in
    let same : tested ≡ w = same_Some tested w (sym first ∙ again) in
    grouped_found units c.loop-place.first c.loop-place.place w v c.requires c.loop-place.invariant again here c.if-first-place.true
    (subst (λ (x : Package). Collide x v) same (c.collide.ensures.0 c.if-collide.true))

pub loop-place-preserved : goal.loop-place-preserved
loop-place-preserved c =
    let units = c.args.units.now in
    let bound = c.loop-place.invariant.bound in
    let inside = c.loop-place-test.true in
    let u = c.index-units-first.result in
    let v = c.index-units-place.result in
    let first : slice_get units c.loop-place.first ≡ Some u = slice_get_read units (length units) c.loop-place.first u refl (omega arith) c.index-units-first.is in
    let here : slice_get units c.loop-place.place ≡ Some v = slice_get_read units (length units) c.loop-place.place v refl inside c.index-units-place.is in
    elim c.if-not-same_id.branch [
      | then-not-same_id w ↦ rw w.first-is (grouped_new units c.loop-place.first c.loop-place.place u v c.requires c.loop-place.invariant first here
          (λ same. let t : c.same_id.result ≡ true = c.same_id.ensures.1 same in absurd (cc)))
      | else-not-same_id+else-first-place w ↦
          let same = c.same_id.ensures.0 w.if-not-same_id.false in
          rw w.first-is (grouped_more units c.loop-place.first c.loop-place.place u v c.requires c.loop-place.invariant first here same
          (elim w.else-first-place.branch [
            | else-first-place-via-then-first-place+else-collide x ↦ λ later collide.
                let tested = x.index-units-first-then-first-place.result in
                let again : slice_get units c.loop-place.first ≡ Some tested = slice_get_read units (length units) c.loop-place.first tested refl (omega arith) x.index-units-first-then-first-place.is in
                let one : u ≡ tested = same_Some u tested (sym first ∙ again) in
                let t : x.collide.result ≡ true = x.collide.ensures.1 (subst (λ (y : Package). Collide y v) one collide) in
                let f = x.if-collide.false in
                absurd (cc)
            | else-first-place-via-else-first-place x ↦ λ later collide. absurd (let f = x.if-first-place.false in omega arith)
          ]))
    ]

pub returns : goal.returns
returns c = grouped_all c.args.units.now c.loop-place.first c.loop-place.place c.loop-place.invariant c.loop-place-test.false
