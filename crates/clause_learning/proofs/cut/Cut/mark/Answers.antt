use Rattle.std.proofs.Common.{◌≡◌, true, refl, sym, ap, ◌∙◌, arith}
use Rattle.std.proofs.lemmas.Bool.{false≢true}
use Rattle.std.proofs.lemmas.List.{get_or_default}
use Rattle.pb_core.specs.Values.{is_false}
use Rattle.clause_learning.specs.Marks.{place_in}
use Rattle.clause_learning.proofs.MarkLaws.{marked_now, HasMarks-marked}
use Rattle.clause_learning.proofs.cut.Cut.mark.Goals as goal
use Rattle.clause_learning.proofs.cut.Cut.mark.Goals.{then-place-limit-via-then-place-limit, then-place-limit-via-else-place-limit+then-not-is_false}

pub returns-then-place-limit-clause-marked : goal.returns-then-place-limit-clause-marked
returns-then-place-limit-clause-marked c = λ e.
    let now = marked_now c.args.trail.now c.args.self.now c.args.limit c.args.lit c.requires.good c.requires.marks c.requires.limit e in
    let place : c.index-place.result.now ≡ place_in c.args.self.now.places.items c.args.lit.variable = c.index-place.ensures ∙ get_or_default c.args.self.now.places.items c.args.lit.variable c.index-place.result.now 0 (omega (arith, c.requires.marks.all_places, c.requires.within)) in
    elim c.then-place-limit.branch [ then-place-limit-via-then-place-limit w ↦ absurd (omega (arith, place, now.0, w.if-place-limit.true)) | then-place-limit-via-else-place-limit+then-not-is_false w ↦ absurd (false≢true (sym w.if-not-is_false.true ∙ (w.is_false.ensures ∙ (ap (λ vs. is_false vs c.args.lit) w.values.ensures ∙ now.1)))) ]

pub returns-clause-marks : goal.returns-clause-marks
returns-clause-marks c =
    let place : c.index-place.result.now ≡ place_in c.args.self.now.places.items c.args.lit.variable = c.index-place.ensures ∙ get_or_default c.args.self.now.places.items c.args.lit.variable c.index-place.result.now 0 (omega (arith, c.requires.marks.all_places, c.requires.within)) in
    let fails : is_false c.args.trail.now.kept.values c.args.lit ≡ true = sym (rw c.values.ensures at c.is_false.ensures) ∙ c.if-not-is_false.false in
    HasMarks-marked c.args.trail.now c.args.self.now _ c.args.lit c.requires.good c.requires.marks refl refl refl refl (omega (arith, place, c.if-place-limit.false)) fails c.lowered-self.ensures.low (λ h. omega (arith, place, c.lowered-self.ensures.here (omega (arith, h, place)))) (c.lowered-self.ensures.above c.requires.marks.ordered)
