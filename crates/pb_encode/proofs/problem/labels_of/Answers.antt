use Rattle.std.proofs.Common.{◌<◌, ◌++◌, ◌∷◌, [], length, ◌∙◌, arith}
use Rattle.std.proofs.lemmas.Option.{get_or_from_slice_get}
use Rattle.unit_model.specs.declared.unit.Unit.{Unit as Package}
use Rattle.pb_rows.specs.Rows.{label}
use Rattle.pb_encode.specs.UnitsOf.{units_of}
use Rattle.pb_encode.proofs.RowLaws.{map_more}
use Rattle.pb_encode.proofs.problem.labels_of.Goals as goal

pub loop-place-preserved : goal.loop-place-preserved
loop-place-preserved c =
    let ms = units_of c.args.members.now in
    let u = c.unit.result.now in
    let here : c.loop-place.place < length ms = omega arith in
    c.in_ok-push.ensures.ok
    ∙ ((λ i. c.loop-place.invariant i ++ c.in_ok-label_of.ensures i ∷ [])
    ∙ map_more (λ (w : Package). label w.name) ms c.loop-place.place u here (get_or_from_slice_get ms c.loop-place.place u u c.unit.ensures))
