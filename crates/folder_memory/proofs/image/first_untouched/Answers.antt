use Rattle.std.proofs.Common.{get_or, ◌∙◌, subst, below_more}
use Rattle.std.specs.List.{Contains}
use Rattle.std.proofs.lemmas.List.{get_or_default}
use Rattle.folder_core.specs.declared.node.Touch.{Touch}
use Rattle.folder_memory.proofs.image.first_untouched.Goals as goal

pub loop-place-preserved : goal.loop-place-preserved
loop-place-preserved c k d below =
    let touched = c.args.touched.now in
    let choice = c.args.choice.now in
    let place = c.loop-place.place in
    let here = λ (d : Touch). subst (λ (t : Touch). Contains touched t.path) (c.index-choice-place.is ∙ get_or_default choice place c.index-choice-place.result d c.loop-place-test.true) (c.is_touched.ensures.0 c.if-not-is_touched.false) in
    below_more (λ k. (d : Touch) → Contains touched (get_or choice k d).path) place (λ k b d. c.loop-place.invariant k d b) here k below d
