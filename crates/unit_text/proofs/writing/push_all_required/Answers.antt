use Rattle.std.proofs.Common.{◌≤◌, length, ◌∙◌, arith}
use Rattle.unit_lines.specs.declared.part.Part.TheVariants as part
use Rattle.unit_text.proofs.Writes.{put_more, put_all}
use Rattle.unit_text.proofs.writing.push_all_required.Goals as goal

pub loop-required-preserved : goal.loop-required-preserved
loop-required-preserved c = put_more part.Required _ c.args.all.now c.loop-required.required-index _ _ c.required-item.result c.required-item.is c.loop-required-test.true c.loop-required.invariant c.in_ok-push_required.ensures

pub returns : goal.returns
returns c =
    let past : length c.args.all.now ≤ c.loop-required.required-index = omega arith in
    c.loop-required.invariant ∙ put_all part.Required _ c.args.all.now c.loop-required.required-index past
