use Rattle.std.proofs.Common.{◌≤◌, length, ◌∙◌, arith}
use Rattle.unit_lines.specs.declared.part.Part.TheVariants as part
use Rattle.unit_text.proofs.Writes.{put_more, put_all}
use Rattle.unit_text.proofs.writing.push_all_provided.Goals as goal

pub loop-provided-preserved : goal.loop-provided-preserved
loop-provided-preserved c = put_more part.Provided _ c.args.all.now c.loop-provided.provided-index _ _ c.provided-item.result c.provided-item.is c.loop-provided-test.true c.loop-provided.invariant c.in_ok-push_provided.ensures

pub returns : goal.returns
returns c =
    let past : length c.args.all.now ≤ c.loop-provided.provided-index = omega arith in
    c.loop-provided.invariant ∙ put_all part.Provided _ c.args.all.now c.loop-provided.provided-index past
