use Rattle.std.proofs.Common.{◌≤◌, length, ◌∙◌, arith}
use Rattle.unit_lines.specs.declared.part.Part.TheVariants as part
use Rattle.unit_text.proofs.Writes.{put_more, put_all}
use Rattle.unit_text.proofs.writing.push_artifacts.Goals as goal

pub loop-artifact-preserved : goal.loop-artifact-preserved
loop-artifact-preserved c = put_more part.Artifact _ c.args.artifacts.now c.loop-artifact.artifact-index _ _ c.artifact-item.result c.artifact-item.is c.loop-artifact-test.true c.loop-artifact.invariant c.in_ok-push_artifact.ensures

pub returns : goal.returns
returns c =
    let past : length c.args.artifacts.now ≤ c.loop-artifact.artifact-index = omega arith in
    c.loop-artifact.invariant ∙ put_all part.Artifact _ c.args.artifacts.now c.loop-artifact.artifact-index past
