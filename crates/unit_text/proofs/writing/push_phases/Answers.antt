use Rattle.std.proofs.Common.{◌≤◌, length, ◌∙◌, arith}
use Rattle.unit_lines.specs.declared.part.Part.TheVariants as part
use Rattle.unit_text.proofs.Writes.{put_more, put_all}
use Rattle.unit_text.proofs.writing.push_phases.Goals as goal

pub loop-phase-preserved : goal.loop-phase-preserved
loop-phase-preserved c = put_more part.Phase _ c.args.phases.now c.loop-phase.phase-index _ _ c.phase-item.result c.phase-item.is c.loop-phase-test.true c.loop-phase.invariant c.in_ok-push_phase.ensures

pub returns : goal.returns
returns c =
    let past : length c.args.phases.now ≤ c.loop-phase.phase-index = omega arith in
    c.loop-phase.invariant ∙ put_all part.Phase _ c.args.phases.now c.loop-phase.phase-index past
