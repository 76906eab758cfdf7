use Rattle.std.proofs.Common.{◌≤◌, length, ◌∙◌, arith}
use Rattle.unit_lines.specs.declared.part.Part.TheVariants as part
use Rattle.unit_text.proofs.Writes.{put_more, put_all}
use Rattle.unit_text.proofs.writing.push_properties.Goals as goal

pub loop-property-preserved : goal.loop-property-preserved
loop-property-preserved c = put_more part.Property _ c.args.properties.now c.loop-property.property-index _ _ c.property-item.result c.property-item.is c.loop-property-test.true c.loop-property.invariant c.in_ok-push_property.ensures

pub returns : goal.returns
returns c =
    let past : length c.args.properties.now ≤ c.loop-property.property-index = omega arith in
    c.loop-property.invariant ∙ put_all part.Property _ c.args.properties.now c.loop-property.property-index past
