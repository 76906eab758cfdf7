use Rattle.std.proofs.Common.{map}
use Rattle.unit_lines.specs.declared.part.Part.TheVariants as part
use Rattle.unit_text.specs.UnitText.{touchpoint_parts}
use Rattle.unit_text.proofs.Writes.{joined, on_ok}
use Rattle.unit_text.proofs.writing.push_late.Goals as goal

pub returns : goal.returns
returns c =
    let u = c.args.unit.now in
    on_ok c.push_phases.result
    (λ put. joined _ _ _ (touchpoint_parts u.touchpoint) _ c.in_ok-push_touchpoints.ensures
    (joined _ _ _ (map part.Property u.properties) _ (rw c.items.ensures at c.in_ok-push_properties.ensures)
    (joined _ _ _ (map part.Provided u.provided) _ (rw c.items-2.ensures at c.in_ok-push_all_provided.ensures)
    (joined _ _ _ (map part.Required u.required) _ (rw c.items-3.ensures at c.in_ok-push_all_required.ensures)
    (joined _ _ _ (map part.Artifact u.artifacts) (map part.Phase u.phases) (rw c.items-4.ensures at c.in_ok-push_artifacts.ensures) put)))))
    (rw c.items-5.ensures at c.push_phases.ensures)
