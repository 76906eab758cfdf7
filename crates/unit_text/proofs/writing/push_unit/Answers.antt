use Rattle.std.proofs.Common.{[], ◌∷◌}
use Rattle.unit_lines.specs.declared.part.Part.TheVariants as part
use Rattle.unit_text.specs.UnitText.{early_parts, late_parts, body_parts}
use Rattle.unit_text.proofs.Writes.{joined, put_one, on_ok}
use Rattle.unit_text.proofs.writing.push_unit.Goals as goal

pub returns : goal.returns
returns c =
    let u = c.args.unit.now in
    on_ok c.push_end.result
    (λ put. joined _ _ _ (body_parts u) (part.End ∷ [])
    (joined _ _ _ (early_parts u) (part.Update u.update ∷ late_parts u) c.in_ok-push_early.ensures
    (joined _ _ _ (part.Update u.update ∷ []) (late_parts u) (put_one _ _ (part.Update u.update) c.in_ok-push_update.ensures) c.in_ok-push_late.ensures))
    (put_one _ _ part.End put))
    c.push_end.ensures
