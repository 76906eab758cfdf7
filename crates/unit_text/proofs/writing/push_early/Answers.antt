use Rattle.std.proofs.Common.{[], ◌∷◌, ◌++◌}
use Rattle.unit_lines.specs.declared.part.Part.TheVariants as part
use Rattle.unit_text.specs.UnitText.{singleton_parts, filter_parts}
use Rattle.unit_text.proofs.Writes.{joined, put_one, on_ok}
use Rattle.unit_text.proofs.writing.push_early.Goals as goal

pub returns : goal.returns
returns c =
    let u = c.args.unit.now in
    on_ok c.push_filters.result
    (λ put. joined _ _ _ (part.Name u.name ∷ []) (singleton_parts u.singleton ++ filter_parts u.filter) (put_one _ _ (part.Name u.name) c.in_ok-push_name.ensures)
    (joined _ _ _ (singleton_parts u.singleton) (filter_parts u.filter) c.in_ok-push_singletons.ensures put))
    c.push_filters.ensures
