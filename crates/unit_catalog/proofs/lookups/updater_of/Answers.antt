use Rattle.std.proofs.Common.{◌≡◌, ap, sym, subst, ◌∙◌}
use Rattle.unit_catalog.specs.Keys.{text_key}
use Rattle.unit_catalog.specs.Listed.{listed}
use Rattle.unit_model.specs.declared.unit.Unit.{Unit as Package}
use Rattle.unit_catalog.specs.Greatest.{Updates}
use Rattle.unit_catalog.proofs.Finding.{HasAll, greatest_of_all}
use Rattle.unit_catalog.proofs.Following.{updates_lead}
use Rattle.unit_catalog.proofs.lookups.updater_of.Goals as goal

pub returns : goal.returns
returns c =
    let units = c.args.units.now in
    let index = c.args.indexes.now.updates in
    let name = c.args.name.now in
    let P : Package → Type 0 = Updates name c.args.env.now in
    let lists : c.numbers-numbers.result.now ≡ listed index (text_key name.id) = c.numbers-numbers.ensures ∙ ap (listed index) (c.text_key.ensures ∙ ap text_key c.bytes.ensures.value) in
    greatest_of_all units P c.numbers-numbers.result.now _ (subst (HasAll units P) (sym lists) (updates_lead units c.args.indexes.now c.requires name c.args.env.now)) c.greatest.ensures
