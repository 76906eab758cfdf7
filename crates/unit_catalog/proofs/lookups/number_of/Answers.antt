use Rattle.std.proofs.Common.{◌≡◌, ap, sym, subst, ◌∙◌}
use Rattle.unit_catalog.specs.Keys.{name_key}
use Rattle.unit_catalog.specs.Listed.{listed}
use Rattle.unit_model.specs.declared.unit.Unit.{Unit as Package}
use Rattle.unit_catalog.proofs.Finding.{HasAll, named_of_all}
use Rattle.unit_catalog.proofs.Following.{names_lead}
use Rattle.unit_catalog.proofs.lookups.number_of.Goals as goal

pub returns : goal.returns
returns c =
    let units = c.args.units.now in
    let index = c.args.indexes.now.names in
    let name = c.args.name.now in
    let P : Package → Type 0 = λ u. u.name ≡ name in
    let lists : c.numbers-numbers.result.now ≡ listed index (name_key name) = c.numbers-numbers.ensures ∙ ap (listed index) c.name_key.ensures in
    named_of_all units name c.numbers-numbers.result.now _ (subst (HasAll units P) (sym lists) (names_lead units c.args.indexes.now c.requires name)) c.named.ensures
