use Rattle.std.proofs.Common.{◌≡◌, ap, sym, subst, ◌∙◌}
use Rattle.unit_catalog.specs.Keys.{pair_key}
use Rattle.unit_catalog.specs.Listed.{listed, IsRising}
use Rattle.unit_model.specs.declared.unit.Unit.{Unit as Package}
use Rattle.unit_model.specs.Matches.{Matches}
use Rattle.unit_catalog.proofs.Finding.{HasAll, all_providers}
use Rattle.unit_catalog.proofs.Following.{provided_lead}
use Rattle.unit_catalog.proofs.lookups.providers_of.Goals as goal

pub matching-requires : goal.matching-requires
matching-requires c = subst IsRising (sym c.numbers-numbers.ensures) (c.requires.rise c.pair_key-key.result)

pub returns : goal.returns
returns c =
    let units = c.args.units.now in
    let index = c.args.provided.now in
    let r = c.args.required.now in
    let P : Package → Type 0 = Matches r in
    let key : c.pair_key-key.result ≡ pair_key r.namespace r.name = c.pair_key-key.ensures ∙ (λ i. pair_key (c.bytes.ensures.value i) (c.bytes-2.ensures.value i)) in
    let lists : c.numbers-numbers.result.now ≡ listed index (pair_key r.namespace r.name) = c.numbers-numbers.ensures ∙ ap (listed index) key in
    all_providers units r c.numbers-numbers.result.now _ (subst (HasAll units P) (sym lists) (provided_lead units index c.requires r)) c.in_ok-found.ensures
