use Rattle.std.proofs.Common.{sym, subst}
use Rattle.std.specs.Prelude.{Any}
use Rattle.std.proofs.lemmas.Result.{on_ok_weaker}
use Rattle.unit_catalog.specs.Providers.{AreProviders}
use Rattle.unit_slicer.specs.Adding.{IsFollowed, IsOwn, IsProvider}
use Rattle.unit_slicer.proofs.AddingLaws.{adds_same, too_many_same}
use Rattle.unit_slicer.proofs.FindingLaws.{provider_of_any, any_of_provider}
use Rattle.unit_slicer.proofs.adding.add_providers.Goals as goal

pub returns-clause-ok : goal.returns-clause-ok
returns-clause-ok c =
    let way = c.args.way.now in
    let units = way.catalog.now in
    let r = c.args.required.now in
    let numbers = c.items.result.now in
    let are : AreProviders units r numbers = subst (AreProviders units r) (sym c.items.ensures) c.in_ok-providers.ensures in
    let followed : IsFollowed way r = c.is_followed.ensures.0 c.if-not-is_followed.false in
    on_ok_weaker c.add_each.result
    (adds_same (λ n. Any (λ m. IsOwn way m n) numbers) (IsProvider way r) c.args.found.now c.add_each.new.found (provider_of_any way r numbers are followed) (any_of_provider way r numbers are))
    c.add_each.ensures.ok

pub returns-clause-too_large : goal.returns-clause-too_large
returns-clause-too_large c = λ e.
    let way = c.args.way.now in
    let units = way.catalog.now in
    let r = c.args.required.now in
    let numbers = c.items.result.now in
    let are : AreProviders units r numbers = subst (AreProviders units r) (sym c.items.ensures) c.in_ok-providers.ensures in
    let followed : IsFollowed way r = c.is_followed.ensures.0 c.if-not-is_followed.false in
    too_many_same (λ n. Any (λ m. IsOwn way m n) numbers) (IsProvider way r) c.args.found.now (provider_of_any way r numbers are followed) (c.add_each.ensures.too_large e)
