use Rattle.std.proofs.Common.{◌≡◌, ◌<◌, ◌≤◌, List, length, get_or, ap, ◌∙◌, subst}
use Rattle.std.proofs.lemmas.Result.{err_from_is_err_and}
use Rattle.std.specs.Prelude.{Any}
use Rattle.unit_model.specs.declared.required.Required.{Required}
use Rattle.unit_slicer.specs.Adding.{IsProvider, IsLedTo}
use Rattle.unit_slicer.specs.Found.{Adds, AreTooMany}
use Rattle.unit_slicer.proofs.AddingLaws.{adds_same, adds_more, adds_all, too_many_same, too_many_at}
use Rattle.unit_slicer.proofs.FindingLaws.{led_of_any, any_of_led}
use Rattle.unit_slicer.proofs.adding.add_led_to.Goals as goal

pub returns-in_err-add_providers-clause-too_large : goal.returns-in_err-add_providers-clause-too_large
returns-in_err-add_providers-clause-too_large c =
    let way = c.args.way.now in
    let all = c.args.unit.now.required in
    let one = c.required-item.result in
    let items : c.items-required-items.result.now ≡ all = c.items-required-items.ensures in
    let inside : c.loop-required.required-index < length all = subst (λ (rs : List Required). c.loop-required.required-index < length rs) items c.loop-required-test.true in
    let is = ap (λ (rs : List Required). get_or rs c.loop-required.required-index one) items in
    let p = err_from_is_err_and c.from_residual.result c.from_residual.ensures.1 in
    rw (p.1, p.2)
    (λ e. too_many_same (λ n. Any (λ r. IsProvider way r n) all) (IsLedTo way c.args.unit.now) c.args.found.now (led_of_any way c.args.unit.now)
    (too_many_at (IsProvider way) all c.loop-required.required-index one c.args.found.now c.loop-required.found inside c.loop-required.invariant
    (subst (λ (r : Required). AreTooMany (IsProvider way r) c.loop-required.found) (c.required-item.is ∙ is) (c.in_err-add_providers.ensures.too_large e))))

pub loop-required-preserved : goal.loop-required-preserved
loop-required-preserved c =
    let way = c.args.way.now in
    let all = c.args.unit.now.required in
    let one = c.required-item.result in
    let items : c.items-required-items.result.now ≡ all = c.items-required-items.ensures in
    let inside : c.loop-required.required-index < length all = subst (λ (rs : List Required). c.loop-required.required-index < length rs) items c.loop-required-test.true in
    let is = ap (λ (rs : List Required). get_or rs c.loop-required.required-index one) items in
    adds_more (IsProvider way) all c.loop-required.required-index one c.args.found.now c.loop-required.found c.add_providers.new.found inside c.loop-required.invariant
    (subst (λ (r : Required). Adds (IsProvider way r) c.loop-required.found c.add_providers.new.found) (c.required-item.is ∙ is) c.in_ok-add_providers.ensures.ok)

pub returns-clause-ok : goal.returns-clause-ok
returns-clause-ok c =
    let way = c.args.way.now in
    let all = c.args.unit.now.required in
    let items : c.items-required-items.result.now ≡ all = c.items-required-items.ensures in
    let past : length all ≤ c.loop-required.required-index = subst (λ (rs : List Required). length rs ≤ c.loop-required.required-index) items c.loop-required-test.false in
    adds_same (λ n. Any (λ r. IsProvider way r n) all) (IsLedTo way c.args.unit.now) c.args.found.now c.loop-required.found (led_of_any way c.args.unit.now) (any_of_led way c.args.unit.now)
    (adds_all (IsProvider way) all c.loop-required.required-index c.args.found.now c.loop-required.found past c.loop-required.invariant)
