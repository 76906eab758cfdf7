use Rattle.std.proofs.Common.{◌≡◌, ◌<◌, List, length, get_or, subst}
use Rattle.std.proofs.lemmas.Result.{err_from_is_err_and}
use Rattle.unit_model.specs.declared.name.UnitName.{UnitName}
use Rattle.unit_catalog.specs.Order.{units_at}
use Rattle.p2_planner.specs.Attempting.{IsStep, IsTooLargeFor}
use Rattle.p2_planner.specs.Roots.{with_name}
use Rattle.p2_planner.specs.Selecting.{IsSpentFor}
use Rattle.p2_planner.proofs.StepLaws.{step_fits, step_settled, comes_to}
use Rattle.p2_planner.proofs.settling.Settled.settle_each.Goals as goal

pub returns-in_err-evidence-clause-large : goal.returns-in_err-evidence-clause-large
returns-in_err-evidence-clause-large c =
    let p = err_from_is_err_and c.from_residual.result c.from_residual.ensures.1 in
    let ask = c.args.ask.now in
    let optional : List UnitName = c.args.optional.now in
    let i = c.loop-root.root-index in
    let root = c.root-item.result in
    let inside : i < length optional = subst (λ (xs : List UnitName). i < length xs) c.items-root-items.ensures c.loop-root-test.true in
    let item : root ≡ get_or optional i root = subst (λ (xs : List UnitName). root ≡ get_or xs i root) c.items-root-items.ensures c.root-item.is in
    rw (p.1, p.2) (λ is. comes_to ask c.args.self.now.roots optional i root inside item (IsTooLargeFor ask) c.loop-root.self c.loop-root.invariant.settled (c.in_err-evidence.ensures.large is))

pub returns-in-Some-clause-ok : goal.returns-in-Some-clause-ok
returns-in-Some-clause-ok c =
    let ask = c.args.ask.now in
    let optional : List UnitName = c.args.optional.now in
    let i = c.loop-root.root-index in
    let root = c.root-item.result in
    let inside : i < length optional = subst (λ (xs : List UnitName). i < length xs) c.items-root-items.ensures c.loop-root-test.true in
    let item : root ≡ get_or optional i root = subst (λ (xs : List UnitName). root ≡ get_or xs i root) c.items-root-items.ensures c.root-item.is in
    let tried = with_name root c.loop-root.self.roots in
    let spent = subst (IsStep ask tried root c.loop-root.self c.settle.new.self) c.in-Some.is c.in_ok-evidence.ensures.ok in
    comes_to ask c.args.self.now.roots optional i root inside item
    (λ roots. ¬ (IsTooLargeFor ask roots) × IsSpentFor (units_at ask.catalog.now ask.slice.now) roots ask.env.now ask.budget c.in-Some.evidence)
    c.loop-root.self c.loop-root.invariant.settled (c.in_ok-evidence.ensures.few, spent)

pub loop-root-preserved : goal.loop-root-preserved
loop-root-preserved c =
    let ask = c.args.ask.now in
    let optional : List UnitName = c.args.optional.now in
    let i = c.loop-root.root-index in
    let root = c.root-item.result in
    let inside : i < length optional = subst (λ (xs : List UnitName). i < length xs) c.items-root-items.ensures c.loop-root-test.true in
    let item : root ≡ get_or optional i root = subst (λ (xs : List UnitName). root ≡ get_or xs i root) c.items-root-items.ensures c.root-item.is in
    let tried = with_name root c.loop-root.self.roots in
    let step = subst (IsStep ask tried root c.loop-root.self c.settle.new.self) c.in_default.is c.in_ok-evidence.ensures.ok in
    record {
      fits = step_fits ask c.args.self.now.roots optional i root inside item c.loop-root.self c.settle.new.self c.loop-root.invariant.fits step;
      settled = step_settled ask c.args.self.now.roots optional i root inside item c.loop-root.self c.settle.new.self c.loop-root.invariant.settled c.in_ok-evidence.ensures.few step;
    }
