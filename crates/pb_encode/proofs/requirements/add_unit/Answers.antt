use Rattle.std.proofs.Common.{◌≡◌, ◌<◌, ◌≤◌, List, length, get_or, sym, ap, subst, ◌∙◌}
use Rattle.std.proofs.lemmas.Result.{err_from_is_err_and}
use Rattle.unit_model.specs.declared.required.Required.{Required}
use Rattle.pb_rows.specs.Rows.{required_rows}
use Rattle.pb_encode.specs.UnitsOf.{units_of}
use Rattle.pb_encode.proofs.RowLaws.{numbered_more, numbered_many, numbered_all}
use Rattle.pb_encode.proofs.requirements.add_unit.Goals as goal

pub returns-in_err-add_asked-clause-too_large : goal.returns-in_err-add_asked-clause-too_large
returns-in_err-add_asked-clause-too_large c =
    let p = err_from_is_err_and c.from_residual-in_err-add_asked.result c.from_residual-in_err-add_asked.ensures.1 in
    let rs = c.args.unit.now.required in
    let i = c.loop-place.place in
    let r = c.required-item.result in
    let list : c.items-required-items.result.now ≡ rs = c.items-required-items.ensures in
    let within : i < length rs = subst (λ (l : List Required). i < length l) list c.loop-place-test.true in
    let here : get_or rs i r ≡ r = sym (c.required-item.is ∙ ap (λ (l : List Required). get_or l i r) list) in
    rw (p.1, p.2)
    (λ e. numbered_many (required_rows (units_of c.args.members.now) c.args.env.now c.args.variable) rs i c.in_ok-row.row r c.args.constraints.now c.loop-place.constraints within here c.in_ok-row.ensures c.loop-place.invariant
    (c.in_err-add_asked.ensures.too_large e))

pub loop-place-preserved : goal.loop-place-preserved
loop-place-preserved c =
    let rs = c.args.unit.now.required in
    let i = c.loop-place.place in
    let r = c.required-item.result in
    let list : c.items-required-items.result.now ≡ rs = c.items-required-items.ensures in
    let within : i < length rs = subst (λ (l : List Required). i < length l) list c.loop-place-test.true in
    let here : get_or rs i r ≡ r = sym (c.required-item.is ∙ ap (λ (l : List Required). get_or l i r) list) in
    numbered_more (required_rows (units_of c.args.members.now) c.args.env.now c.args.variable) rs i c.in_ok-row.row r c.args.constraints.now c.loop-place.constraints c.add_asked.new.constraints within here c.in_ok-row.ensures c.loop-place.invariant c.in_ok-add_asked.ensures.added

pub returns-clause-added : goal.returns-clause-added
returns-clause-added c =
    let rs = c.args.unit.now.required in
    let i = c.loop-place.place in
    let end : length rs ≤ i = subst (λ (l : List Required). length l ≤ i) c.items-required-items.ensures c.loop-place-test.false in
    numbered_all (required_rows (units_of c.args.members.now) c.args.env.now c.args.variable) rs i c.args.constraints.now c.loop-place.constraints end c.loop-place.invariant
