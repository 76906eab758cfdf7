use Rattle.std.proofs.Common.{◌≡◌, ◌-◌, ◌<◌, ◌≤◌, true, [], length, get_or, map, pos, ap, ◌∙◌, arith}
use Rattle.std.proofs.lemmas.Int.{ints}
use Rattle.std.proofs.lemmas.List.{get_or-map, get_or_default, length-map}
use Rattle.pb_core.specs.KeptView.{KeptView, row_seen, lists_seen}
use Rattle.pb_core.specs.declared.rows.Row.{Row}
use Rattle.pb_core.proofs.KeptChanges.{row_bounds}
use Rattle.pb_core.proofs.kept.Kept.slack.Goals as goal

abbrev none : Row
none = record { terms = []; degree = 0; greatest = 0 }

pub returns : goal.returns
returns c =
    let rows = c.self.inside.rows.items in
    let slacks = c.self.inside.slacks.items in
    let values : c.self.inside.values ≡ c.args.self.now.values = ap (λ (v : KeptView). v.values) c.self.view_is in
    let seen : map row_seen c.self.inside.rows.items ≡ c.args.self.now.constraints = ap (λ (v : KeptView). v.constraints) c.self.view_is in
    let count : c.args.number ≤ length rows = rw (← seen, length-map c.self.inside.rows.items row_seen) at c.requires.within in
    let within : c.args.number - 1 < length rows = omega (arith, c.requires.from_one) in
    let inside : c.args.number - 1 < length slacks = rw c.self.invariant.all_slacks within in
    let bounds = row_bounds rows slacks (lists_seen c.self.inside.lists.items) c.self.inside.values (record { variable = 1; positive = true }) c.self.invariant (c.args.number - 1) within in
    let low = bounds.low in
    let high = bounds.high in
    let read : c.index.result.now ≡ get_or slacks (c.args.number - 1) (pos 0) = c.index.ensures ∙ get_or_default slacks (c.args.number - 1) c.index.result.now (pos 0) inside in
    let right = c.self.invariant.right_slacks (c.args.number - 1) none within in
    let at : get_or (map row_seen c.self.inside.rows.items) (c.args.number - 1) (record { terms = []; degree = 0 }) ≡ row_seen (get_or c.self.inside.rows.items (c.args.number - 1) none) = get_or-map row_seen c.self.inside.rows.items (c.args.number - 1) none (record { terms = []; degree = 0 }) within in
    rw (← values, ← seen, at) (omega (arith, ints))
