use Rattle.std.proofs.Common.{◌≡◌, ◌+◌, ◌<◌, length, map, sym, ap, ◌∙◌, arith}
use Rattle.std.proofs.lemmas.Int.{ints}
use Rattle.std.proofs.lemmas.List.{length-map}
use Rattle.pb_core.specs.KeptView.{KeptView, row_seen, lists_seen, place_of}
use Rattle.pb_core.specs.Slack.{greatest_coef, reachable}
use Rattle.pb_core.specs.declared.occurrences.Occurrence.{Occurrence}
use Rattle.std.proofs.Common.{Vec, Global}
use Rattle.pb_core.proofs.KeptChanges.{appended, written}
use Rattle.pb_core.proofs.kept.Kept.append.Goals as goal

pub invariant_of-self-2 : goal.invariant_of-self-2
invariant_of-self-2 c =
    let values : c.self.inside.values ≡ c.args.self.now.values = ap (λ (v : KeptView). v.values) c.self.view_is in
    let seen : map row_seen c.self.inside.rows.items ≡ c.args.self.now.constraints = ap (λ (v : KeptView). v.constraints) c.self.view_is in
    let entered_size : length c.enter.new.lists ≡ length c.reserve.new.lists.items = omega (arith, c.enter.auto.lists, c.deref_mut.ensures.len, c.reserve.new.lists.ok.0) in
    let after = written c.reserve.new.lists.items c.enter.new.lists c.reserve.new.lists.len (omega (arith, c.reserve.new.lists.ok.0)) entered_size in
    let few : length c.self.inside.rows.items < 2000000000 = omega (arith, length-map c.self.inside.rows.items row_seen, ap length seen, c.requires.few) in
    let reached : c.reachable.result ≡ reachable c.self.inside.values c.args.terms = rw c.items.ensures at c.reachable.ensures.value in
    let small = c.reachable.ensures.small in
    let degree = c.requires.keepable.small_degree in
    let seen_lists : length (lists_seen c.reserve.new.lists.items) ≡ length (lists_seen c.self.inside.lists.items) = ap length c.reserve.ensures.lists in
    let sizes : length (lists_seen c.enter.new.lists) ≡ length (lists_seen c.self.inside.lists.items) = length-map c.enter.new.lists (λ (v : Vec Occurrence Global). v.items) ∙ (entered_size ∙ (sym (length-map c.reserve.new.lists.items (λ (v : Vec Occurrence Global). v.items)) ∙ seen_lists)) in
    rw (after, c.push_reserved-2.ensures.items, c.push_reserved.ensures.items, c.reserve.ensures.rows, c.reserve.ensures.slacks)
    (appended c.self.inside.rows.items c.self.inside.slacks.items (lists_seen c.self.inside.lists.items) (lists_seen c.enter.new.lists) c.self.inside.values _ _ c.self.invariant few (rw values c.requires.keepable) (c.greatest_coef-greatest.ensures ∙ ap greatest_coef c.items-2.ensures) (omega (arith, ints)) sizes
    (λ lit some within. let inside : place_of lit < length c.deref_mut.result.now = omega (arith, length-map c.reserve.new.lists.items (λ (v : Vec Occurrence Global). v.items), seen_lists, ap length c.deref_mut.ensures.value) in let entered = rw (c.deref_mut.ensures.value, c.items-4.ensures, c.reserve.ensures.lists) at (c.enter.ensures lit some inside) in let number : c.len.result + 1 ≡ length c.self.inside.rows.items + 1 = omega (arith, c.len.ensures, c.self.inside.rows.ok.0) in rw number at entered))
