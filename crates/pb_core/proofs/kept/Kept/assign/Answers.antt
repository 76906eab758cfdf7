use Rattle.std.proofs.Common.{◌≡◌, ◌+◌, ◌≤◌, length, get_or, map, ap, ◌∙◌, arith}
use Rattle.pb_core.specs.KeptView.{KeptView, row_seen, lists_seen, place_of}
use Rattle.pb_core.specs.Literal.{complement}
use Rattle.pb_core.specs.Occurrences.{occurrences_from}
use Rattle.pb_core.specs.declared.literal.Lit.{Lit}
use Rattle.pb_core.proofs.KeptLaws.{length-occurrences_from}
use Rattle.pb_core.proofs.KeptChanges.{assigned, list_is, list_numbered, all_bounds, written}
use Rattle.pb_core.proofs.kept.Kept.assign.Goals as goal

pub lower-requires-clause-numbered : goal.lower-requires-clause-numbered
lower-requires-clause-numbered g c =
    let view = c.self.view_is in
    let values : c.self.inside.values ≡ c.args.self.now.values = ap (λ (v : KeptView). v.values) view in
    let lit : Lit = c.args.lit in
    let most : lit.variable ≤ length c.self.inside.values = rw values c.requires.within in
    let place : c.denied_place-place.result ≡ place_of (complement lit) = c.denied_place-place.ensures in
    let list : c.index.result.now ≡ get_or c.self.inside.lists.items (place_of (complement lit)) c.index.result.now = rw place at c.index.ensures in
    let occurrences : c.as_slice.result.now ≡ occurrences_from 1 (complement lit) (map row_seen c.self.inside.rows.items) = c.as_slice.ensures.value ∙ list_is c.self.inside.rows.items c.self.inside.slacks.items c.self.inside.lists.items c.self.inside.values (complement lit) c.index.result.now c.self.invariant c.requires.from_one most list in
    rw (occurrences, c.deref_mut.ensures.value) (list_numbered c.self.inside.rows.items c.self.inside.slacks.items (lists_seen c.self.inside.lists.items) c.self.inside.values (complement lit) c.self.invariant)

pub lower-requires-clause-fit : goal.lower-requires-clause-fit
lower-requires-clause-fit g c =
    let view = c.self.view_is in
    let values : c.self.inside.values ≡ c.args.self.now.values = ap (λ (v : KeptView). v.values) view in
    let lit : Lit = c.args.lit in
    let most : lit.variable ≤ length c.self.inside.values = rw values c.requires.within in
    let place : c.denied_place-place.result ≡ place_of (complement lit) = c.denied_place-place.ensures in
    let list : c.index.result.now ≡ get_or c.self.inside.lists.items (place_of (complement lit)) c.index.result.now = rw place at c.index.ensures in
    let occurrences : c.as_slice.result.now ≡ occurrences_from 1 (complement lit) (map row_seen c.self.inside.rows.items) = c.as_slice.ensures.value ∙ list_is c.self.inside.rows.items c.self.inside.slacks.items c.self.inside.lists.items c.self.inside.values (complement lit) c.index.result.now c.self.invariant c.requires.from_one most list in
    rw (occurrences, c.deref_mut.ensures.value) (all_bounds c.self.inside.rows.items c.self.inside.slacks.items (lists_seen c.self.inside.lists.items) c.self.inside.values (complement lit) c.self.invariant)

pub invariant_of-self : goal.invariant_of-self
invariant_of-self g c =
    let view = c.self.view_is in
    let values : c.self.inside.values ≡ c.args.self.now.values = ap (λ (v : KeptView). v.values) view in
    let lit : Lit = c.args.lit in
    let most : lit.variable ≤ length c.self.inside.values = rw values c.requires.within in
    let place : c.denied_place-place.result ≡ place_of (complement lit) = c.denied_place-place.ensures in
    let list : c.index.result.now ≡ get_or c.self.inside.lists.items (place_of (complement lit)) c.index.result.now = rw place at c.index.ensures in
    let occurrences : c.as_slice.result.now ≡ occurrences_from 1 (complement lit) (map row_seen c.self.inside.rows.items) = c.as_slice.ensures.value ∙ list_is c.self.inside.rows.items c.self.inside.slacks.items c.self.inside.lists.items c.self.inside.values (complement lit) c.index.result.now c.self.invariant c.requires.from_one most list in
    let all : length c.lower.new.slacks ≡ length c.self.inside.slacks.items = omega (arith, c.lower.auto.slacks, c.deref_mut.ensures.len, c.self.inside.slacks.ok.0) in
    let after = written c.self.inside.slacks.items c.lower.new.slacks c.self.inside.slacks.len (omega (arith, c.self.inside.slacks.ok.0)) all in
    rw (after, c.set.ensures) (assigned c.self.inside.rows.items c.self.inside.slacks.items c.lower.new.slacks (lists_seen c.self.inside.lists.items) c.self.inside.values lit c.self.invariant (rw values c.requires.is_open) c.requires.from_one most all (rw (occurrences, c.deref_mut.ensures.value) at c.lower.ensures.slacks))

pub returns-clause-steps : goal.returns-clause-steps
returns-clause-steps g c =
    let view = c.self.view_is in
    let values : c.self.inside.values ≡ c.args.self.now.values = ap (λ (v : KeptView). v.values) view in
    let lit : Lit = c.args.lit in
    let most : lit.variable ≤ length c.self.inside.values = rw values c.requires.within in
    let place : c.denied_place-place.result ≡ place_of (complement lit) = c.denied_place-place.ensures in
    let list : c.index.result.now ≡ get_or c.self.inside.lists.items (place_of (complement lit)) c.index.result.now = rw place at c.index.ensures in
    let occurrences : c.as_slice.result.now ≡ occurrences_from 1 (complement lit) (map row_seen c.self.inside.rows.items) = c.as_slice.ensures.value ∙ list_is c.self.inside.rows.items c.self.inside.slacks.items c.self.inside.lists.items c.self.inside.values (complement lit) c.index.result.now c.self.invariant c.requires.from_one most list in
    let seen : map row_seen c.self.inside.rows.items ≡ c.args.self.now.constraints = ap (λ (v : KeptView). v.constraints) view in
    let steps = rw occurrences at c.lower.ensures.steps in
    let count = length-occurrences_from 1 (complement lit) (map row_seen c.self.inside.rows.items) in
    rw (← seen) (steps ∙ ap (λ n. c.args.steps.now + n) count)
