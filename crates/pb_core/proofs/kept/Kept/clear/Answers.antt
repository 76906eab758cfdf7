use Rattle.std.proofs.Common.{◌≡◌, ◌+◌, ◌≤◌, Some, length, get_or, map, sym, ap, ◌∙◌, arith}
use Rattle.pb_core.specs.KeptView.{KeptView, row_seen, lists_seen, place_of}
use Rattle.pb_core.specs.Literal.{complement}
use Rattle.pb_core.specs.Occurrences.{occurrences_from}
use Rattle.pb_core.specs.Values.{value_of}
use Rattle.pb_core.specs.declared.literal.Lit.{Lit}
use Rattle.pb_core.proofs.KeptLaws.{length-occurrences_from}
use Rattle.pb_core.proofs.KeptChanges.{cleared, list_is, list_numbered, all_bounds, written}
use Rattle.pb_core.proofs.kept.Kept.clear.Goals as goal

pub raise-requires-clause-numbered : goal.raise-requires-clause-numbered
raise-requires-clause-numbered g c =
    let view = c.self.view_is in
    let values : c.self.inside.values ≡ c.args.self.now.values = ap (λ (v : KeptView). v.values) view in
    let lit : Lit = (record { variable = c.args.variable; positive = c.unwrap-positive.result }) in
    let most : lit.variable ≤ length c.self.inside.values = rw values c.requires.within in
    let place : c.freed_place-place.result ≡ place_of (complement lit) = c.freed_place-place.ensures in
    let list : c.index.result.now ≡ get_or c.self.inside.lists.items (place_of (complement lit)) c.index.result.now = rw place at c.index.ensures in
    let occurrences : c.as_slice.result.now ≡ occurrences_from 1 (complement lit) (map row_seen c.self.inside.rows.items) = c.as_slice.ensures.value ∙ list_is c.self.inside.rows.items c.self.inside.slacks.items c.self.inside.lists.items c.self.inside.values (complement lit) c.index.result.now c.self.invariant c.requires.from_one most list in
    rw (occurrences, c.deref_mut.ensures.value) (list_numbered c.self.inside.rows.items c.self.inside.slacks.items (lists_seen c.self.inside.lists.items) c.self.inside.values (complement lit) c.self.invariant)

pub raise-requires-clause-fit : goal.raise-requires-clause-fit
raise-requires-clause-fit g c =
    let view = c.self.view_is in
    let values : c.self.inside.values ≡ c.args.self.now.values = ap (λ (v : KeptView). v.values) view in
    let lit : Lit = (record { variable = c.args.variable; positive = c.unwrap-positive.result }) in
    let most : lit.variable ≤ length c.self.inside.values = rw values c.requires.within in
    let place : c.freed_place-place.result ≡ place_of (complement lit) = c.freed_place-place.ensures in
    let list : c.index.result.now ≡ get_or c.self.inside.lists.items (place_of (complement lit)) c.index.result.now = rw place at c.index.ensures in
    let occurrences : c.as_slice.result.now ≡ occurrences_from 1 (complement lit) (map row_seen c.self.inside.rows.items) = c.as_slice.ensures.value ∙ list_is c.self.inside.rows.items c.self.inside.slacks.items c.self.inside.lists.items c.self.inside.values (complement lit) c.index.result.now c.self.invariant c.requires.from_one most list in
    rw (occurrences, c.deref_mut.ensures.value) (all_bounds c.self.inside.rows.items c.self.inside.slacks.items (lists_seen c.self.inside.lists.items) c.self.inside.values (complement lit) c.self.invariant)

pub invariant_of-self : goal.invariant_of-self
invariant_of-self g c =
    let view = c.self.view_is in
    let values : c.self.inside.values ≡ c.args.self.now.values = ap (λ (v : KeptView). v.values) view in
    let lit : Lit = (record { variable = c.args.variable; positive = c.unwrap-positive.result }) in
    let most : lit.variable ≤ length c.self.inside.values = rw values c.requires.within in
    let place : c.freed_place-place.result ≡ place_of (complement lit) = c.freed_place-place.ensures in
    let list : c.index.result.now ≡ get_or c.self.inside.lists.items (place_of (complement lit)) c.index.result.now = rw place at c.index.ensures in
    let occurrences : c.as_slice.result.now ≡ occurrences_from 1 (complement lit) (map row_seen c.self.inside.rows.items) = c.as_slice.ensures.value ∙ list_is c.self.inside.rows.items c.self.inside.slacks.items c.self.inside.lists.items c.self.inside.values (complement lit) c.index.result.now c.self.invariant c.requires.from_one most list in
    let is_set : value_of c.self.inside.values c.args.variable ≡ Some c.unwrap-positive.result = sym c.value.ensures ∙ c.unwrap-positive.ensures in
    let all : length c.raise.new.slacks ≡ length c.self.inside.slacks.items = omega (arith, c.raise.auto.slacks, c.deref_mut.ensures.len, c.self.inside.slacks.ok.0) in
    let after = written c.self.inside.slacks.items c.raise.new.slacks c.self.inside.slacks.len (omega (arith, c.self.inside.slacks.ok.0)) all in
    rw (after, c.set.ensures) (cleared c.self.inside.rows.items c.self.inside.slacks.items c.raise.new.slacks (lists_seen c.self.inside.lists.items) c.self.inside.values lit c.self.invariant is_set c.requires.from_one most all (rw (occurrences, c.deref_mut.ensures.value) at c.raise.ensures.slacks))

pub returns-clause-steps : goal.returns-clause-steps
returns-clause-steps g c =
    let view = c.self.view_is in
    let values : c.self.inside.values ≡ c.args.self.now.values = ap (λ (v : KeptView). v.values) view in
    let lit : Lit = (record { variable = c.args.variable; positive = c.unwrap-positive.result }) in
    let most : lit.variable ≤ length c.self.inside.values = rw values c.requires.within in
    let place : c.freed_place-place.result ≡ place_of (complement lit) = c.freed_place-place.ensures in
    let list : c.index.result.now ≡ get_or c.self.inside.lists.items (place_of (complement lit)) c.index.result.now = rw place at c.index.ensures in
    let occurrences : c.as_slice.result.now ≡ occurrences_from 1 (complement lit) (map row_seen c.self.inside.rows.items) = c.as_slice.ensures.value ∙ list_is c.self.inside.rows.items c.self.inside.slacks.items c.self.inside.lists.items c.self.inside.values (complement lit) c.index.result.now c.self.invariant c.requires.from_one most list in
    let seen : map row_seen c.self.inside.rows.items ≡ c.args.self.now.constraints = ap (λ (v : KeptView). v.constraints) view in
    let steps = rw occurrences at c.raise.ensures.steps in
    let count = length-occurrences_from 1 (complement lit) (map row_seen c.self.inside.rows.items) in
    let is_set : value_of c.self.inside.values c.args.variable ≡ Some c.unwrap-positive.result = sym c.value.ensures ∙ c.unwrap-positive.ensures in
    λ b e. let same : c.unwrap-positive.result ≡ b = (let h : value_of c.self.inside.values c.args.variable ≡ Some b = rw values e in cc) in rw (← same, ← seen) (steps ∙ ap (λ n. c.args.steps.now + n) count)
