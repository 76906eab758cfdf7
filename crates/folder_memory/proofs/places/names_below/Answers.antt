use Rattle.std.specs.Prelude.{map}
use Rattle.std.proofs.Common.{◌≡◌, ℕ, true, cond, List, [], ◌∷◌, ◌++◌, Bor, sym, ◌∙◌, ap, rules}
use Rattle.std.specs.BTreeMap.{is_at}
use Rattle.std.specs.BTreeSet.{contains}
use Rattle.std.specs.Map.Iter.{deref_pair}
use Rattle.std.specs.Ordering.{nat_cmp}
use Rattle.std.specs.Cmp.Lexicographic.{slice_cmp}
use Rattle.std.proofs.lemmas.List.{append-nil}
use Rattle.std.proofs.lemmas.Map.Iter.{iter_end, rest_so_far}
use Rattle.folder_memory.specs.Below.{IsFirstBelow}
use Rattle.folder_memory.proofs.Found.{same_step}
use Rattle.folder_memory.proofs.Kids.{Gathers-push}
use Rattle.folder_memory.proofs.Parts.{all_passed, all_seen, names_gathered}
use Rattle.folder_memory.proofs.places.names_below.Goals as goal

pub loop-place-preserved : goal.loop-place-preserved
loop-place-preserved g c =
    Gathers-push (λ (pair : Bor (List (List ℕ)) × Bor g.row.V.Denot) name. IsFirstBelow c.args.path.now name pair.0.now) (λ name. contains (slice_cmp nat_cmp) c.loop-place.names name) (λ name. contains (slice_cmp nat_cmp) c.insert.new.self name)
    c.loop-place.yielded (c.in-Some.place, c.in-Some.field-0-1) c.in-Some-name_below.name.now
    c.in-Some-name_below.ensures (λ other gives. same_step c.args.path.now c.in-Some.place.now c.in-Some-name_below.name.now other c.in-Some-name_below.ensures gives)
    (λ q. c.in_ok-insert.ensures.updates.0 q ∙ ap (λ (k : List ℕ). cond (is_at (slice_cmp nat_cmp k) q) true (contains (slice_cmp nat_cmp) c.loop-place.names q)) c.in_ok-copy.ensures) c.loop-place.invariant

pub returns-in_default : goal.returns-in_default
returns-in_default g c =
    let part = c.range-place-items.result in
    let pair = deref_pair (c.in-Some.place, c.in-Some.field-0-1) in
    let start : c.into_iter-place-iterator.result ≡ part = search rules in
    let split = sym start ∙ rest_so_far deref_pair c.loop-place.yielded c.into_iter-place-iterator.result c.loop-place.place-iterator c.loop-place.yielded_by
    ∙ ap (λ (l : List (List (List ℕ) × g.row.V.Denot)). map deref_pair c.loop-place.yielded ++ l) c.in-Some.ensures.steps in
    names_gathered {V = g.row.V.Denot} c.args.places.now c.args.path.now part c.range-place-items.ensures.ordered (c.range-place-items.ensures.between tt) (c.range-place-items.ensures.in_range tt).0
    c.loop-place.yielded (pair ∷ c.next.new.self) (λ name. contains (slice_cmp nat_cmp) c.loop-place.names name) split
    (all_passed {V = g.row.V.Denot} c.args.places.now c.args.path.now part c.range-place-items.ensures.ordered (c.range-place-items.ensures.between tt) (c.range-place-items.ensures.in_range tt).0
    c.loop-place.yielded pair c.next.new.self split c.in_default.ensures)
    c.loop-place.invariant

pub returns : goal.returns
returns g c =
    let part = c.range-place-items.result in
    let whole : map deref_pair c.loop-place.yielded ≡ part = search (rules, iter_end) in
    names_gathered {V = g.row.V.Denot} c.args.places.now c.args.path.now part c.range-place-items.ensures.ordered (c.range-place-items.ensures.between tt) (c.range-place-items.ensures.in_range tt).0
    c.loop-place.yielded [] (λ name. contains (slice_cmp nat_cmp) c.loop-place.names name) (sym whole ∙ sym (append-nil _))
    (all_seen {V = g.row.V.Denot} c.args.places.now c.args.path.now part c.range-place-items.ensures.ordered (c.range-place-items.ensures.between tt) (c.range-place-items.ensures.in_range tt).0
    c.loop-place.yielded (sym whole))
    c.loop-place.invariant
