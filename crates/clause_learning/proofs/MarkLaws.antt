-- Marks of an analysis.
use Rattle.std.proofs.Common.{◌≡◌, ℕ, ◌+◌, ◌<◌, ◌≤◌, Bool, true, false, not, List, length, get_or, set, take, replicate, Option, Some, None, refl, sym, ap, subst, ◌∙◌, inl, inr, ◌⊎◌, ⊎_elim, arith}
use Rattle.std.proofs.lemmas.Bool.{false≢true, cases_lt}
use Rattle.std.proofs.lemmas.List.{length-set, length-replicate, get_or-replicate, get_or-set_same, get_or_default, get_or_past}
use Rattle.pb_core.specs.AtLeast.{AtLeast}
use Rattle.pb_core.specs.Values.{value_of, has_truth, is_false, Includes}
use Rattle.pb_core.specs.declared.literal.Lit.{Lit}
use Rattle.pb_core.specs.declared.literal.Term.{Term}
use Rattle.pb_core.proofs.ValueLaws.{get_or-set_cases, is_false-Includes}
use Rattle.pb_trail.specs.Along.{values_before}
use Rattle.pb_trail.specs.Trail.{IsTrail, AreSteps}
use Rattle.pb_trail.specs.declared.trail.Entry.{Entry}
use Rattle.pb_trail.specs.declared.trail.Trail.{Trail}
use Rattle.pb_trail.proofs.AlongLaws.{no_entry, before_all, before-Includes, value_entry, entries_apart, IsEntryOf, length-along}
use Rattle.clause_learning.specs.Marks.{is_marked, place_in, ArePlaces, MarkedEntry, HasMarks, KeepsMarks, AddsBelow, KeepsOthers, KeepsFrom, HaveMarks}
use Rattle.clause_learning.specs.declared.cut.Cut.{Cut}

-- the values of a trail before a place
abbrev pub before_at : Trail → ℕ → List (Option Bool)
before_at trail place = values_before (length trail.kept.values) trail.entries.items place

pub values_all : (trail : Trail) → IsTrail trail → trail.kept.values ≡ before_at trail (length trail.entries.items)
values_all trail good = good.along ∙ sym (before_all (length trail.kept.values) trail.entries.items)

pub before_included : (trail : Trail) → IsTrail trail → (m : ℕ) → m ≤ length trail.entries.items → Includes (before_at trail m) trail.kept.values
before_included trail good m h =
    subst (λ (vs : List (Option Bool)). Includes (before_at trail m) vs) (sym (values_all trail good))
    (before-Includes trail.kept.constraints (length trail.kept.values) trail.entries.items good.are_steps m (length trail.entries.items) h (omega arith))

pub some_from_truth : (o : Option Bool) (p : Bool) → has_truth o p ≡ true → o ≡ Some p
some_from_truth None p e = absurd (false≢true e)
some_from_truth (Some true) true e = refl
some_from_truth (Some true) false e = absurd (false≢true e)
some_from_truth (Some false) true e = absurd (false≢true e)
some_from_truth (Some false) false e = refl

-- the entry that made a literal false
pub false_entry : (trail : Trail) → IsTrail trail → (m : ℕ) → m ≤ length trail.entries.items → (lit : Lit) → is_false (before_at trail m) lit ≡ true → IsEntryOf trail.entries.items m lit.variable (not lit.positive)
false_entry trail good m h lit e =
    value_entry trail.kept.constraints (length trail.kept.values) trail.entries.items good.are_steps m lit.variable (not lit.positive) h (some_from_truth (value_of (before_at trail m) lit.variable) (not lit.positive) e)

-- it stands where the places say
pub entry_place : (es : List Entry) (places : List ℕ) (m v : ℕ) (b : Bool) → ArePlaces es places → m ≤ length es → (found : IsEntryOf es m v b) → place_in places v ≡ found.place
entry_place es places m v b are h found =
    ap (λ (l : Lit). place_in places l.variable) (sym (found.is no_entry)) ∙ are found.place no_entry (omega (arith, found.within))

pub marked_now : (trail : Trail) (cut : Cut) (limit : ℕ) (lit : Lit) → IsTrail trail → HasMarks trail cut → limit ≤ cut.top → is_false (before_at trail limit) lit ≡ true → (place_in cut.places.items lit.variable < limit) × (is_false trail.kept.values lit ≡ true)
marked_now trail cut limit lit good marks most e =
    let within : limit ≤ length trail.entries.items = omega (arith, most, marks.within) in
    let found = false_entry trail good limit within lit e in
    let at = entry_place trail.entries.items cut.places.items limit lit.variable (not lit.positive) marks.are_places within found in
    (omega (arith, at, found.within), is_false-Includes (before_at trail limit) trail.kept.values lit (before_included trail good limit within) e)

pub HasMarks-marked : (trail : Trail) (before after : Cut) (lit : Lit) → IsTrail trail → HasMarks trail before → after.places.items ≡ before.places.items → after.seen.items ≡ set before.seen.items lit.variable true → after.top ≡ before.top → after.bottom ≡ before.bottom → place_in before.places.items lit.variable < before.top → is_false trail.kept.values lit ≡ true → after.stop ≤ before.stop → (before.bottom ≤ place_in before.places.items lit.variable + 1 → after.stop ≤ place_in before.places.items lit.variable + 1) → before.bottom ≤ after.stop → HasMarks trail after
HasMarks-marked trail before after lit good marks places seen top bottom below fails lower here ordered = record {
  all_places = ap length places ∙ marks.all_places;
  are_places = λ k d h. ap (λ (xs : List ℕ). place_in xs (get_or trail.entries.items k d).lit.variable) places ∙ marks.are_places k d h;
  all_marks = ap length seen ∙ (length-set before.seen.items lit.variable true ∙ marks.all_marks);
  within = omega (arith, top, marks.within);
  marked_below = below_top;
  stop_first = first;
  ordered = omega (arith, bottom, ordered);
}
  where
    cases : (v : ℕ) → is_marked after.seen.items v ≡ true → (is_marked before.seen.items v ≡ true) ⊎ (lit.variable ≡ v)
    cases v m = ⊎_elim (λ same. inl (sym same ∙ (ap (λ (xs : List Bool). get_or xs v false) (sym seen) ∙ m))) (λ set_here. inr set_here.0) (get_or-set_cases before.seen.items lit.variable v true false)

    found : IsEntryOf trail.entries.items (length trail.entries.items) lit.variable (not lit.positive)
    found = false_entry trail good (length trail.entries.items) (omega arith) lit (subst (λ (vs : List (Option Bool)). is_false vs lit ≡ true) (values_all trail good) fails)

    at : place_in before.places.items lit.variable ≡ found.place
    at = entry_place trail.entries.items before.places.items (length trail.entries.items) lit.variable (not lit.positive) marks.are_places (omega arith) found

    below_top : (v : ℕ) → is_marked after.seen.items v ≡ true → MarkedEntry trail after.top v
    below_top v m = ⊎_elim (λ old. let entry = marks.marked_below v old in record { place = entry.place; below = omega (arith, entry.below, top); is = entry.is }) (λ e. record { place = found.place; below = omega (arith, at, below, top); is = λ d. ap (λ (l : Lit). l.variable) (found.is d) ∙ e }) (cases v m)

    first : (k : ℕ) (d : Entry) → after.bottom ≤ k + 1 → k < after.top → is_marked after.seen.items (get_or trail.entries.items k d).lit.variable ≡ true → after.stop ≤ k + 1
    first k d low high m = ⊎_elim (λ old. omega (arith, lower, marks.stop_first k d (omega (arith, bottom, low)) (omega (arith, top, high)) old)) (λ e. let same : place_in before.places.items lit.variable ≡ k = ap (place_in before.places.items) e ∙ marks.are_places k d (omega (arith, high, top, marks.within)) in omega (arith, same, here (omega (arith, same, bottom, low)))) (cases (get_or trail.entries.items k d).lit.variable m)

pub KeepsMarks-itself : (cut : Cut) → KeepsMarks cut cut
KeepsMarks-itself cut = record { marks = λ v m. m; hints = refl; top = refl; bottom = refl; stop = omega arith }

pub KeepsMarks-through : (a b c : Cut) → KeepsMarks a b → KeepsMarks b c → KeepsMarks a c
KeepsMarks-through a b c e f = record {
  marks = λ v m. f.marks v (e.marks v m);
  hints = f.hints ∙ e.hints;
  top = f.top ∙ e.top;
  bottom = f.bottom ∙ e.bottom;
  stop = omega (arith, e.stop, f.stop);
}

marks_kept : (seen : List Bool) (i v : ℕ) → is_marked seen v ≡ true → is_marked (set seen i true) v ≡ true
marks_kept seen i v m = ⊎_elim (λ same. same ∙ m) (λ here. here.1) (get_or-set_cases seen i v true false)

pub KeepsMarks-marked : (before after : Cut) (v : ℕ) → after.seen.items ≡ set before.seen.items v true → after.hints.items ≡ before.hints.items → after.top ≡ before.top → after.bottom ≡ before.bottom → after.stop ≤ before.stop → KeepsMarks before after
KeepsMarks-marked before after v seen hints top bottom stop = record {
  marks = λ w m. ap (λ (xs : List Bool). is_marked xs w) seen ∙ marks_kept before.seen.items v w m;
  hints = hints;
  top = top;
  bottom = bottom;
  stop = stop;
}

pub AddsBelow-itself : (limit : ℕ) (cut : Cut) → AddsBelow limit cut cut
AddsBelow-itself limit cut = record { places = refl; marks = λ v h m. m; stop = λ h. refl }

pub AddsBelow-through : (limit : ℕ) (a b c : Cut) → b.bottom ≡ a.bottom → AddsBelow limit a b → AddsBelow limit b c → AddsBelow limit a c
AddsBelow-through limit a b c bottom e f = record {
  places = f.places ∙ e.places;
  marks = λ v h m. e.marks v h (f.marks v (subst (λ (ps : List ℕ). limit ≤ place_in ps v) (sym e.places) h) m);
  stop = λ h. f.stop (omega (arith, h, bottom)) ∙ e.stop h;
}

pub AddsBelow-marked : (limit : ℕ) (before after : Cut) (w : ℕ) → after.places.items ≡ before.places.items → after.seen.items ≡ set before.seen.items w true → place_in before.places.items w < limit → (limit < before.bottom → after.stop ≡ before.stop) → AddsBelow limit before after
AddsBelow-marked limit before after w places seen below stop = record { places = places; marks = old; stop = stop }
  where
    old : (v : ℕ) → limit ≤ place_in before.places.items v → is_marked after.seen.items v ≡ true → is_marked before.seen.items v ≡ true
    old v h m = ⊎_elim (λ same. sym same ∙ (ap (λ (xs : List Bool). get_or xs v false) (sym seen) ∙ m)) (λ here. let at : place_in before.places.items w ≡ place_in before.places.items v = ap (place_in before.places.items) here.0 in absurd (omega (arith, at, below, h))) (get_or-set_cases before.seen.items w v true false)

pub KeepsFrom-itself : (trail : Trail) (first : ℕ) (cut : Cut) → KeepsFrom trail first cut cut
KeepsFrom-itself trail first cut = record { marks = λ k d low h m. m; top = refl; bottom = refl; stop = refl }

pub KeepsFrom-through : (trail : Trail) (high low : ℕ) (a b c : Cut) → low ≤ high → KeepsFrom trail high a b → KeepsFrom trail low b c → KeepsFrom trail high a c
KeepsFrom-through trail high low a b c lower e f = record {
  marks = λ k d above h m. f.marks k d (omega (arith, lower, above)) h (e.marks k d above h m);
  top = f.top ∙ e.top;
  bottom = f.bottom ∙ e.bottom;
  stop = f.stop ∙ e.stop;
}

pub KeepsFrom-others : (trail : Trail) (place : ℕ) (before after : Cut) → IsTrail trail → place < before.bottom → KeepsOthers trail place before after → KeepsFrom trail (place + 1) before after
KeepsFrom-others trail place before after good early keeps = record {
  marks = λ k d low h m. keeps.others (get_or trail.entries.items k d).lit.variable d (λ e. entries_apart trail.kept.constraints (length trail.kept.values) trail.entries.items good.are_steps place k d (omega (arith, low)) h (sym e)) m;
  top = keeps.top;
  bottom = keeps.bottom;
  stop = keeps.same_stop early;
}

-- some marks went
pub HasMarks-fewer : (trail : Trail) (before after : Cut) → HasMarks trail before → after.places.items ≡ before.places.items → length after.seen.items ≡ length before.seen.items → ((v : ℕ) → is_marked after.seen.items v ≡ true → is_marked before.seen.items v ≡ true) → after.top ≡ before.top → after.bottom ≡ before.bottom → after.stop ≡ before.stop → HasMarks trail after
HasMarks-fewer trail before after marks places size seen top bottom stop = record {
  all_places = ap length places ∙ marks.all_places;
  are_places = λ k d h. ap (λ (xs : List ℕ). place_in xs (get_or trail.entries.items k d).lit.variable) places ∙ marks.are_places k d h;
  all_marks = size ∙ marks.all_marks;
  within = omega (arith, top, marks.within);
  marked_below = λ v m. let entry = marks.marked_below v (seen v m) in record { place = entry.place; below = omega (arith, entry.below, top); is = entry.is };
  stop_first = λ k d low high m. omega (arith, stop, marks.stop_first k d (omega (arith, bottom, low)) (omega (arith, top, high)) (seen (get_or trail.entries.items k d).lit.variable m));
  ordered = omega (arith, bottom, stop, marks.ordered);
}

pub marked_here : (seen : List Bool) (v : ℕ) → v < length seen → is_marked (set seen v true) v ≡ true
marked_here seen v h = get_or-set_same seen v true false h

-- the next term's literal was marked
pub HaveMarks-more : (trail : Trail) (top : ℕ) (old new : List Bool) (terms : List Term) (i : ℕ) (t : Term) → i < length terms → ((v : ℕ) → is_marked old v ≡ true → is_marked new v ≡ true) → (is_false (before_at trail top) t.lit ≡ true → is_marked new t.lit.variable ≡ true) → get_or terms i t ≡ t → HaveMarks trail top old terms i → HaveMarks trail top new terms (i + 1)
HaveMarks-more trail top old new terms i t within keeps here is before k d lt h e =
    ⊎_elim (λ earlier. keeps (get_or terms k d).lit.variable (before k d earlier h e)) (λ ge. let at : i ≡ k = omega arith in let same : get_or terms k d ≡ t = ap (λ (m : ℕ). get_or terms m d) (sym at) ∙ (get_or_default terms i d t within ∙ is) in subst (λ (u : Term). is_marked new u.lit.variable ≡ true) (sym same) (here (subst (λ (u : Term). is_false (before_at trail top) u.lit ≡ true) same e))) (cases_lt k i)

-- one more entry has its place
pub ArePlaces-more : (cs : List AtLeast) (n : ℕ) (es : List Entry) (places : List ℕ) (i : ℕ) (e : Entry) → AreSteps cs n es → i < length es → get_or es i e ≡ e → length places ≡ n + 1 → ((k : ℕ) (d : Entry) → k < i → place_in places (get_or es k d).lit.variable ≡ k) → (k : ℕ) (d : Entry) → k < i + 1 → place_in (set places e.lit.variable i) (get_or es k d).lit.variable ≡ k
ArePlaces-more cs n es places i e are within is size earlier k d h = ⊎_elim old new (cases_lt k i)
  where
    at : (j : ℕ) → j ≡ i → get_or es j d ≡ e
    at j s = ap (λ (m : ℕ). get_or es m d) s ∙ (get_or_default es i d e within ∙ is)

    old : k < i → place_in (set places e.lit.variable i) (get_or es k d).lit.variable ≡ k
    old lt =
        let apart = entries_apart cs n es are k i d lt within in
        ⊎_elim (λ same. same ∙ earlier k d lt) (λ here. absurd (apart (sym here.0 ∙ ap (λ (x : Entry). x.lit.variable) (sym (at i refl))))) (get_or-set_cases places e.lit.variable (get_or es k d).lit.variable i 0)

    new : i ≤ k → place_in (set places e.lit.variable i) (get_or es k d).lit.variable ≡ k
    new ge =
        let same : k ≡ i = omega arith in
        let step = are i d within in
        let most : (get_or es i d).lit.variable ≤ n = rw (length-along n (take i es)) at step.within in
        let room : e.lit.variable < length places = omega (arith, size, most, ap (λ (x : Entry). x.lit.variable) (at i refl)) in
        ap (λ (x : Entry). place_in (set places e.lit.variable i) x.lit.variable) (at k same) ∙ (get_or-set_same places e.lit.variable i 0 room ∙ sym same)

none_marked : (n v : ℕ) → is_marked (replicate n false) v ≡ false
none_marked n v = ⊎_elim (λ lt. get_or-replicate n v false false lt) (λ ge. get_or_past (replicate n false) v false (omega (arith, length-replicate n false, ge))) (cases_lt v n)

pub unmarked_at_first : (seen : List Bool) (n v : ℕ) → seen ≡ replicate n false → is_marked seen v ≡ true → ⊥
unmarked_at_first seen n v e m = false≢true (sym (none_marked n v) ∙ (ap (λ (xs : List Bool). is_marked xs v) (sym e) ∙ m))

pub HasMarks-begins : (trail : Trail) (cut : Cut) → length cut.places.items ≡ length trail.kept.values + 1 → ArePlaces trail.entries.items cut.places.items → cut.seen.items ≡ replicate (length trail.kept.values + 1) false → cut.top ≡ length trail.entries.items → cut.bottom ≤ cut.stop → HasMarks trail cut
HasMarks-begins trail cut size places none top ordered = record {
  all_places = size;
  are_places = places;
  all_marks = ap length none ∙ length-replicate (length trail.kept.values + 1) false;
  within = omega (arith, top);
  marked_below = λ v m. absurd (unmarked_at_first cut.seen.items (length trail.kept.values + 1) v none m);
  stop_first = λ k d low high m. absurd (unmarked_at_first cut.seen.items (length trail.kept.values + 1) (get_or trail.entries.items k d).lit.variable none m);
  ordered = ordered;
}
