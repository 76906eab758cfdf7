-- Occurrences that are entered one after the other, and slacks that they change.
use Rattle.std.proofs.Common.{◌≡◌, ◌≢◌, ℕ, ◌+◌, ◌-◌, ◌*◌, ◌<◌, ◌≤◌, Bool, true, false, cond, eqb, ltb, ◌&&◌, List, [], ◌∷◌, ◌++◌, length, get_or, set, take, ℤ, pos, ◌+ℤ◌, ◌-ℤ◌, All, AllPairs, Vec, vec_len, vec_capacity, Global, refl, sym, ◌∙◌, inl, inr, ◌⊎◌, ⊎_elim, append-nil, arith, get_or-set_other, get_or-set_same}
use Rattle.std.proofs.lemmas.Bool.{false≢true, cases_lt}
use Rattle.std.proofs.lemmas.Bool.Decides.{nat_tests, eqb_tells}
use Rattle.std.proofs.lemmas.Int.{ints}
use Rattle.std.proofs.lemmas.List.{map-set, length-map, get_or-take, get_or-map, get_or_default, length-take}
use Rattle.std.proofs.lemmas.List.Elements.{All-head, All-tail}
use Rattle.std.proofs.lemmas.List.Sums.{sum_by-cons, sum_by_more, sum_by_more_le, sum_by-take-le, get_or-le-sum_by}
use Rattle.pb_core.specs.KeptView.{place_of, lists_seen}
use Rattle.pb_core.specs.Literal.{same_literal, same_truth}
use Rattle.pb_core.specs.Occurrences.{coefficient, own_occurrence}
use Rattle.pb_core.specs.Shares.{share_at, HasRoom, HaveRoom}
use Rattle.pb_core.specs.declared.literal.Lit.{Lit}
use Rattle.pb_core.specs.declared.literal.Term.{Term}
use Rattle.pb_core.specs.declared.occurrences.Occurrence.{Occurrence}
use Rattle.pb_core.proofs.ValueLaws.{get_or-set_cases}

-- ---- room

pub room_kept : (lists : List (Vec Occurrence Global)) (p q : ℕ) (v : Vec Occurrence Global) → vec_len v < vec_capacity v → HasRoom lists q → HasRoom (set lists p v) q
room_kept lists p q v some room d =
    ⊎_elim (λ same. rw same (room d)) (λ here. rw here.1 some) (get_or-set_cases lists p q v d)

pub room_here : (lists : List (Vec Occurrence Global)) (p : ℕ) (v : Vec Occurrence Global) → p < length lists → vec_len v < vec_capacity v → HasRoom (set lists p v) p
room_here lists p v within some d = rw get_or-set_same some

pub room_elsewhere : (lists : List (Vec Occurrence Global)) (p q : ℕ) (v : Vec Occurrence Global) → p ≢ q → HasRoom lists q → HasRoom (set lists p v) q
room_elsewhere lists p q v apart room d = let other : q ≢ p = λ e. apart (sym e) in rw get_or-set_other (room d)

-- ---- literals and their places

same_truth-true : (a b : Bool) → same_truth a b ≡ true → a ≡ b
same_truth-true true true e = refl
same_truth-true true false e = absurd (false≢true e)
same_truth-true false true e = absurd (false≢true e)
same_truth-true false false e = refl

pub same_literal-same : (a b : Lit) → same_literal a b ≡ true → (a.variable ≡ b.variable) × (a.positive ≡ b.positive)
same_literal-same a b e = by (eqb a.variable b.variable) (eqb_tells a.variable b.variable) e
  where
    by : (t : Bool) → ((t ≡ true) × (a.variable ≡ b.variable)) ⊎ ((t ≡ false) × (a.variable ≢ b.variable)) → (t && same_truth a.positive b.positive) ≡ true → (a.variable ≡ b.variable) × (a.positive ≡ b.positive)
    by true (inl h) e = (h.1, same_truth-true a.positive b.positive e)
    by true (inr h) e = absurd (false≢true (sym h.0))
    by false h e = absurd (false≢true e)

place_truths : (v w : ℕ) (a b : Bool) → 0 < v → 0 < w → 2 * (v - 1) + cond a 0 1 ≡ 2 * (w - 1) + cond b 0 1 → (v ≡ w) × (a ≡ b)
place_truths v w true true h k e = (omega arith, refl)
place_truths v w true false h k e = absurd (omega arith)
place_truths v w false true h k e = absurd (omega arith)
place_truths v w false false h k e = (omega arith, refl)

itself : (b : Bool) → same_truth b b ≡ true
itself true = refl
itself false = refl

same_from_parts : (a b : Lit) → a.variable ≡ b.variable → a.positive ≡ b.positive → same_literal a b ≡ true
same_from_parts a b e f = rw (e, f, itself b.positive) (grind (arith, nat_tests))

pub place_of-apart : (a b : Lit) → 0 < a.variable → 0 < b.variable → same_literal a b ≡ false → place_of a ≢ place_of b
place_of-apart a b h k e same =
    let parts = place_truths a.variable b.variable a.positive b.positive h k same in
    false≢true (sym e ∙ same_from_parts a b parts.0 parts.1)

-- ---- coefficients

pub coefficient-absent : (lit : Lit) (terms : List Term) → All (λ t. t.lit.variable ≢ lit.variable) terms → coefficient lit terms ≡ 0
coefficient-absent lit [] absent = refl
coefficient-absent lit (t ∷ terms) absent =
    let here : t.lit.variable ≢ lit.variable = All-head (λ (u : Term). u.lit.variable ≢ lit.variable) t terms absent in
    let rest = coefficient-absent lit terms (All-tail (λ (u : Term). u.lit.variable ≢ lit.variable) t terms absent) in
    let none : cond (same_literal t.lit lit) t.coef 0 ≡ 0 = grind (arith, nat_tests) in
    sum_by-cons (λ (u : Term). cond (same_literal u.lit lit) u.coef 0) t terms ∙ rw (none, rest) refl

-- ---- one more term

own_some : (number : ℕ) (lit : Lit) (terms : List Term) (coef : ℕ) → coefficient lit terms ≡ coef → 0 < coef → own_occurrence number lit terms ≡ record { number = number; coef = coef } ∷ []
own_some number lit terms coef is some = let yes : ltb 0 coef ≡ true = grind (arith, nat_tests) in rw (is, yes) refl

own_none : (number : ℕ) (lit : Lit) (terms : List Term) → coefficient lit terms ≡ 0 → own_occurrence number lit terms ≡ []
own_none number lit terms is = rw is refl

-- the step of a loop that enters the terms
pub enter_step : (lists start : List (Vec Occurrence Global)) (terms : List Term) (i number : ℕ) (t : Term) (v : Vec Occurrence Global) (lit : Lit) → i < length terms → t ≡ get_or terms i t → length lists ≡ length start → AllPairs (λ t u. t.lit.variable ≢ u.lit.variable) terms → 0 < t.coef → 0 < t.lit.variable → place_of t.lit < length lists → ((d : Vec Occurrence Global) → v.items ≡ (get_or lists (place_of t.lit) d).items ++ record { number = number; coef = t.coef } ∷ []) → 0 < lit.variable → place_of lit < length start → get_or (lists_seen lists) (place_of lit) [] ≡ get_or (lists_seen start) (place_of lit) [] ++ own_occurrence number lit (take i terms) → get_or (lists_seen (set lists (place_of t.lit) v)) (place_of lit) [] ≡ get_or (lists_seen start) (place_of lit) [] ++ own_occurrence number lit (take (i + 1) terms)
enter_step lists start terms i number t v lit within is same_length distinct some_coef some place pushed some_lit in_start state = by (same_literal t.lit lit) refl
  where
    more : coefficient lit (take (i + 1) terms) ≡ coefficient lit (take i terms) + cond (same_literal t.lit lit) t.coef 0
    more = rw (← is) at (sum_by_more (λ (u : Term). cond (same_literal u.lit lit) u.coef 0) terms i t within)

    earlier : t.lit.variable ≡ lit.variable → (k : ℕ) (d : Term) → k < length (take i terms) → (get_or (take i terms) k d).lit.variable ≢ lit.variable
    earlier same k d h =
        let below : k < i = omega (arith, rw length-take at h) in
        let at_last : get_or terms i d ≡ t = get_or_default terms i d t within ∙ sym is in
        let before : (get_or terms k d).lit.variable ≢ t.lit.variable = rw at_last at (distinct k i d below within) in
        rw (get_or-take i terms k d below) (λ e. before (e ∙ sym same))

    by : (b : Bool) → same_literal t.lit lit ≡ b → get_or (lists_seen (set lists (place_of t.lit) v)) (place_of lit) [] ≡ get_or (lists_seen start) (place_of lit) [] ++ own_occurrence number lit (take (i + 1) terms)
    by true e =
        let parts = same_literal-same t.lit lit e in
        let here : place_of t.lit ≡ place_of lit = rw (parts.0, parts.1) refl in
        let absent : All (λ u. u.lit.variable ≢ lit.variable) (take i terms) = λ k d h. earlier parts.0 k d h in
        let none = coefficient-absent lit (take i terms) absent in
        let set_here : get_or (set (lists_seen lists) (place_of lit) v.items) (place_of lit) [] ≡ v.items = get_or-set_same (lists_seen lists) (place_of lit) v.items [] (rw (length-map lists (λ (x : Vec Occurrence Global). x.items)) (omega (arith, same_length))) in
        let at_place : get_or (lists_seen lists) (place_of lit) [] ≡ (get_or lists (place_of lit) v).items = get_or-map (λ (x : Vec Occurrence Global). x.items) lists (place_of lit) v [] (omega (arith, same_length)) in
        let added : v.items ≡ get_or (lists_seen lists) (place_of lit) [] ++ record { number = number; coef = t.coef } ∷ [] = rw at_place (rw here at (pushed v)) in
        let all : coefficient lit (take (i + 1) terms) ≡ t.coef = rw (more, none, e) (omega arith) in
        let before : get_or (lists_seen lists) (place_of lit) [] ≡ get_or (lists_seen start) (place_of lit) [] = state ∙ rw (own_none number lit (take i terms) none) (append-nil (get_or (lists_seen start) (place_of lit) [])) in
        rw (map-set (λ (x : Vec Occurrence Global). x.items) lists (place_of t.lit) v, here) (set_here ∙ (added ∙ rw (before, own_some number lit (take (i + 1) terms) t.coef all some_coef) refl))
    by false e =
        let apart : place_of lit ≢ place_of t.lit = λ s. place_of-apart t.lit lit some some_lit e (sym s) in
        let same : coefficient lit (take (i + 1) terms) ≡ coefficient lit (take i terms) = rw (more, e) (omega arith) in
        let other : get_or (set (lists_seen lists) (place_of t.lit) v.items) (place_of lit) [] ≡ get_or (lists_seen lists) (place_of lit) [] = get_or-set_other (lists_seen lists) (place_of t.lit) (place_of lit) v.items [] apart in
        rw (map-set (λ (x : Vec Occurrence Global). x.items) lists (place_of t.lit) v) (other ∙ (state ∙ rw same refl))

pub room_step : (lists : List (Vec Occurrence Global)) (terms : List Term) (i : ℕ) (e : Term) (p : ℕ) (v : Vec Occurrence Global) → i < length terms → p < length lists → p ≡ place_of (get_or terms i e).lit → vec_len v < vec_capacity v → ((k : ℕ) (d : Term) → k < i → HasRoom lists (place_of (get_or terms k d).lit)) → (k : ℕ) (d : Term) → k < i + 1 → HasRoom (set lists p v) (place_of (get_or terms k d).lit)
room_step lists terms i e p v within inside is some before k d h = ⊎_elim (λ lt. room_kept lists p (place_of (get_or terms k d).lit) v some (before k d lt)) here (cases_lt k i)
  where
    here : i ≤ k → HasRoom (set lists p v) (place_of (get_or terms k d).lit)
    here ge =
        let at : k ≡ i = omega arith in
        let same : place_of (get_or terms k d).lit ≡ p = rw (at, get_or_default terms i d e within) (sym is) in
        rw same (room_here lists p v inside some)

pub enter_room : (lists : List (Vec Occurrence Global)) (terms : List Term) (i : ℕ) (e : Term) (p : ℕ) (v : Vec Occurrence Global) → i < length terms → p ≡ place_of (get_or terms i e).lit → AllPairs (λ t u. t.lit.variable ≢ u.lit.variable) terms → All (λ t. 0 < t.lit.variable) terms → HaveRoom lists terms i → HaveRoom (set lists p v) terms (i + 1)
enter_room lists terms i e p v within is distinct some room k d le h = room_elsewhere lists p (place_of (get_or terms k d).lit) v apart (room k d (omega arith) h)
  where
    apart : p ≢ place_of (get_or terms k d).lit
    apart same =
        let at = get_or_default terms i e d within in
        let places : place_of (get_or terms i d).lit ≡ place_of (get_or terms k d).lit = rw at at (sym is ∙ same) in
        distinct i k d (omega arith) h (place_truths (get_or terms i d).lit.variable (get_or terms k d).lit.variable (get_or terms i d).lit.positive (get_or terms k d).lit.positive (some i d within) (some k d h) places).0

-- ---- slacks that change

pub share_more : (occurrences : List Occurrence) (i number : ℕ) (o : Occurrence) → i < length occurrences → o ≡ get_or occurrences i o → share_at number (take (i + 1) occurrences) ≡ share_at number (take i occurrences) + cond (eqb o.number number) o.coef 0
share_more occurrences i number o within is = rw (← is) at (sum_by_more (λ (u : Occurrence). cond (eqb u.number number) u.coef 0) occurrences i o within)

pub share_has : (occurrences : List Occurrence) (i : ℕ) (d : Occurrence) → i < length occurrences → (get_or occurrences i d).coef ≤ share_at (get_or occurrences i d).number occurrences
share_has occurrences i d within =
    let le = get_or-le-sum_by (λ (u : Occurrence). cond (eqb u.number (get_or occurrences i d).number) u.coef 0) occurrences i d within in
    grind (arith, nat_tests)

at_place : (slacks start : List ℤ) (p k : ℕ) (z : ℤ) → p < length slacks → p ≡ k → get_or (set slacks p z) k (pos 0) ≡ z
at_place slacks start p k z h e = rw (← e) (get_or-set_same slacks p z (pos 0) h)

pub lower_step : (slacks start : List ℤ) (occurrences : List Occurrence) (i : ℕ) (o : Occurrence) (z : ℤ) → i < length occurrences → o ≡ get_or occurrences i o → length slacks ≡ length start → 0 < o.number → o.number ≤ length start → ((k : ℕ) → k < length start → get_or slacks k (pos 0) ≡ get_or start k (pos 0) -ℤ pos (share_at (k + 1) (take i occurrences))) → z ≡ get_or slacks (o.number - 1) (pos 0) -ℤ pos o.coef → (k : ℕ) → k < length start → get_or (set slacks (o.number - 1) z) k (pos 0) ≡ get_or start k (pos 0) -ℤ pos (share_at (k + 1) (take (i + 1) occurrences))
lower_step slacks start occurrences i o z within is size some most state new k h = by (eqb o.number (k + 1)) (eqb_tells o.number (k + 1)) refl
  where
    more : share_at (k + 1) (take (i + 1) occurrences) ≡ share_at (k + 1) (take i occurrences) + cond (eqb o.number (k + 1)) o.coef 0
    more = share_more occurrences i (k + 1) o within is

    by : (b : Bool) → ((b ≡ true) × (o.number ≡ k + 1)) ⊎ ((b ≡ false) × (o.number ≢ k + 1)) → eqb o.number (k + 1) ≡ b → get_or (set slacks (o.number - 1) z) k (pos 0) ≡ get_or start k (pos 0) -ℤ pos (share_at (k + 1) (take (i + 1) occurrences))
    by b (inl t) e =
        let place : o.number - 1 ≡ k = omega (arith, t.1) in
        let here = at_place slacks start (o.number - 1) k z (omega (arith, size)) place in
        let old = state k h in
        let value : z ≡ get_or slacks k (pos 0) -ℤ pos o.coef = rw place at new in
        let all : share_at (k + 1) (take (i + 1) occurrences) ≡ share_at (k + 1) (take i occurrences) + o.coef = rw (e, t.0) at more in
        rw (here, all) (omega (arith, ints))
    by b (inr t) e =
        let apart : k ≢ o.number - 1 = λ s. t.1 (omega (arith, s)) in
        let other = get_or-set_other slacks (o.number - 1) k z (pos 0) apart in
        let all : share_at (k + 1) (take (i + 1) occurrences) ≡ share_at (k + 1) (take i occurrences) + 0 = rw (e, t.0) at more in
        rw (other, all) (let old = state k h in omega (arith, ints))

pub raise_step : (slacks start : List ℤ) (occurrences : List Occurrence) (i : ℕ) (o : Occurrence) (z : ℤ) → i < length occurrences → o ≡ get_or occurrences i o → length slacks ≡ length start → 0 < o.number → o.number ≤ length start → ((k : ℕ) → k < length start → get_or slacks k (pos 0) ≡ get_or start k (pos 0) +ℤ pos (share_at (k + 1) (take i occurrences))) → z ≡ get_or slacks (o.number - 1) (pos 0) +ℤ pos o.coef → (k : ℕ) → k < length start → get_or (set slacks (o.number - 1) z) k (pos 0) ≡ get_or start k (pos 0) +ℤ pos (share_at (k + 1) (take (i + 1) occurrences))
raise_step slacks start occurrences i o z within is size some most state new k h = by (eqb o.number (k + 1)) (eqb_tells o.number (k + 1)) refl
  where
    more : share_at (k + 1) (take (i + 1) occurrences) ≡ share_at (k + 1) (take i occurrences) + cond (eqb o.number (k + 1)) o.coef 0
    more = share_more occurrences i (k + 1) o within is

    by : (b : Bool) → ((b ≡ true) × (o.number ≡ k + 1)) ⊎ ((b ≡ false) × (o.number ≢ k + 1)) → eqb o.number (k + 1) ≡ b → get_or (set slacks (o.number - 1) z) k (pos 0) ≡ get_or start k (pos 0) +ℤ pos (share_at (k + 1) (take (i + 1) occurrences))
    by b (inl t) e =
        let place : o.number - 1 ≡ k = omega (arith, t.1) in
        let here = at_place slacks start (o.number - 1) k z (omega (arith, size)) place in
        let old = state k h in
        let value : z ≡ get_or slacks k (pos 0) +ℤ pos o.coef = rw place at new in
        let all : share_at (k + 1) (take (i + 1) occurrences) ≡ share_at (k + 1) (take i occurrences) + o.coef = rw (e, t.0) at more in
        rw (here, all) (omega (arith, ints))
    by b (inr t) e =
        let apart : k ≢ o.number - 1 = λ s. t.1 (omega (arith, s)) in
        let other = get_or-set_other slacks (o.number - 1) k z (pos 0) apart in
        let all : share_at (k + 1) (take (i + 1) occurrences) ≡ share_at (k + 1) (take i occurrences) + 0 = rw (e, t.0) at more in
        rw (other, all) (let old = state k h in omega (arith, ints))

-- the share of the first occurrences is within the whole
pub share_part : (occurrences : List Occurrence) (i number : ℕ) → share_at number (take i occurrences) ≤ share_at number occurrences
share_part occurrences i number = sum_by-take-le (λ (u : Occurrence). cond (eqb u.number number) u.coef 0) occurrences i

pub share_next : (occurrences : List Occurrence) (i : ℕ) (d : Occurrence) → i < length occurrences → share_at (get_or occurrences i d).number (take i occurrences) + (get_or occurrences i d).coef ≤ share_at (get_or occurrences i d).number occurrences
share_next occurrences i d within =
    let le = sum_by_more_le (λ (u : Occurrence). cond (eqb u.number (get_or occurrences i d).number) u.coef 0) occurrences i d within in
    grind (arith, nat_tests)
