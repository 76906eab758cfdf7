-- What an analysis comes to: lines that check and are fresh.
use Rattle.std.proofs.Common.{◌≡◌, ◌≢◌, ℕ, zero, suc, ◌+◌, ◌-◌, ◌<◌, ◌≤◌, Bool, true, false, not, List, [], ◌∷◌, ◌++◌, length, get_or, set, take, reverse, replicate, Option, Some, None, Contains, All, AllPairs, refl, sym, ap, subst, ◌∙◌, inl, inr, ◌⊎◌, ⊎_elim, arith}
use Rattle.std.proofs.lemmas.Bool.{false≢true, cases_lt}
use Rattle.std.proofs.lemmas.List.{get_or-set_same, get_or_default, length-replicate, get_or-reverse, length-reverse}
use Rattle.std.proofs.lemmas.List.Elements.{All-head, All-tail, All-push, Contains-push, Contains-append_left}
use Rattle.std.proofs.lemmas.List.Quantifiers.{all_pairs_push}
use Rattle.pb_core.specs.AtLeast.{AtLeast}
use Rattle.pb_core.specs.ConstraintAt.{constraint_at}
use Rattle.pb_core.specs.Fresh.{Fresh}
use Rattle.pb_core.specs.Literal.{complement}
use Rattle.pb_core.specs.Propagates.{IsAtRest}
use Rattle.pb_core.specs.Slack.{reachable, IsViolated, Forces}
use Rattle.pb_core.specs.Values.{value_of, has_truth, make_true, is_false, is_open}
use Rattle.pb_core.specs.declared.literal.Lit.{Lit}
use Rattle.pb_core.specs.declared.literal.Term.{Term}
use Rattle.pb_core.proofs.ValueLaws.{get_or-set_cases, is_false-Includes, value_of-set_here, length-set_value}
use Rattle.deriv_check.proofs.LineLaws.{deny_all, deny_others, length-deny_all}
use Rattle.deriv_check.specs.HintRule.{all_false, with_forced, conflicts}
use Rattle.deriv_check.specs.LineRule.{HasLiterals, HasHints, Checks, hinted}
use Rattle.deriv_check.specs.declared.derivation.Line.{Line}
use Rattle.pb_trail.specs.Trail.{IsTrail, IsStep}
use Rattle.pb_trail.specs.declared.trail.Entry.{Entry}
use Rattle.pb_trail.specs.declared.trail.Trail.{Trail}
use Rattle.pb_trail.proofs.AlongLaws.{no_entry, before-Includes, entry_value, length-along, Includes-open}
use Rattle.clause_learning.specs.Asserting.{IsAsserting, IsAssertingBy}
use Rattle.clause_learning.specs.Collected.{IsDenied, IsCollected, floor_of}
use Rattle.clause_learning.specs.Explained.{Agrees, IsExplained, IsCut}
use Rattle.clause_learning.specs.Marks.{is_marked, place_in, MarkedEntry, HasMarks, KeepsFrom, HaveMarks}
use Rattle.clause_learning.specs.declared.cut.Cut.{Cut}
use Rattle.clause_learning.proofs.HintLaws.{StaysFalse, reachable_falls, forces_again, with_forced-keeps, length-with_forced, conflicts_now, conflicts_later, hinted_push, rest_no_conflict}
use Rattle.clause_learning.proofs.MarkLaws.{before_at, before_included, values_all}

false_as : (a b : List (Option Bool)) (lit : Lit) → value_of a lit.variable ≡ value_of b lit.variable → is_false b lit ≡ true → is_false a lit ≡ true
false_as a b lit e f = ap (λ (o : Option Bool). has_truth o (not lit.positive)) e ∙ f

-- literals that were false before the top are false in all values that agree with the marks
stays_false : (trail : Trail) (top : ℕ) (seen : List Bool) (terms : List Term) (values : List (Option Bool)) → IsTrail trail → top ≤ length trail.entries.items → HaveMarks trail top seen terms (length terms) → Agrees trail seen values → All (StaysFalse (before_at trail top) values) terms
stays_false trail top seen terms values good within marked agrees k d h fails =
    false_as values trail.kept.values (get_or terms k d).lit (agrees (get_or terms k d).lit.variable (marked k d h h fails))
    (is_false-Includes (before_at trail top) trail.kept.values (get_or terms k d).lit (before_included trail good top within) fails)

-- the conflict alone
pub explained_first : (trail : Trail) (seen : List Bool) (number : ℕ) → IsTrail trail → IsViolated trail.kept.values (constraint_at trail.kept.constraints number) → HaveMarks trail (length trail.entries.items) seen (constraint_at trail.kept.constraints number).terms (length (constraint_at trail.kept.constraints number).terms) → IsExplained trail seen ([] ++ number ∷ [])
explained_first trail seen number good violated marked = record { each = each }
  where
    each : (values : List (Option Bool)) → length values ≡ length trail.kept.values → Agrees trail seen values → conflicts values (hinted trail.kept.constraints (reverse ([] ++ number ∷ []))) ≡ true
    each values size agrees =
        let now : IsViolated (before_at trail (length trail.entries.items)) (constraint_at trail.kept.constraints number) = subst (λ (vs : List (Option Bool)). IsViolated vs (constraint_at trail.kept.constraints number)) (values_all trail good) violated in
        let falls = reachable_falls (before_at trail (length trail.entries.items)) values (constraint_at trail.kept.constraints number).terms (stays_false trail (length trail.entries.items) seen (constraint_at trail.kept.constraints number).terms values good (omega arith) marked agrees) in
        ap (conflicts values) (hinted_push trail.kept.constraints [] number) ∙ conflicts_now values (constraint_at trail.kept.constraints number) (hinted trail.kept.constraints (reverse [])) (omega (arith, falls, now))

-- the value of a marked variable
pub marked_value : (trail : Trail) (top v : ℕ) → IsTrail trail → top ≤ length trail.entries.items → (entry : MarkedEntry trail top v) → value_of trail.kept.values v ≡ Some (get_or trail.entries.items entry.place no_entry).lit.positive
marked_value trail top v good within entry =
    ap (value_of trail.kept.values) (sym (entry.is no_entry)) ∙ (ap (λ (vs : List (Option Bool)). value_of vs (get_or trail.entries.items entry.place no_entry).lit.variable) (values_all trail good)
    ∙ entry_value trail.kept.constraints (length trail.kept.values) trail.entries.items good.are_steps entry.place (length trail.entries.items) no_entry (omega (arith, entry.below, within)) (omega arith))

-- the reason of the entry at the top is taken up
pub explained_resolved : (trail : Trail) (old seen : List Bool) (hints : List ℕ) (place top : ℕ) (e : Entry) → IsTrail trail → place < length trail.entries.items → get_or trail.entries.items place e ≡ e → 0 < e.reason → top ≤ length trail.entries.items → ((v : ℕ) → is_marked old v ≡ true → MarkedEntry trail top v) → ((v : ℕ) → is_marked old v ≡ true → v ≢ e.lit.variable → is_marked seen v ≡ true) → HaveMarks trail place seen (constraint_at trail.kept.constraints e.reason).terms (length (constraint_at trail.kept.constraints e.reason).terms) → IsExplained trail old hints → IsExplained trail seen (hints ++ e.reason ∷ [])
explained_resolved trail old seen hints place top e good within is some under below keeps marked explained = record { each = each }
  where
    c : AtLeast
    c = constraint_at trail.kept.constraints e.reason

    step : IsStep trail.kept.constraints (before_at trail place) e
    step = subst (λ (x : Entry). IsStep trail.kept.constraints (before_at trail place) x) is (good.are_steps place e within)

    each : (values : List (Option Bool)) → length values ≡ length trail.kept.values → Agrees trail seen values → conflicts values (hinted trail.kept.constraints (reverse (hints ++ e.reason ∷ []))) ≡ true
    each values size agrees = ap (conflicts values) (hinted_push trail.kept.constraints hints e.reason) ∙ ⊎_elim now later again
      where
        forced : (e.reason ≤ length trail.kept.constraints) × Forces (before_at trail place) (constraint_at trail.kept.constraints e.reason) e.lit
        forced = step.forced some

        most : e.lit.variable ≤ length values
        most = omega (arith, step.within, length-along (length trail.kept.values) (take place trail.entries.items), size)

        again : (reachable values (constraint_at trail.kept.constraints e.reason).terms < (constraint_at trail.kept.constraints e.reason).degree) ⊎ (value_of (with_forced values (constraint_at trail.kept.constraints e.reason)) e.lit.variable ≡ Some e.lit.positive)
        again = forces_again (before_at trail place) values (constraint_at trail.kept.constraints e.reason) e.lit forced.1 (good.keepable (e.reason - 1) (record { terms = []; degree = 0 }) (omega (arith, some, forced.0))).distinct (stays_false trail place seen (constraint_at trail.kept.constraints e.reason).terms values good (omega arith) marked agrees) step.from_one most

        now : reachable values (constraint_at trail.kept.constraints e.reason).terms < (constraint_at trail.kept.constraints e.reason).degree → conflicts values (constraint_at trail.kept.constraints e.reason ∷ hinted trail.kept.constraints (reverse hints)) ≡ true
        now h = conflicts_now values (constraint_at trail.kept.constraints e.reason) (hinted trail.kept.constraints (reverse hints)) h

        own : value_of trail.kept.values e.lit.variable ≡ Some e.lit.positive
        own = subst (λ (x : Entry). value_of trail.kept.values x.lit.variable ≡ Some x.lit.positive) is (ap (λ (vs : List (Option Bool)). value_of vs (get_or trail.entries.items place e).lit.variable) (values_all trail good) ∙ entry_value trail.kept.constraints (length trail.kept.values) trail.entries.items good.are_steps place (length trail.entries.items) e within (omega arith))

        later : value_of (with_forced values (constraint_at trail.kept.constraints e.reason)) e.lit.variable ≡ Some e.lit.positive → conflicts values (constraint_at trail.kept.constraints e.reason ∷ hinted trail.kept.constraints (reverse hints)) ≡ true
        later set_now = conflicts_later values (constraint_at trail.kept.constraints e.reason) (hinted trail.kept.constraints (reverse hints)) (explained.each (with_forced values (constraint_at trail.kept.constraints e.reason)) (length-with_forced values (constraint_at trail.kept.constraints e.reason) ∙ size) agree)
          where
            decide : (a b : ℕ) → (a ≡ b) ⊎ (a ≢ b)
            decide a b = ⊎_elim (λ lt. inr (λ s. absurd (omega arith))) (λ ge. ⊎_elim (λ gt. inr (λ s. absurd (omega arith))) (λ le. inl (omega arith)) (cases_lt b a)) (cases_lt a b)

            agree : Agrees trail old (with_forced values (constraint_at trail.kept.constraints e.reason))
            agree v m = ⊎_elim (λ s. ap (value_of (with_forced values (constraint_at trail.kept.constraints e.reason))) s ∙ (set_now ∙ (sym own ∙ ap (value_of trail.kept.values) (sym s)))) (λ apart. let value = marked_value trail top v good under (below v m) in with_forced-keeps values (constraint_at trail.kept.constraints e.reason) v _ (agrees v (keeps v m apart) ∙ value) ∙ sym value) (decide v e.lit.variable)

-- ---- marks that go

unmarked : (seen : List Bool) (v w : ℕ) → v < length seen → is_marked (set seen v false) w ≡ true → (is_marked seen w ≡ true) × (v ≢ w)
unmarked seen v w h m =
    ⊎_elim (λ same. (sym same ∙ m, λ e. absurd (false≢true (sym (get_or-set_same seen v false false h) ∙ (ap (λ (u : ℕ). is_marked (set seen v false) u) e ∙ m))))) (λ here. absurd (false≢true (sym here.1 ∙ m))) (get_or-set_cases seen v w false false)

pub still_marked : (seen : List Bool) (v w : ℕ) → is_marked seen w ≡ true → w ≢ v → is_marked (set seen v false) w ≡ true
still_marked seen v w m apart =
    ⊎_elim (λ same. same ∙ m) (λ here. absurd (apart (sym here.0))) (get_or-set_cases seen v w false false)

-- the top goes down past an entry that isn't marked any more
pub HasMarks-down : (trail : Trail) (before after : Cut) (place : ℕ) → IsTrail trail → HasMarks trail before → place + 1 ≡ before.top → after.places.items ≡ before.places.items → length after.seen.items ≡ length before.seen.items → ((v : ℕ) → is_marked after.seen.items v ≡ true → (is_marked before.seen.items v ≡ true) × ((get_or trail.entries.items place no_entry).lit.variable ≢ v)) → after.top ≡ place → after.bottom ≡ before.bottom → after.stop ≡ before.stop → HasMarks trail after
HasMarks-down trail before after place good marks one places size seen top bottom stop = record {
  all_places = ap length places ∙ marks.all_places;
  are_places = λ k d h. ap (λ (xs : List ℕ). place_in xs (get_or trail.entries.items k d).lit.variable) places ∙ marks.are_places k d h;
  all_marks = size ∙ marks.all_marks;
  within = omega (arith, top, one, marks.within);
  marked_below = below;
  stop_first = λ k d low high m. omega (arith, stop, marks.stop_first k d (omega (arith, bottom, low)) (omega (arith, top, one, high)) (seen (get_or trail.entries.items k d).lit.variable m).0);
  ordered = omega (arith, bottom, stop, marks.ordered);
}
  where
    below : (v : ℕ) → is_marked after.seen.items v ≡ true → MarkedEntry trail after.top v
    below v m =
        let entry = marks.marked_below v (seen v m).0 in
        ⊎_elim (λ lt. record { place = entry.place; below = omega (arith, lt, top); is = entry.is }) (λ ge. let at : entry.place ≡ place = omega (arith, entry.below, one, ge) in absurd ((seen v m).1 (ap (λ (k : ℕ). (get_or trail.entries.items k no_entry).lit.variable) (sym at) ∙ entry.is no_entry))) (cases_lt entry.place place)

pub unmarked_gone : (seen : List Bool) (v w : ℕ) → v < length seen → is_marked (set seen v false) w ≡ true → (is_marked seen w ≡ true) × (v ≢ w)
unmarked_gone seen v w h m = unmarked seen v w h m

pub unmarked_already : (seen : List Bool) (v w : ℕ) → is_marked seen v ≡ false → is_marked seen w ≡ true → (is_marked seen w ≡ true) × (v ≢ w)
unmarked_already seen v w none m = (m, λ e. absurd (false≢true (sym none ∙ (ap (is_marked seen) e ∙ m))))

-- ---- the clause

-- the literal of an entry, denied
denied_at : (trail : Trail) (cut : Cut) (k : ℕ) (e : Entry) (first : ℕ) → HasMarks trail cut → k < cut.top → first ≤ k → get_or trail.entries.items k e ≡ e → is_marked cut.seen.items e.lit.variable ≡ true → IsDenied trail cut first (complement e.lit)
denied_at trail cut k e first marks below h is m = record {
  from_first = omega (arith, at, h);
  below = omega (arith, at, below);
  marked = m;
  is = λ d. ap (λ (x : Entry). complement x.lit) (sym is ∙ (get_or_default trail.entries.items k e d (omega (arith, below, marks.within)) ∙ ap (λ (j : ℕ). get_or trail.entries.items j d) (sym at)));
}
  where
    at : place_in cut.places.items e.lit.variable ≡ k
    at = ap (λ (x : Entry). place_in cut.places.items x.lit.variable) (sym is) ∙ marks.are_places k e (omega (arith, below, marks.within))

lower_first : (trail : Trail) (cut : Cut) (k : ℕ) (lit : Lit) → IsDenied trail cut (k + 1) lit → IsDenied trail cut k lit
lower_first trail cut k lit denied = record { from_first = omega (arith, denied.from_first); below = denied.below; marked = denied.marked; is = denied.is }

pub IsCollected-none : (trail : Trail) (cut : Cut) (first : ℕ) → cut.top ≤ first → IsCollected trail cut first []
IsCollected-none trail cut first h = record {
  each = λ k d lt. absurd (omega arith);
  every = λ k d low high m. absurd (omega arith);
  falling = λ i j d lt within. absurd (omega arith);
}

pub IsCollected-skip : (trail : Trail) (cut : Cut) (k : ℕ) (e : Entry) (lits : List Lit) → k < length trail.entries.items → get_or trail.entries.items k e ≡ e → is_marked cut.seen.items e.lit.variable ≡ false → IsCollected trail cut (k + 1) lits → IsCollected trail cut k lits
IsCollected-skip trail cut k e lits within is none collected = record {
  each = λ i d h. lower_first trail cut k (get_or lits i d) (collected.each i d h);
  every = λ j d low high m. ⊎_elim (λ lt. collected.every j d (omega arith) high m) (λ ge. let at : j ≡ k = omega arith in let same : get_or trail.entries.items j d ≡ e = ap (λ (i : ℕ). get_or trail.entries.items i d) at ∙ (get_or_default trail.entries.items k d e within ∙ is) in absurd (false≢true (sym none ∙ subst (λ (x : Entry). is_marked cut.seen.items x.lit.variable ≡ true) same m))) (cases_lt k j);
  falling = collected.falling;
}

pub IsCollected-push : (trail : Trail) (cut : Cut) (k : ℕ) (e : Entry) (lits : List Lit) → HasMarks trail cut → k < cut.top → get_or trail.entries.items k e ≡ e → is_marked cut.seen.items e.lit.variable ≡ true → IsCollected trail cut (k + 1) lits → IsCollected trail cut k (lits ++ complement e.lit ∷ [])
IsCollected-push trail cut k e lits marks below is m collected = record {
  each = All-push (IsDenied trail cut k) lits (complement e.lit) (λ i d h. lower_first trail cut k (get_or lits i d) (collected.each i d h)) (denied_at trail cut k e k marks below (omega arith) is m);
  every = λ j d low high n. ⊎_elim (λ lt. Contains-append_left lits (complement e.lit ∷ []) _ (collected.every j d (omega arith) high n)) (λ ge. let at : j ≡ k = omega arith in let same : e ≡ get_or trail.entries.items j d = sym (ap (λ (i : ℕ). get_or trail.entries.items i d) at ∙ (get_or_default trail.entries.items k d e within ∙ is)) in subst (λ (x : Entry). Contains (lits ++ complement e.lit ∷ []) (complement x.lit)) same (Contains-push lits (complement e.lit))) (cases_lt k j);
  falling = all_pairs_push (λ (a b : Lit). place_in cut.places.items b.variable < place_in cut.places.items a.variable) lits (complement e.lit) collected.falling (λ i d h. omega (arith, at, (collected.each i d h).from_first));
}
  where
    within : k < length trail.entries.items
    within = omega (arith, below, marks.within)

    at : place_in cut.places.items e.lit.variable ≡ k
    at = ap (λ (x : Entry). place_in cut.places.items x.lit.variable) (sym is) ∙ marks.are_places k e within

-- all literals of the clause are false where it is denied
deny_value : (lits : List Lit) (values : List (Option Bool)) → All (λ l. (0 < l.variable) × (l.variable ≤ length values)) lits → AllPairs (λ a b. a.variable ≢ b.variable) lits → (j : ℕ) (d : Lit) → j < length lits → value_of (deny_all values lits) (get_or lits j d).variable ≡ Some (not (get_or lits j d).positive)
deny_value [] values among distinct j d h = absurd (omega arith)
deny_value (l ∷ lits) values among distinct zero d h =
    let here = All-head (λ (x : Lit). (0 < x.variable) × (x.variable ≤ length values)) l lits among in
    deny_others l.variable lits (make_true values (complement l)) (λ k e g s. distinct 0 (suc k) e (omega arith) (omega arith) (sym s))
    ∙ value_of-set_here values l.variable (Some (not l.positive)) here.0 here.1
deny_value (l ∷ lits) values among distinct (suc j) d h =
    deny_value lits (make_true values (complement l)) (λ k e g. rw (length-set_value values l.variable (Some (complement l).positive)) (All-tail (λ (x : Lit). (0 < x.variable) × (x.variable ≤ length values)) l lits among k e g)) (λ a b e lt g. distinct (suc a) (suc b) e (omega arith) (omega arith)) j d (omega arith)

pub has_literals : (trail : Trail) (cut : Cut) (lits : List Lit) → IsTrail trail → HasMarks trail cut → IsCollected trail cut 0 lits → HasLiterals (length trail.kept.values) lits
has_literals trail cut lits good marks collected = record {
  among = among;
  distinct = λ i j d lt h e. absurd (omega (arith, collected.falling i j d lt h, ap (place_in cut.places.items) e));
}
  where
    among : All (λ l. (0 < l.variable) × (l.variable ≤ length trail.kept.values)) lits
    among i d h =
        let denied = collected.each i d h in
        let place = place_in cut.places.items (get_or lits i d).variable in
        let step = good.are_steps (place_in cut.places.items (get_or lits i d).variable) no_entry (omega (arith, denied.below, marks.within)) in
        let same : (get_or lits i d).variable ≡ (get_or trail.entries.items (place_in cut.places.items (get_or lits i d).variable) no_entry).lit.variable = ap (λ (l : Lit). l.variable) (denied.is no_entry) in
        (omega (arith, same, step.from_one), omega (arith, same, step.within, length-along (length trail.kept.values) (take (place_in cut.places.items (get_or lits i d).variable) trail.entries.items)))

not_not : (b : Bool) → not (not b) ≡ b
not_not true = refl
not_not false = refl

-- the denied clause agrees with the marks
agrees_denied : (trail : Trail) (cut : Cut) (lits : List Lit) → IsTrail trail → HasMarks trail cut → IsCollected trail cut 0 lits → Agrees trail cut.seen.items (all_false (length trail.kept.values) lits)
agrees_denied trail cut lits good marks collected v m =
    let entry = marks.marked_below v m in
    let value = marked_value trail cut.top v good marks.within entry in
    let stands = collected.every entry.place no_entry (omega arith) entry.below (subst (λ (w : ℕ). is_marked cut.seen.items w ≡ true) (sym (entry.is no_entry)) m) in
    let has = has_literals trail cut lits good marks collected in
    let denied = deny_value lits (replicate (length trail.kept.values) None) (λ k e g. rw (length-replicate {A = Option Bool} (length trail.kept.values) None) (has.among k e g)) has.distinct stands.0 (complement (get_or trail.entries.items entry.place no_entry).lit) stands.1 in
    let at = subst (λ (l : Lit). value_of (deny_all (replicate (length trail.kept.values) None) lits) l.variable ≡ Some (not l.positive)) stands.2 denied in
    ap (value_of (all_false (length trail.kept.values) lits)) (sym (entry.is no_entry)) ∙ (at ∙ (ap Some (not_not (get_or trail.entries.items entry.place no_entry).lit.positive) ∙ sym value))

HasHints-reversed : (cs : List AtLeast) (hints : List ℕ) → HasHints cs hints → HasHints cs (reverse hints)
HasHints-reversed cs hints has k d h =
    let within : k < length hints = omega (arith, length-reverse hints, h) in
    let at : get_or (reverse hints) k d ≡ get_or hints (length hints - 1 - k) d = get_or-reverse hints k d within in
    let there = has (length hints - 1 - k) d (omega arith) in
    subst (λ (n : ℕ). (0 < n) × (n ≤ length cs)) (sym at) there

-- the line checks
pub line_checks : (trail : Trail) (cut : Cut) (line : Line) → IsTrail trail → IsCut trail cut → IsCollected trail cut 0 line.clause → line.hints ≡ reverse cut.hints.items → Checks (length trail.kept.values) trail.kept.constraints line
line_checks trail cut line good is collected hints = record {
  literals = has_literals trail cut line.clause good is.marks collected;
  hints = subst (λ (hs : List ℕ). HasHints trail.kept.constraints hs) (sym hints) (HasHints-reversed trail.kept.constraints cut.hints.items is.has_hints);
  conflict = ap (λ (hs : List ℕ). conflicts (all_false (length trail.kept.values) line.clause) (hinted trail.kept.constraints hs)) hints ∙ is.explained.each (all_false (length trail.kept.values) line.clause) (length-deny_all line.clause (replicate (length trail.kept.values) None) ∙ length-replicate {A = Option Bool} (length trail.kept.values) None) (agrees_denied trail cut line.clause good is.marks collected);
}

-- ---- the first literal is the only one of the last level

-- an entry from the start on is marked, and it is the one below the top
pub record IsUnique (trail : Trail) (cut : Cut) (start : ℕ) : Type 0 where
  pub some : start < cut.top
  pub marked : is_marked cut.seen.items (get_or trail.entries.items (cut.top - 1) no_entry).lit.variable ≡ true

before_agrees : (trail : Trail) (cut : Cut) (start : ℕ) → IsTrail trail → HasMarks trail cut → start ≤ length trail.entries.items → ((v : ℕ) (m : is_marked cut.seen.items v ≡ true) → (marks : MarkedEntry trail cut.top v) → marks.place < start) → Agrees trail cut.seen.items (before_at trail start)
before_agrees trail cut start good marks within earlier v m =
    let entry = marks.marked_below v m in
    let value = marked_value trail cut.top v good marks.within entry in
    ap (value_of (before_at trail start)) (sym (entry.is no_entry)) ∙ (entry_value trail.kept.constraints (length trail.kept.values) trail.entries.items good.are_steps entry.place start no_entry (earlier v m entry) within ∙ sym value)

pub unique : (trail : Trail) (cut : Cut) (start : ℕ) → IsTrail trail → IsCut trail cut → start < length trail.entries.items → cut.bottom ≡ start + 1 → cut.top ≤ cut.stop → IsAtRest trail.kept.constraints (before_at trail start) → IsUnique trail cut start
unique trail cut start good is within bottom done rest = ⊎_elim above below (cases_lt start cut.top)
  where
    impossible : ((v : ℕ) (m : is_marked cut.seen.items v ≡ true) → (marks : MarkedEntry trail cut.top v) → marks.place < start) → ⊥
    impossible earlier =
        let conflict = is.explained.each (before_at trail start) (length-along (length trail.kept.values) (take start trail.entries.items)) (before_agrees trail cut start good is.marks (omega arith) earlier) in
        let none = rest_no_conflict trail.kept.constraints (before_at trail start) rest (reverse cut.hints.items) (HasHints-reversed trail.kept.constraints cut.hints.items is.has_hints) in
        false≢true (sym none ∙ conflict)

    below : cut.top ≤ start → IsUnique trail cut start
    below h = absurd (impossible (λ v m entry. omega (arith, entry.below, h)))

    above : start < cut.top → IsUnique trail cut start
    above h = by (is_marked cut.seen.items (get_or trail.entries.items (cut.top - 1) no_entry).lit.variable) refl
      where
        by : (b : Bool) → is_marked cut.seen.items (get_or trail.entries.items (cut.top - 1) no_entry).lit.variable ≡ b → IsUnique trail cut start
        by true e = record { some = h; marked = e }
        by false e = absurd (impossible earlier)
          where
            earlier : (v : ℕ) (m : is_marked cut.seen.items v ≡ true) → (marks : MarkedEntry trail cut.top v) → marks.place < start
            earlier v m entry = ⊎_elim (λ lt. lt) (λ ge. late ge) (cases_lt entry.place start)
              where
                seen_at : is_marked cut.seen.items (get_or trail.entries.items entry.place no_entry).lit.variable ≡ true
                seen_at = subst (λ (w : ℕ). is_marked cut.seen.items w ≡ true) (sym (entry.is no_entry)) m

                late : start ≤ entry.place → entry.place < start
                late ge =
                    let stop = is.marks.stop_first entry.place no_entry (omega (arith, bottom, ge)) entry.below seen_at in
                    let at : entry.place ≡ cut.top - 1 = omega (arith, stop, done, entry.below) in
                    absurd (false≢true (sym e ∙ subst (λ (k : ℕ). is_marked cut.seen.items (get_or trail.entries.items k no_entry).lit.variable ≡ true) at seen_at))

pub unique_kept : (trail : Trail) (before after : Cut) (start : ℕ) → HasMarks trail before → KeepsFrom trail start before after → IsUnique trail before start → IsUnique trail after start
unique_kept trail before after start marks keeps one = record {
  some = omega (arith, one.some, keeps.top);
  marked = subst (λ (k : ℕ). is_marked after.seen.items (get_or trail.entries.items (k - 1) no_entry).lit.variable ≡ true) (sym keeps.top) (keeps.marks (before.top - 1) no_entry (omega (arith, one.some)) (omega (arith, one.some, marks.within)) one.marked);
}

complement_open : (values : List (Option Bool)) (a b : Lit) → a ≡ complement b → is_open values b ≡ true → is_open values a ≡ true
complement_open values a b e h = ap (λ (l : Lit). is_open values l) e ∙ h

true_itself : (b : Bool) → has_truth (Some b) (not (not b)) ≡ true
true_itself true = refl
true_itself false = refl

complement_false : (values : List (Option Bool)) (a b : Lit) → a ≡ complement b → value_of values b.variable ≡ Some b.positive → is_false values a ≡ true
complement_false values a b e h = ap (is_false values) e ∙ (ap (λ (o : Option Bool). has_truth o (not (not b.positive))) h ∙ true_itself b.positive)

-- a denied literal was open before its entry, and false behind it
denied_open : (trail : Trail) (cut : Cut) (lit : Lit) (m : ℕ) → IsTrail trail → HasMarks trail cut → IsDenied trail cut 0 lit → m ≤ place_in cut.places.items lit.variable → is_open (before_at trail m) lit ≡ true
denied_open trail cut lit m good marks denied h =
    let place = place_in cut.places.items lit.variable in
    let step = good.are_steps (place_in cut.places.items lit.variable) no_entry (omega (arith, denied.below, marks.within)) in
    let now = complement_open (before_at trail (place_in cut.places.items lit.variable)) lit (get_or trail.entries.items (place_in cut.places.items lit.variable) no_entry).lit (denied.is no_entry) step.was_open in
    Includes-open (before_at trail m) (before_at trail (place_in cut.places.items lit.variable)) lit (before-Includes trail.kept.constraints (length trail.kept.values) trail.entries.items good.are_steps m (place_in cut.places.items lit.variable) h (omega (arith, denied.below, marks.within))) now

denied_false : (trail : Trail) (cut : Cut) (lit : Lit) (m : ℕ) → IsTrail trail → HasMarks trail cut → IsDenied trail cut 0 lit → place_in cut.places.items lit.variable < m → m ≤ length trail.entries.items → is_false (before_at trail m) lit ≡ true
denied_false trail cut lit m good marks denied h within =
    complement_false (before_at trail m) lit (get_or trail.entries.items (place_in cut.places.items lit.variable) no_entry).lit (denied.is no_entry)
    (entry_value trail.kept.constraints (length trail.kept.values) trail.entries.items good.are_steps (place_in cut.places.items lit.variable) m no_entry h within)

pub asserting : (trail : Trail) (cut : Cut) (start : ℕ) (lits : List Lit) → IsTrail trail → HasMarks trail cut → cut.bottom ≡ start + 1 → cut.top ≤ cut.stop → IsUnique trail cut start → IsCollected trail cut 0 lits → IsAsserting trail start (floor_of cut.places.items lits) lits
asserting trail cut start [] good marks bottom done one collected =
    let stands = collected.every (cut.top - 1) no_entry (omega arith) (omega (arith, one.some)) one.marked in
    absurd (omega (arith, stands.1))
asserting trail cut start (first ∷ others) good marks bottom done one collected = by others refl
  where
    places : List ℕ
    places = cut.places.items

    place_of : Lit → ℕ
    place_of l = place_in cut.places.items l.variable

    stands : Contains (first ∷ others) (complement (get_or trail.entries.items (cut.top - 1) no_entry).lit)
    stands = collected.every (cut.top - 1) no_entry (omega arith) (omega (arith, one.some)) one.marked

    at_top : place_in cut.places.items (get_or trail.entries.items (cut.top - 1) no_entry).lit.variable ≡ cut.top - 1
    at_top = marks.are_places (cut.top - 1) no_entry (omega (arith, one.some, marks.within))

    -- the literal below the top is the first
    is_first : place_in cut.places.items first.variable ≡ cut.top - 1
    is_first = at stands.0 stands.1 stands.2
      where
        top_lit : Lit
        top_lit = complement (get_or trail.entries.items (cut.top - 1) no_entry).lit

        at : (j : ℕ) → j < length (first ∷ others) → get_or (first ∷ others) j (complement (get_or trail.entries.items (cut.top - 1) no_entry).lit) ≡ complement (get_or trail.entries.items (cut.top - 1) no_entry).lit → place_in cut.places.items first.variable ≡ cut.top - 1
        at zero h e = ap (λ (l : Lit). place_in cut.places.items l.variable) e ∙ at_top
        at (suc j) h e =
            let lower = collected.falling 0 (suc j) (complement (get_or trail.entries.items (cut.top - 1) no_entry).lit) (omega arith) h in
            let low : place_in cut.places.items (get_or others j (complement (get_or trail.entries.items (cut.top - 1) no_entry).lit)).variable ≡ cut.top - 1 = ap (λ (l : Lit). place_in cut.places.items l.variable) e ∙ at_top in
            let high = (collected.each 0 (complement (get_or trail.entries.items (cut.top - 1) no_entry).lit) (omega arith)).below in
            absurd (omega (arith, lower, low, high))

    -- the others stand before the start
    early : (j : ℕ) (d : Lit) → j < length others → place_in cut.places.items (get_or others j d).variable < start
    early j d h =
        let denied = collected.each (suc j) d (omega arith) in
        let lower = collected.falling 0 (suc j) d (omega arith) (omega arith) in
        let seen_at : is_marked cut.seen.items (get_or trail.entries.items (place_in cut.places.items (get_or others j d).variable) no_entry).lit.variable ≡ true = subst (λ (l : Lit). is_marked cut.seen.items l.variable ≡ true) (denied.is no_entry) denied.marked in
        ⊎_elim (λ lt. lt) (λ ge. let stop = marks.stop_first (place_in cut.places.items (get_or others j d).variable) no_entry (omega (arith, bottom, ge)) denied.below seen_at in absurd (omega (arith, stop, done, lower, is_first))) (cases_lt (place_in cut.places.items (get_or others j d).variable) start)

    first_open : is_open (before_at trail start) first ≡ true
    first_open = denied_open trail cut first start good marks (collected.each 0 first (omega arith)) (omega (arith, is_first, one.some))

    by : (rest : List Lit) → others ≡ rest → IsAssertingBy trail start (floor_of cut.places.items (first ∷ others)) first others
    by [] e = subst (λ (xs : List Lit). IsAssertingBy trail start (floor_of cut.places.items (first ∷ xs)) first xs) (sym e) (record {
      below = omega arith;
      first_open = first_open;
      others_false = λ k d h. absurd (omega arith);
      last_open = λ h. absurd (omega arith);
    })
    by (second ∷ more) e = subst (λ (xs : List Lit). IsAssertingBy trail start (floor_of cut.places.items (first ∷ xs)) first xs) (sym e) (with_second second more (subst (λ (xs : List Lit). IsCollected trail cut 0 (first ∷ xs)) e collected) (subst (λ (xs : List Lit). (j : ℕ) (d : Lit) → j < length xs → place_in cut.places.items (get_or xs j d).variable < start) e early))
      where
        with_second : (second : Lit) (more : List Lit) → IsCollected trail cut 0 (first ∷ (second ∷ more)) → ((j : ℕ) (d : Lit) → j < length (second ∷ more) → place_in cut.places.items (get_or (second ∷ more) j d).variable < start) → IsAssertingBy trail start (place_in cut.places.items second.variable + 1) first (second ∷ more)
        with_second second more all before = record {
          below = omega (arith, before 0 second (omega arith));
          first_open = first_open;
          others_false = λ j d h. denied_false trail cut (get_or (second ∷ more) j d) (place_in cut.places.items second.variable + 1) good marks (all.each (suc j) d (omega arith)) (not_above j d h) (omega (arith, before 0 second (omega arith), one.some, marks.within));
          last_open = λ h. (0, omega arith, λ d. subst (λ (k : ℕ). is_open (before_at trail k) second ≡ true) back (denied_open trail cut second (place_in cut.places.items second.variable) good marks (all.each 1 second (omega arith)) (omega arith)));
        }
          where
            back : place_in cut.places.items second.variable ≡ place_in cut.places.items second.variable + 1 - 1
            back = omega arith

            not_above : (j : ℕ) (d : Lit) → j < length (second ∷ more) → place_in cut.places.items (get_or (second ∷ more) j d).variable < place_in cut.places.items second.variable + 1
            not_above zero d h = omega arith
            not_above (suc j) d h = omega (arith, all.falling 1 (suc (suc j)) d (omega arith) (omega arith))

-- a clause of that kind is fresh
pub asserting_fresh : (trail : Trail) (start floor : ℕ) (lits : List Lit) → IsTrail trail → start ≤ length trail.entries.items → IsAtRest trail.kept.constraints (before_at trail start) → IsAsserting trail start floor lits → Fresh lits trail.kept.constraints
asserting_fresh trail start floor [] good within rest a = a
asserting_fresh trail start floor (first ∷ others) good within rest a = (
  before_at trail start,
  record {
    at_rest = rest;
    first_open = a.first_open;
    others_false = λ k d h. is_false-Includes (before_at trail floor) (before_at trail start) (get_or others k d) (before-Includes trail.kept.constraints (length trail.kept.values) trail.entries.items good.are_steps floor start a.below within) (a.others_false k d h);
  },
)
