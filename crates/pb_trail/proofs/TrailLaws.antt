-- Trails that grow, and that are taken back.
use Rattle.std.proofs.Common.{◌≡◌, ◌≢◌, ℕ, ◌+◌, ◌-◌, ◌^◌, ◌<◌, ◌≤◌, Bool, true, false, Vec, Global, List, [], ◌∷◌, ◌++◌, length, get_or, set, take, count_by, Option, Some, None, All, AllPairs, vec_capacity, refl, sym, ap, subst, ◌∙◌, inl, inr, ◌⊎◌, ⊎_elim, arith}
use Rattle.std.proofs.lemmas.Bool.{cases_lt}
use Rattle.std.proofs.lemmas.Bool.Decides.{nat_tests}
use Rattle.std.proofs.lemmas.List.{take_all, take-take, take-append-le, get_or-take, get_or_default, get_or_push, get_or_append_left, length-take-le, length_push, set-set, set-get_or}
use Rattle.std.proofs.lemmas.List.Elements.{All-push}
use Rattle.pb_core.specs.AtLeast.{AtLeast, clause}
use Rattle.pb_core.specs.ConstraintAt.{constraint_at}
use Rattle.pb_core.specs.KeptView.{IsKeepable}
use Rattle.pb_core.specs.Literal.{complement}
use Rattle.pb_core.specs.Occurrences.{holds_literal, occurrences_from}
use Rattle.pb_core.specs.Slack.{Forces}
use Rattle.pb_core.specs.Values.{value_of, set_value, make_true, is_open}
use Rattle.pb_core.specs.declared.literal.Lit.{Lit}
use Rattle.pb_core.specs.declared.occurrences.Occurrence.{Occurrence}
use Rattle.pb_core.proofs.KeptChanges.{open_none, keepable_clause}
use Rattle.pb_core.proofs.ValueLaws.{length-set_value, value_of-at}
use Rattle.pb_trail.specs.Along.{values_along, values_before, weight}
use Rattle.pb_trail.specs.Growth.{Extends, Grows}
use Rattle.pb_trail.specs.Rest.{Rests, IsUntouched, RestOrTouched}
use Rattle.pb_trail.specs.Trail.{IsStep, AreSteps, IsTrail, Counted}
use Rattle.pb_trail.specs.declared.trail.Entry.{Entry}
use Rattle.pb_trail.specs.declared.trail.Trail.{Trail}
use Rattle.pb_trail.proofs.AlongLaws.{no_entry, along-push, length-along, weight-push, few_entries, few_variables}
use Rattle.pb_trail.proofs.RestLaws.{rests_grown, occurs}

-- ---- steps that stay steps

IsStep-same : (cs cs' : List AtLeast) (vs vs' : List (Option Bool)) (e e' : Entry) → cs ≡ cs' → vs ≡ vs' → e ≡ e' → IsStep cs vs e → IsStep cs' vs' e'
IsStep-same cs cs' vs vs' e e' p q r s =
    subst (λ (x : Entry). IsStep cs' vs' x) r (subst (λ (x : List (Option Bool)). IsStep cs' x e) q (subst (λ (x : List AtLeast). IsStep x vs e) p s))

AreSteps-push : (cs : List AtLeast) (n : ℕ) (es : List Entry) (e : Entry) → AreSteps cs n es → IsStep cs (values_along n es) e → AreSteps cs n (es ++ e ∷ [])
AreSteps-push cs n es e are step k d h = ⊎_elim old new (cases_lt k (length es))
  where
    old : k < length es → IsStep cs (values_before n (es ++ e ∷ []) k) (get_or (es ++ e ∷ []) k d)
    old lt = IsStep-same cs cs _ _ _ _ refl (ap (values_along n) (sym (take-append-le k es (e ∷ []) (omega arith)))) (sym (get_or_append_left es (e ∷ []) d k lt)) (are k d lt)

    new : length es ≤ k → IsStep cs (values_before n (es ++ e ∷ []) k) (get_or (es ++ e ∷ []) k d)
    new ge =
        let here : length es ≡ k = omega (arith, length_push es e) in
        IsStep-same cs cs _ _ _ _ refl (ap (values_along n) (sym (take-append-le k es (e ∷ []) (omega arith) ∙ take_all k es (omega arith)))) (sym (get_or_push es e d k here)) step

AreSteps-take : (cs : List AtLeast) (n : ℕ) (es : List Entry) (m : ℕ) → m ≤ length es → AreSteps cs n es → AreSteps cs n (take m es)
AreSteps-take cs n es m h are k d within =
    let size : length (take m es) ≡ m = length-take-le m es h in
    let lt : k < m = omega (arith, size, within) in
    IsStep-same cs cs _ _ _ _ refl (ap (values_along n) (sym (take-take k m es (omega arith)))) (sym (get_or-take m es k d lt)) (are k d (omega arith))

constraint_at-push : (cs : List AtLeast) (c : AtLeast) (r : ℕ) → 0 < r → r ≤ length cs → constraint_at (cs ++ c ∷ []) r ≡ constraint_at cs r
constraint_at-push cs c r some most = get_or_append_left cs (c ∷ []) (record { terms = []; degree = 0 }) (r - 1) (omega arith)

AreSteps-added : (cs : List AtLeast) (c : AtLeast) (n : ℕ) (es : List Entry) → AreSteps cs n es → AreSteps (cs ++ c ∷ []) n es
AreSteps-added cs c n es are k d h =
    let step = are k d h in
    record {
      from_one = step.from_one;
      within = step.within;
      was_open = step.was_open;
      forced = λ some. let forced = step.forced some in (
        omega (arith, length_push cs c, forced.0),
        subst (λ (x : AtLeast). Forces (values_before n es k) x (get_or es k d).lit) (sym (constraint_at-push cs c (get_or es k d).reason some forced.0)) forced.1,
      );
    }

-- ---- trails

AreSteps-same : (cs cs' : List AtLeast) (n n' : ℕ) (es es' : List Entry) → cs ≡ cs' → n ≡ n' → es ≡ es' → AreSteps cs n es → AreSteps cs' n' es'
AreSteps-same cs cs' n n' es es' p q r s =
    subst (λ (x : List Entry). AreSteps cs' n' x) r (subst (λ (x : ℕ). AreSteps cs' x es) q (subst (λ (x : List AtLeast). AreSteps x n es) p s))

keepable_same : (cs cs' : List AtLeast) (n n' : ℕ) → cs ≡ cs' → n ≡ n' → All (IsKeepable n) cs → All (IsKeepable n') cs'
keepable_same cs cs' n n' p q s =
    subst (λ (x : ℕ). All (IsKeepable x) cs') q (subst (λ (x : List AtLeast). All (IsKeepable n) x) p s)

pub IsTrail-pushed : (before after : Trail) (e : Entry) → IsTrail before → IsStep before.kept.constraints before.kept.values e → after.kept.constraints ≡ before.kept.constraints → after.kept.values ≡ make_true before.kept.values e.lit → after.entries.items ≡ before.entries.items ++ e ∷ [] → vec_capacity after.entries ≡ vec_capacity before.entries → IsTrail after
IsTrail-pushed before after e good step constraints values items capacity = record {
  along = values ∙ (ap (λ (vs : List (Option Bool)). make_true vs e.lit) good.along ∙ (sym (along-push (length before.kept.values) before.entries.items e) ∙ (ap (values_along (length before.kept.values)) (sym items) ∙ ap (λ (m : ℕ). values_along m after.entries.items) (sym size))));
  are_steps = AreSteps-same _ _ _ _ _ _ (sym constraints) (sym size) (sym items) (AreSteps-push before.kept.constraints (length before.kept.values) before.entries.items e good.are_steps (subst (λ (vs : List (Option Bool)). IsStep before.kept.constraints vs e) good.along step));
  keepable = keepable_same _ _ _ _ (sym constraints) (sym size) good.keepable;
  few_variables = omega (arith, size, good.few_variables);
  few = omega (arith, ap length constraints, good.few);
  room = omega (arith, size, capacity, good.room);
}
  where
    size : length after.kept.values ≡ length before.kept.values
    size = ap length values ∙ length-set_value before.kept.values e.lit.variable (Some e.lit.positive)

pub Extends-pushed : (before after : Trail) (e : Entry) → after.kept.constraints ≡ before.kept.constraints → after.kept.values ≡ make_true before.kept.values e.lit → after.entries.items ≡ before.entries.items ++ e ∷ [] → Extends before after
Extends-pushed before after e constraints values items = record {
  constraints = constraints;
  variables = ap length values ∙ length-set_value before.kept.values e.lit.variable (Some e.lit.positive);
  longer = omega (arith, ap length items, length_push before.entries.items e);
  same = ap (take (length before.entries.items)) items ∙ (take-append-le (length before.entries.items) before.entries.items (e ∷ []) (omega arith) ∙ take_all (length before.entries.items) before.entries.items (omega arith));
}

pub Counted-pushed : (before : Trail) (after : List Entry) (e : Entry) (first last : ℕ) → after ≡ before.entries.items ++ e ∷ [] → last ≡ first + count_by (holds_literal (complement e.lit)) before.kept.constraints → last + weight before.kept.constraints before.entries.items ≡ first + weight before.kept.constraints after
Counted-pushed before after e first last items is =
    let more = ap (weight before.kept.constraints) items ∙ weight-push before.kept.constraints before.entries.items e in
    omega (arith, more, is)

-- the values are those before a place
pub IsTrail-cut : (before after : Trail) (m : ℕ) → IsTrail before → m ≤ length before.entries.items → after.kept.constraints ≡ before.kept.constraints → after.kept.values ≡ values_before (length before.kept.values) before.entries.items m → after.entries.items ≡ take m before.entries.items → vec_capacity after.entries ≡ vec_capacity before.entries → IsTrail after
IsTrail-cut before after m good within constraints values items capacity = record {
  along = values ∙ (ap (values_along (length before.kept.values)) (sym items) ∙ ap (λ (k : ℕ). values_along k after.entries.items) (sym size));
  are_steps = AreSteps-same _ _ _ _ _ _ (sym constraints) (sym size) (sym items) (AreSteps-take before.kept.constraints (length before.kept.values) before.entries.items m within good.are_steps);
  keepable = keepable_same _ _ _ _ (sym constraints) (sym size) good.keepable;
  few_variables = omega (arith, size, good.few_variables);
  few = omega (arith, ap length constraints, good.few);
  room = omega (arith, size, capacity, good.room);
}
  where
    size : length after.kept.values ≡ length before.kept.values
    size = ap length values ∙ length-along (length before.kept.values) (take m before.entries.items)

-- the value that a step gave is taken away again
pub cleared : (values : List (Option Bool)) (lit : Lit) → is_open values lit ≡ true → set_value (make_true values lit) lit.variable None ≡ values
cleared values lit unset = by lit.variable (open_none _ unset)
  where
    at : (v : ℕ) → 0 < v → value_of values v ≡ None → get_or values (v - 1) None ≡ None
    at v some e = sym (value_of-at values v some) ∙ e

    by : (v : ℕ) → value_of values v ≡ None → set_value (set_value values v (Some lit.positive)) v None ≡ values
    by v e = ⊎_elim (λ some. positive v some (at v some e)) (λ none. zero_case v none) (cases_lt 0 v)
      where
        positive : (v : ℕ) → 0 < v → get_or values (v - 1) None ≡ None → set_value (set_value values v (Some lit.positive)) v None ≡ values
        positive v some e =
            let twice = set-set values (v - 1) (Some lit.positive) None in
            let back : set values (v - 1) None ≡ values = ap (set values (v - 1)) (sym e) ∙ set-get_or values (v - 1) None in
            grind (arith, nat_tests)

        zero_case : (v : ℕ) → v ≤ 0 → set_value (set_value values v (Some lit.positive)) v None ≡ values
        zero_case v none = grind (arith, nat_tests)

-- what the last entry was made true from
pub last_values : (trail : Trail) (rest : List Entry) (e : Entry) → IsTrail trail → trail.entries.items ≡ rest ++ e ∷ [] → (trail.kept.values ≡ make_true (values_along (length trail.kept.values) rest) e.lit) × IsStep trail.kept.constraints (values_along (length trail.kept.values) rest) e
last_values trail rest e good items =
    let size : length trail.entries.items ≡ length rest + 1 = ap length items ∙ length_push rest e in
    let step = good.are_steps (length rest) no_entry (omega arith) in
    let before : take (length rest) trail.entries.items ≡ rest = ap (take (length rest)) items ∙ (take-append-le (length rest) rest (e ∷ []) (omega arith) ∙ take_all (length rest) rest (omega arith)) in
    let here : get_or trail.entries.items (length rest) no_entry ≡ e = ap (λ (es : List Entry). get_or es (length rest) no_entry) items ∙ get_or_push rest e no_entry (length rest) refl in (
      good.along ∙ (ap (values_along (length trail.kept.values)) items ∙ along-push (length trail.kept.values) rest e),
      IsStep-same _ _ _ _ _ _ refl (ap (values_along (length trail.kept.values)) before) here step,
    )

pub IsTrail-added : (before after : Trail) (lits : List Lit) → IsTrail before → All (λ l. (0 < l.variable) × (l.variable ≤ length before.kept.values)) lits → AllPairs (λ a b. a.variable ≢ b.variable) lits → length before.kept.constraints < 2000000000 → after.kept.constraints ≡ before.kept.constraints ++ clause lits ∷ [] → after.kept.values ≡ before.kept.values → after.entries ≡ before.entries → IsTrail after
IsTrail-added before after lits good among distinct few constraints values entries = record {
  along = values ∙ (good.along ∙ (ap (values_along (length before.kept.values)) (sym items) ∙ ap (λ (m : ℕ). values_along m after.entries.items) (sym size)));
  are_steps = AreSteps-same _ _ _ _ _ _ (sym constraints) (sym size) (sym items) (AreSteps-added before.kept.constraints (clause lits) (length before.kept.values) before.entries.items good.are_steps);
  keepable = keepable_same _ _ _ _ (sym constraints) (sym size) (All-push (IsKeepable (length before.kept.values)) before.kept.constraints (clause lits) good.keepable (keepable_clause (length before.kept.values) lits among distinct short));
  few_variables = omega (arith, size, good.few_variables);
  few = omega (arith, ap length constraints, length_push before.kept.constraints (clause lits), few);
  room = omega (arith, size, ap vec_capacity entries, good.room);
}
  where
    size : length after.kept.values ≡ length before.kept.values
    size = ap length values

    items : after.entries.items ≡ before.entries.items
    items = ap (λ (v : Vec Entry Global). v.items) entries

    short : length lits ≤ 2 ^ 60
    short = omega (arith, few_variables (λ (l : Lit). l.variable) (length before.kept.values) lits among (λ i j d lt h. distinct i j d lt h) (record { variable = 0; positive = false }), good.few_variables)

pub trail_short : (trail : Trail) → IsTrail trail → length trail.entries.items ≤ length trail.kept.values
trail_short trail good = few_entries trail.kept.constraints (length trail.kept.values) trail.entries.items good.are_steps

-- ---- growth

pub Extends-itself : (trail : Trail) → Extends trail trail
Extends-itself trail = record { constraints = refl; variables = refl; longer = omega arith; same = take_all (length trail.entries.items) trail.entries.items (omega arith) }

pub Grows-itself : (trail : Trail) → Grows trail trail
Grows-itself trail = record { extends = Extends-itself trail; reasons = λ k d h within. absurd (omega arith) }

pub Extends-through : (a b c : Trail) → Extends a b → Extends b c → Extends a c
Extends-through a b c e f = record {
  constraints = f.constraints ∙ e.constraints;
  variables = f.variables ∙ e.variables;
  longer = omega (arith, e.longer, f.longer);
  same = sym (take-take (length a.entries.items) (length b.entries.items) c.entries.items e.longer) ∙ (ap (take (length a.entries.items)) f.same ∙ e.same);
}

-- an entry stays where it is
pub entry_kept : (before after : Trail) → Extends before after → (k : ℕ) (d : Entry) → k < length before.entries.items → get_or after.entries.items k d ≡ get_or before.entries.items k d
entry_kept before after e k d h =
    sym (get_or-take (length before.entries.items) after.entries.items k d h) ∙ ap (λ (es : List Entry). get_or es k d) e.same

pub Grows-through : (a b c : Trail) → Grows a b → Grows b c → Grows a c
Grows-through a b c e f = record {
  extends = Extends-through a b c e.extends f.extends;
  reasons = λ k d h within. ⊎_elim (λ lt. subst (λ (x : Entry). 0 < x.reason) (sym (entry_kept b c f.extends k d lt)) (e.reasons k d h lt)) (λ ge. f.reasons k d ge within) (cases_lt k (length b.entries.items));
}

pub Grows-pushed : (before after : Trail) (e : Entry) → Extends before after → after.entries.items ≡ before.entries.items ++ e ∷ [] → 0 < e.reason → Grows before after
Grows-pushed before after e extends items some = record {
  extends = extends;
  reasons = λ k d h within. let size = ap length items ∙ length_push before.entries.items e in let here : length before.entries.items ≡ k = omega (arith, size, h, within) in let at : get_or after.entries.items k d ≡ e = ap (λ (es : List Entry). get_or es k d) items ∙ get_or_push before.entries.items e d k here in subst (λ (x : Entry). 0 < x.reason) (sym at) some;
}

pub Counted-through : (a b c : Trail) (x y z : ℕ) → b.kept.constraints ≡ a.kept.constraints → Counted a b x y → Counted b c y z → Counted a c x z
Counted-through a b c x y z same e f =
    let f' = subst (λ (cs : List AtLeast). z + weight cs b.entries.items ≡ y + weight cs c.entries.items) same f in
    omega (arith, e, f')

-- ---- one visit of a pass

-- Each constraint rests that no entry behind the place touched, and that none of the occurrences from one on is of.
pub record RestBesides (trail : Trail) (place i : ℕ) (lit : Lit) : Type 0 where
  pub each : (n : ℕ) → 0 < n → n ≤ length trail.kept.constraints → ((j : ℕ) (o : Occurrence) → i ≤ j → j < length (occurrences_from 1 lit trail.kept.constraints) → (get_or (occurrences_from 1 lit trail.kept.constraints) j o).number ≢ n) → IsUntouched trail.entries.items (place + 1) (constraint_at trail.kept.constraints n) → Rests trail.kept.values (constraint_at trail.kept.constraints n)

untouched_longer : (before after : Trail) → Extends before after → (i : ℕ) (c : AtLeast) → IsUntouched after.entries.items i c → IsUntouched before.entries.items i c
untouched_longer before after e i c quiet k d h within =
    subst (λ (x : Entry). holds_literal (complement x.lit) c ≡ false) (entry_kept before after e k d within) (quiet k d h (omega (arith, e.longer, within)))

untouched_from : (es : List Entry) (i j : ℕ) (c : AtLeast) → i ≤ j → IsUntouched es i c → IsUntouched es j c
untouched_from es i j c h quiet k d g within = quiet k d (omega arith) within

-- what rested before rests still, where nothing behind a place touched it
pub rests_still : (before after : Trail) (n i : ℕ) → IsTrail before → IsTrail after → Extends before after → i ≤ length before.entries.items → IsUntouched after.entries.items i (constraint_at after.kept.constraints n) → (IsUntouched before.entries.items i (constraint_at before.kept.constraints n) → Rests before.kept.values (constraint_at before.kept.constraints n)) → Rests after.kept.values (constraint_at after.kept.constraints n)
rests_still before after n i good longer extends within quiet was =
    let same : constraint_at after.kept.constraints n ≡ constraint_at before.kept.constraints n = ap (λ (cs : List AtLeast). constraint_at cs n) extends.constraints in
    let quiet' : IsUntouched after.entries.items i (constraint_at before.kept.constraints n) = subst (λ (c : AtLeast). IsUntouched after.entries.items i c) same quiet in
    subst (λ (c : AtLeast). Rests after.kept.values c) (sym same)
    (rests_grown before after (constraint_at before.kept.constraints n) good longer extends (untouched_from after.entries.items i (length before.entries.items) (constraint_at before.kept.constraints n) within quiet')
    (was (untouched_longer before after extends i (constraint_at before.kept.constraints n) quiet')))

-- a constraint that holds the literal of an entry has an occurrence
pub RestBesides-begins : (trail : Trail) (place : ℕ) (d : Entry) → place < length trail.entries.items → RestOrTouched trail place → RestBesides trail place 0 (complement (get_or trail.entries.items place d).lit)
RestBesides-begins trail place d within rest = record { each = each }
  where
    each : (n : ℕ) → 0 < n → n ≤ length trail.kept.constraints → ((j : ℕ) (o : Occurrence) → 0 ≤ j → j < length (occurrences_from 1 (complement (get_or trail.entries.items place d).lit) trail.kept.constraints) → (get_or (occurrences_from 1 (complement (get_or trail.entries.items place d).lit) trail.kept.constraints) j o).number ≢ n) → IsUntouched trail.entries.items (place + 1) (constraint_at trail.kept.constraints n) → Rests trail.kept.values (constraint_at trail.kept.constraints n)
    each n some most apart quiet = rest n some most from_here
      where
        c : AtLeast
        c = constraint_at trail.kept.constraints n

        here : (b : Bool) → holds_literal (complement (get_or trail.entries.items place d).lit) (constraint_at trail.kept.constraints n) ≡ b → holds_literal (complement (get_or trail.entries.items place d).lit) (constraint_at trail.kept.constraints n) ≡ false
        here false e = e
        here true e =
            let found = occurs 1 (complement (get_or trail.entries.items place d).lit) trail.kept.constraints (n - 1) (record { terms = []; degree = 0 }) (omega arith) e in
            let none : Occurrence = record { number = 0; coef = 0 } in
            absurd (apart found.place none (omega arith) found.within (found.is none ∙ omega arith))

        from_here : IsUntouched trail.entries.items place (constraint_at trail.kept.constraints n)
        from_here k e h inside = ⊎_elim (λ lt. quiet k e (omega arith) inside) (λ ge. let at : place ≡ k = omega arith in subst (λ (m : ℕ). holds_literal (complement (get_or trail.entries.items m e).lit) (constraint_at trail.kept.constraints n) ≡ false) at (subst (λ (x : Entry). holds_literal (complement x.lit) (constraint_at trail.kept.constraints n) ≡ false) (get_or_default trail.entries.items place d e within) (here _ refl))) (cases_lt place k)

pub RestBesides-visited : (before after : Trail) (place i number : ℕ) (lit : Lit) (o : Occurrence) → IsTrail before → IsTrail after → Extends before after → place < length before.entries.items → i < length (occurrences_from 1 lit before.kept.constraints) → number ≡ (get_or (occurrences_from 1 lit before.kept.constraints) i o).number → RestBesides before place i lit → Rests after.kept.values (constraint_at before.kept.constraints number) → RestBesides after place (i + 1) lit
RestBesides-visited before after place i number lit o good longer extends within inside is rest visited = record { each = each }
  where
    list : List Occurrence
    list = occurrences_from 1 lit before.kept.constraints

    each : (n : ℕ) → 0 < n → n ≤ length after.kept.constraints → ((j : ℕ) (p : Occurrence) → i + 1 ≤ j → j < length (occurrences_from 1 lit after.kept.constraints) → (get_or (occurrences_from 1 lit after.kept.constraints) j p).number ≢ n) → IsUntouched after.entries.items (place + 1) (constraint_at after.kept.constraints n) → Rests after.kept.values (constraint_at after.kept.constraints n)
    each n some most apart quiet = ⊎_elim same other (cases n number)
      where
        cases : (a b : ℕ) → (a ≡ b) ⊎ (a ≢ b)
        cases a b = ⊎_elim (λ lt. inr (λ e. absurd (omega arith))) (λ ge. ⊎_elim (λ gt. inr (λ e. absurd (omega arith))) (λ le. inl (omega arith)) (cases_lt b a)) (cases_lt a b)

        same : n ≡ number → Rests after.kept.values (constraint_at after.kept.constraints n)
        same e = subst (λ (c : AtLeast). Rests after.kept.values c) (ap (constraint_at before.kept.constraints) (sym e) ∙ ap (λ (cs : List AtLeast). constraint_at cs n) (sym extends.constraints)) visited

        earlier : (j : ℕ) (p : Occurrence) → i ≤ j → j < length (occurrences_from 1 lit before.kept.constraints) → n ≢ number → (get_or (occurrences_from 1 lit before.kept.constraints) j p).number ≢ n
        earlier j p h lt ne e = ⊎_elim (λ later. (subst (λ (cs : List AtLeast). j < length (occurrences_from 1 lit cs) → (get_or (occurrences_from 1 lit cs) j p).number ≢ n) extends.constraints (apart j p (omega arith))) lt e) (λ here. let at : i ≡ j = omega arith in ne (sym (is ∙ (ap (λ (x : Occurrence). x.number) (get_or_default (occurrences_from 1 lit before.kept.constraints) i o p inside ∙ ap (λ (m : ℕ). get_or (occurrences_from 1 lit before.kept.constraints) m p) at) ∙ e)))) (cases_lt i j)

        other : n ≢ number → Rests after.kept.values (constraint_at after.kept.constraints n)
        other ne = rests_still before after n (place + 1) good longer extends (omega arith) quiet (λ q. rest.each n some (omega (arith, most, ap length extends.constraints)) (λ j p h lt. earlier j p h lt ne) q)

pub RestBesides-ends : (trail : Trail) (place i : ℕ) (lit : Lit) → length (occurrences_from 1 lit trail.kept.constraints) ≤ i → RestBesides trail place i lit → RestOrTouched trail (place + 1)
RestBesides-ends trail place i lit all rest n some most quiet = rest.each n some most (λ j o h lt. absurd (omega arith)) quiet
