-- Values that are taken back, and hints that force literals one after the other.
use Rattle.std.proofs.Common.{◌≡◌, ◌≢◌, ℕ, ◌+◌, ◌<◌, ◌≤◌, Bool, true, false, cond, ltb, ◌&&◌, List, [], ◌∷◌, ◌++◌, length, get_or, take, fold, replicate, Option, Some, None, Contains, All, AllPairs, ◌⊎◌, inl, inr, ⊎_elim, refl, sym, ap, ◌∙◌, arith}
use Rattle.std.proofs.lemmas.Bool.Decides.{nat_tests}
use Rattle.std.proofs.lemmas.List.{same_lists, get_or_default, get_or-replicate, length-replicate, get_or-take, length-take, length_push, get_or_append_left}
use Rattle.std.proofs.lemmas.List.Elements.{Contains-push, Contains-push_cases, All-contains, All-head, All-tail}
use Rattle.std.proofs.lemmas.List.Sums.{fold_more}
use Rattle.pb_core.specs.AtLeast.{AtLeast}
use Rattle.pb_core.specs.Slack.{reachable}
use Rattle.pb_core.specs.Values.{value_of, set_value, make_true, is_open}
use Rattle.pb_core.specs.declared.literal.Term.{Term}
use Rattle.pb_core.proofs.ValueLaws.{value_of-at, value_of-set_value, value_of-set_here, value_of-set_elsewhere, length-set_value}
use Rattle.deriv_check.specs.HintRule.{is_forced}
use Rattle.deriv_check.specs.Trail.{Covers}

-- the last variable of the trail is made open
pub Covers-popped : (values : List (Option Bool)) (rest : List ℕ) (v : ℕ) → Covers values (rest ++ v ∷ []) → Covers (set_value values v None) rest
Covers-popped values rest v covers = record { each = each; among = among }
  where
    last : (0 < v) × (v ≤ length values)
    last = All-contains (λ u. (0 < u) × (u ≤ length values)) (rest ++ v ∷ []) v covers.among (Contains-push rest v)

    opened : (w : ℕ) → value_of values w ≡ None → value_of (set_value values v None) w ≡ None
    opened w none = ⊎_elim (λ same. same ∙ none) (λ here. here.1) (value_of-set_value values v w None)

    found : (w : ℕ) → Contains (rest ++ v ∷ []) w → (value_of (set_value values v None) w ≡ None) ⊎ Contains rest w
    found w c = ⊎_elim (λ before. inr before) (λ here. inl (rw (← here) (value_of-set_here values v None last.0 last.1))) (Contains-push_cases rest v w c)

    each : (w : ℕ) → (value_of (set_value values v None) w ≡ None) ⊎ Contains rest w
    each w = ⊎_elim (λ none. inl (opened w none)) (λ c. found w c) (covers.each w)

    among : All (λ u. (0 < u) × (u ≤ length (set_value values v None))) rest
    among k d h =
        let before = covers.among k d (omega (arith, length_push rest v)) in
        let at : get_or (rest ++ v ∷ []) k d ≡ get_or rest k d = get_or_append_left rest (v ∷ []) d k h in
        rw (length-set_value values v None) (rw at at before)

-- with an empty trail all variables are open
pub Covers-nothing : (values : List (Option Bool)) (trail : List ℕ) → Covers values trail → length trail ≡ 0 → values ≡ replicate (length values) None
Covers-nothing values trail covers empty =
    same_lists values (replicate (length values) None) (sym (length-replicate (length values) None)) (λ k d h. get_or_default values k d None h ∙ (sym (at k) ∙ (none k ∙ sym (get_or-replicate (length values) k None d h))))
  where
    at : (k : ℕ) → value_of values (k + 1) ≡ get_or values k None
    at k = value_of-at values (k + 1) (omega arith) ∙ ap (λ n. get_or values n None) (omega arith)

    none : (k : ℕ) → value_of values (k + 1) ≡ None
    none k = ⊎_elim (λ e. e) (λ c. absurd (omega (arith, c.1))) (covers.each (k + 1))

-- ---- what one constraint forces

abbrev pub force : List (Option Bool) → AtLeast → List (Option Bool) → Term → List (Option Bool)
force start c later t = cond (is_forced start c t) (make_true later t.lit) later

untouched : (start : List (Option Bool)) (c : AtLeast) (w : ℕ) (terms : List Term) (later : List (Option Bool)) → All (λ t. t.lit.variable ≢ w) terms → value_of (fold (force start c) later terms) w ≡ value_of later w
untouched start c w [] later apart = refl
untouched start c w (t ∷ terms) later apart =
    untouched start c w terms (force start c later t) (All-tail (λ (u : Term). u.lit.variable ≢ w) t terms apart) ∙ by (is_forced start c t)
  where
    by : (b : Bool) → value_of (cond b (make_true later t.lit) later) w ≡ value_of later w
    by true = value_of-set_elsewhere later t.lit.variable w (Some t.lit.positive) (λ e. All-head (λ (u : Term). u.lit.variable ≢ w) t terms apart (sym e))
    by false = refl

lt_same : (room reach degree coef : ℕ) → room + degree ≡ reach → ltb room coef ≡ ltb reach (degree + coef)
lt_same room reach degree coef e = grind (arith, nat_tests)

pub force_step : (start later next : List (Option Bool)) (c : AtLeast) (i room : ℕ) (t : Term) (b : Bool) → i < length c.terms → t ≡ get_or c.terms i t → AllPairs (λ t u. t.lit.variable ≢ u.lit.variable) c.terms → room + c.degree ≡ reachable start c.terms → later ≡ fold (force start c) start (take i c.terms) → b ≡ (is_open later t.lit && ltb room t.coef) → next ≡ cond b (make_true later t.lit) later → next ≡ fold (force start c) start (take (i + 1) c.terms)
force_step start later next c i room t b within is distinct reach state test after =
    after ∙ (rw (test, same_test) refl ∙ sym more)
  where
    earlier : All (λ u. u.lit.variable ≢ t.lit.variable) (take i c.terms)
    earlier k d h =
        let lt : k < i = omega (arith, rw length-take at h) in
        let at_last : get_or c.terms i d ≡ t = get_or_default c.terms i d t within ∙ sym is in
        let before : (get_or c.terms k d).lit.variable ≢ t.lit.variable = rw at_last at (distinct k i d lt within) in
        rw (get_or-take i c.terms k d lt) before

    value : value_of later t.lit.variable ≡ value_of start t.lit.variable
    value = rw state (untouched start c t.lit.variable (take i c.terms) start earlier)

    same_test : (is_open later t.lit && ltb room t.coef) ≡ is_forced start c t
    same_test = rw (value, lt_same room (reachable start c.terms) c.degree t.coef reach) refl

    more : fold (force start c) start (take (i + 1) c.terms) ≡ cond (is_forced start c t) (make_true later t.lit) later
    more = fold_more (force start c) start c.terms i t within ∙ rw (← is, ← state) refl
