-- Hints that come to a conflict.
use Rattle.std.proofs.Common.{◌≡◌, ◌≢◌, ℕ, zero, suc, ◌+◌, ◌-◌, ◌<◌, ◌≤◌, Bool, true, false, cond, ltb, ◌&&◌, ◌||◌, List, [], ◌∷◌, ◌++◌, length, get_or, fold, reverse, Option, Some, is_none, All, AllPairs, refl, sym, ap, subst, ◌∙◌, inl, inr, ◌⊎◌, arith}
use Rattle.std.proofs.lemmas.Bool.{false≢true}
use Rattle.std.proofs.lemmas.Bool.Decides.{nat_tests}
use Rattle.std.proofs.lemmas.List.{reverse-append, get_or_default}
use Rattle.std.proofs.lemmas.List.Elements.{All-head, All-tail}
use Rattle.std.proofs.lemmas.List.Sums.{sum_by-cons}
use Rattle.pb_core.specs.AtLeast.{AtLeast}
use Rattle.pb_core.specs.ConstraintAt.{constraint_at}
use Rattle.pb_core.specs.Propagates.{IsAtRest}
use Rattle.pb_core.specs.Slack.{reachable, IsViolated, Forces}
use Rattle.pb_core.specs.Values.{value_of, make_true, is_open, is_false}
use Rattle.pb_core.specs.declared.literal.Lit.{Lit}
use Rattle.pb_core.specs.declared.literal.Term.{Term}
use Rattle.pb_core.proofs.ValueLaws.{Truth, open_one, true_one, false_one, truth_of, open_not_false, length-set_value, value_of-set_here, value_of-set_elsewhere}
use Rattle.deriv_check.specs.HintRule.{is_forced, with_forced, conflicts}
use Rattle.deriv_check.specs.LineRule.{HasHints, hinted}

-- ---- what can be reached, where more is false

cond_falls : (less more : Bool) (coef : ℕ) → (less ≡ true → more ≡ true) → cond more 0 coef ≤ cond less 0 coef
cond_falls true true coef e = omega arith
cond_falls true false coef e = absurd (false≢true (e refl))
cond_falls false true coef e = omega arith
cond_falls false false coef e = omega arith

abbrev pub StaysFalse : List (Option Bool) → List (Option Bool) → Term → Type 0
StaysFalse before after t = is_false before t.lit ≡ true → is_false after t.lit ≡ true

pub reachable_falls : (before after : List (Option Bool)) (terms : List Term) → All (StaysFalse before after) terms → reachable after terms ≤ reachable before terms
reachable_falls before after [] stays = omega arith
reachable_falls before after (t ∷ terms) stays =
    let rest = reachable_falls before after terms (All-tail (StaysFalse before after) t terms stays) in
    let here = cond_falls (is_false before t.lit) (is_false after t.lit) t.coef (All-head (StaysFalse before after) t terms stays) in
    let one = sum_by-cons (λ (u : Term). cond (is_false after u.lit) 0 u.coef) t terms in
    let two = sum_by-cons (λ (u : Term). cond (is_false before u.lit) 0 u.coef) t terms in
    omega arith

lost_at : (less more : Bool) (coef : ℕ) → less ≡ false → more ≡ true → cond more 0 coef + coef ≤ cond less 0 coef
lost_at true more coef e f = cc
lost_at false true coef e f = omega arith
lost_at false false coef e f = cc

reachable_loses : (before after : List (Option Bool)) (terms : List Term) (i : ℕ) (d : Term) → i < length terms → All (StaysFalse before after) terms → is_false before (get_or terms i d).lit ≡ false → is_false after (get_or terms i d).lit ≡ true → reachable after terms + (get_or terms i d).coef ≤ reachable before terms
reachable_loses before after [] i d within stays e f = absurd (omega arith)
reachable_loses before after (t ∷ terms) zero d within stays e f =
    let rest = reachable_falls before after terms (All-tail (StaysFalse before after) t terms stays) in
    let here = lost_at (is_false before t.lit) (is_false after t.lit) t.coef e f in
    let one = sum_by-cons (λ (u : Term). cond (is_false after u.lit) 0 u.coef) t terms in
    let two = sum_by-cons (λ (u : Term). cond (is_false before u.lit) 0 u.coef) t terms in
    omega arith
reachable_loses before after (t ∷ terms) (suc i) d within stays e f =
    let rest = reachable_loses before after terms i d (omega arith) (All-tail (StaysFalse before after) t terms stays) e f in
    let here = cond_falls (is_false before t.lit) (is_false after t.lit) t.coef (All-head (StaysFalse before after) t terms stays) in
    let one = sum_by-cons (λ (u : Term). cond (is_false after u.lit) 0 u.coef) t terms in
    let two = sum_by-cons (λ (u : Term). cond (is_false before u.lit) 0 u.coef) t terms in
    omega arith

-- ---- what one constraint forces

abbrev force : List (Option Bool) → AtLeast → List (Option Bool) → Term → List (Option Bool)
force start c later t = cond (is_forced start c t) (make_true later t.lit) later

length-force : (start : List (Option Bool)) (c : AtLeast) (t : Term) (later : List (Option Bool)) → length (force start c later t) ≡ length later
length-force start c t later = by (is_forced start c t)
  where
    by : (b : Bool) → length (cond b (make_true later t.lit) later) ≡ length later
    by true = length-set_value later t.lit.variable (Some t.lit.positive)
    by false = refl

length-forced : (start : List (Option Bool)) (c : AtLeast) (terms : List Term) (later : List (Option Bool)) → length (fold (force start c) later terms) ≡ length later
length-forced start c [] later = refl
length-forced start c (t ∷ terms) later = length-forced start c terms (force start c later t) ∙ length-force start c t later

pub length-with_forced : (values : List (Option Bool)) (c : AtLeast) → length (with_forced values c) ≡ length values
length-with_forced values c = length-forced values c c.terms values

and_first : (a b : Bool) → (a && b) ≡ true → a ≡ true
and_first true b e = refl
and_first false b e = absurd (false≢true e)

and_second : (a b : Bool) → (a && b) ≡ true → b ≡ true
and_second true b e = e
and_second false b e = absurd (false≢true e)

none_not_some : (o : Option Bool) (b : Bool) → is_none o ≡ true → o ≡ Some b → ⊥
none_not_some o b e f = absurd (false≢true (rw f at e))

force_keeps : (start : List (Option Bool)) (c : AtLeast) (w : ℕ) (b : Bool) → value_of start w ≡ Some b → (t : Term) (later : List (Option Bool)) → value_of later w ≡ Some b → value_of (force start c later t) w ≡ Some b
force_keeps start c w b old t later e = by (is_forced start c t) refl
  where
    apart : is_forced start c t ≡ true → w ≢ t.lit.variable
    apart f s = none_not_some (value_of start t.lit.variable) b (and_first (is_open start t.lit) _ f) (ap (value_of start) (sym s) ∙ old)

    by : (f : Bool) → is_forced start c t ≡ f → value_of (cond f (make_true later t.lit) later) w ≡ Some b
    by true f = value_of-set_elsewhere later t.lit.variable w (Some t.lit.positive) (apart f) ∙ e
    by false f = e

forced_keeps : (start : List (Option Bool)) (c : AtLeast) (w : ℕ) (b : Bool) → value_of start w ≡ Some b → (terms : List Term) (later : List (Option Bool)) → value_of later w ≡ Some b → value_of (fold (force start c) later terms) w ≡ Some b
forced_keeps start c w b old [] later e = e
forced_keeps start c w b old (t ∷ terms) later e = forced_keeps start c w b old terms (force start c later t) (force_keeps start c w b old t later e)

-- a value stays
pub with_forced-keeps : (values : List (Option Bool)) (c : AtLeast) (w : ℕ) (b : Bool) → value_of values w ≡ Some b → value_of (with_forced values c) w ≡ Some b
with_forced-keeps values c w b old = forced_keeps values c w b old c.terms values old

forced_others : (start : List (Option Bool)) (c : AtLeast) (w : ℕ) (terms : List Term) (later : List (Option Bool)) → All (λ t. t.lit.variable ≢ w) terms → value_of (fold (force start c) later terms) w ≡ value_of later w
forced_others start c w [] later apart = refl
forced_others start c w (t ∷ terms) later apart =
    forced_others start c w terms (force start c later t) (All-tail (λ (u : Term). u.lit.variable ≢ w) t terms apart) ∙ by (is_forced start c t)
  where
    by : (b : Bool) → value_of (cond b (make_true later t.lit) later) w ≡ value_of later w
    by true = value_of-set_elsewhere later t.lit.variable w (Some t.lit.positive) (λ e. All-head (λ (u : Term). u.lit.variable ≢ w) t terms apart (sym e))
    by false = refl

pairs_tail : (t : Term) (terms : List Term) → AllPairs (λ x y. x.lit.variable ≢ y.lit.variable) (t ∷ terms) → AllPairs (λ x y. x.lit.variable ≢ y.lit.variable) terms
pairs_tail t terms distinct i j d lt h = distinct (suc i) (suc j) d (omega arith) (omega arith)

pairs_head : (t : Term) (terms : List Term) → AllPairs (λ x y. x.lit.variable ≢ y.lit.variable) (t ∷ terms) → All (λ u. u.lit.variable ≢ t.lit.variable) terms
pairs_head t terms distinct k d h e = distinct 0 (suc k) d (omega arith) (omega arith) (sym e)

forced_sets : (start : List (Option Bool)) (c : AtLeast) (terms : List Term) (later : List (Option Bool)) (i : ℕ) (d : Term) → i < length terms → AllPairs (λ x y. x.lit.variable ≢ y.lit.variable) terms → is_forced start c (get_or terms i d) ≡ true → 0 < (get_or terms i d).lit.variable → (get_or terms i d).lit.variable ≤ length later → value_of (fold (force start c) later terms) (get_or terms i d).lit.variable ≡ Some (get_or terms i d).lit.positive
forced_sets start c [] later i d within distinct f some most = absurd (omega arith)
forced_sets start c (t ∷ terms) later zero d within distinct f some most =
    forced_others start c t.lit.variable terms (force start c later t) (pairs_head t terms distinct)
    ∙ (ap (λ (b : Bool). value_of (cond b (make_true later t.lit) later) t.lit.variable) f ∙ value_of-set_here later t.lit.variable (Some t.lit.positive) some most)
forced_sets start c (t ∷ terms) later (suc i) d within distinct f some most =
    forced_sets start c terms (force start c later t) i d (omega arith) (pairs_tail t terms distinct) f some (rw (length-force start c t later) most)

test_lt : (a b : ℕ) → a < b → ltb a b ≡ true
test_lt a b h = grind (arith, nat_tests)

test_not_lt : (a b : ℕ) → (a < b → ⊥) → ltb a b ≡ false
test_not_lt a b h = by (ltb a b) refl
  where
    by : (t : Bool) → ltb a b ≡ t → ltb a b ≡ false
    by true e = absurd (h (grind (arith, nat_tests)))
    by false e = e

-- What a constraint forced before, it forces under other values that make the same literals false, or it is violated.
pub forces_again : (before values : List (Option Bool)) (c : AtLeast) (lit : Lit) → Forces before c lit → AllPairs (λ x y. x.lit.variable ≢ y.lit.variable) c.terms → All (StaysFalse before values) c.terms → 0 < lit.variable → lit.variable ≤ length values → (reachable values c.terms < c.degree) ⊎ (value_of (with_forced values c) lit.variable ≡ Some lit.positive)
forces_again before values c lit forces distinct stays some most = by (truth_of (value_of values lit.variable) lit.positive)
  where
    t : Term
    t = record { coef = forces.coef; lit = lit }

    place : ℕ
    place = forces.stands.0

    by : Truth (value_of values lit.variable) lit.positive → (reachable values c.terms < c.degree) ⊎ (value_of (with_forced values c) lit.variable ≡ Some lit.positive)
    by (true_one e) = inr (with_forced-keeps values c lit.variable lit.positive e)
    by (false_one e) =
        let is = forces.stands.2 in
        let before_open : is_false before lit ≡ false = open_not_false (value_of before lit.variable) lit.positive forces.open_literal in
        let loses = reachable_loses before values c.terms forces.stands.0 (record { coef = forces.coef; lit = lit }) forces.stands.1 stays (ap (λ (u : Term). is_false before u.lit) is ∙ before_open) (ap (λ (u : Term). is_false values u.lit) is ∙ e) in
        let coef : (get_or c.terms forces.stands.0 (record { coef = forces.coef; lit = lit })).coef ≡ forces.coef = ap (λ (u : Term). u.coef) is in
        inl (omega (arith, loses, coef, forces.above_slack))
    by (open_one e) =
        let is = forces.stands.2 in
        let falls = reachable_falls before values c.terms stays in
        let room : ltb (reachable values c.terms) (c.degree + forces.coef) ≡ true = test_lt _ _ (omega (arith, falls, forces.above_slack)) in
        let open_now : is_open values lit ≡ true = ap is_none e in
        let test : is_forced values c (record { coef = forces.coef; lit = lit }) ≡ true = rw (open_now, room) refl in
        let sets = forced_sets values c c.terms values forces.stands.0 (record { coef = forces.coef; lit = lit }) forces.stands.1 distinct (ap (is_forced values c) is ∙ test) (subst (λ (u : Term). 0 < u.lit.variable) (sym is) some) (subst (λ (u : Term). u.lit.variable ≤ length values) (sym is) most) in
        inr (subst (λ (u : Term). value_of (with_forced values c) u.lit.variable ≡ Some u.lit.positive) is sets)

or_true : (b : Bool) → (b || true) ≡ true
or_true true = refl
or_true false = refl

pub conflicts_now : (values : List (Option Bool)) (c : AtLeast) (rest : List AtLeast) → reachable values c.terms < c.degree → conflicts values (c ∷ rest) ≡ true
conflicts_now values c rest h = let test : ltb (reachable values c.terms) c.degree ≡ true = test_lt _ _ h in rw test refl

pub conflicts_later : (values : List (Option Bool)) (c : AtLeast) (rest : List AtLeast) → conflicts (with_forced values c) rest ≡ true → conflicts values (c ∷ rest) ≡ true
conflicts_later values c rest e = ap (λ (b : Bool). ltb (reachable values c.terms) c.degree || b) e ∙ or_true (ltb (reachable values c.terms) c.degree)

pub hinted_push : (cs : List AtLeast) (hints : List ℕ) (number : ℕ) → hinted cs (reverse (hints ++ number ∷ [])) ≡ constraint_at cs number ∷ hinted cs (reverse hints)
hinted_push cs hints number = ap (hinted cs) (reverse-append hints (number ∷ []))

-- ---- constraints at rest come to no conflict

forced_none : (start : List (Option Bool)) (c : AtLeast) (terms : List Term) (later : List (Option Bool)) → All (λ t. is_forced start c t ≡ false) terms → fold (force start c) later terms ≡ later
forced_none start c [] later none = refl
forced_none start c (t ∷ terms) later none =
    let here : force start c later t ≡ later = ap (λ (b : Bool). cond b (make_true later t.lit) later) (All-head (λ (u : Term). is_forced start c u ≡ false) t terms none) in
    ap (λ (vs : List (Option Bool)). fold (force start c) vs terms) here ∙ forced_none start c terms later (All-tail (λ (u : Term). is_forced start c u ≡ false) t terms none)

below_from : (a b : ℕ) → ltb a b ≡ true → a < b
below_from a b e = grind (arith, nat_tests)

rest_unforced : (values : List (Option Bool)) (c : AtLeast) → ((lit : Lit) → ¬ (Forces values c lit)) → All (λ t. is_forced values c t ≡ false) c.terms
rest_unforced values c none k d h = by (is_forced values c (get_or c.terms k d)) refl
  where
    by : (b : Bool) → is_forced values c (get_or c.terms k d) ≡ b → is_forced values c (get_or c.terms k d) ≡ false
    by false e = e
    by true e = absurd (none (get_or c.terms k d).lit (record {
      coef = (get_or c.terms k d).coef;
      stands = (k, h, get_or_default c.terms k _ d h);
      open_literal = and_first (is_open values (get_or c.terms k d).lit) _ e;
      above_slack = below_from _ _ (and_second (is_open values (get_or c.terms k d).lit) _ e);
    }))

rest_over : (values : List (Option Bool)) (c : AtLeast) (rest : List AtLeast) → ¬ (IsViolated values c) × ((lit : Lit) → ¬ (Forces values c lit)) → conflicts values (c ∷ rest) ≡ conflicts values rest
rest_over values c rest rests =
    let test : ltb (reachable values c.terms) c.degree ≡ false = test_not_lt _ _ rests.0 in
    let same : with_forced values c ≡ values = forced_none values c c.terms values (rest_unforced values c rests.1) in
    rw (test, same) refl

-- no hints come to a conflict, where all constraints rest
pub rest_no_conflict : (cs : List AtLeast) (values : List (Option Bool)) → IsAtRest cs values → (hints : List ℕ) → HasHints cs hints → conflicts values (hinted cs hints) ≡ false
rest_no_conflict cs values rest [] has = refl
rest_no_conflict cs values rest (h ∷ hints) has =
    let here = All-head (λ (x : ℕ). (0 < x) × (x ≤ length cs)) h hints has in
    rest_over values (constraint_at cs h) (hinted cs hints) (rest (h - 1) (record { terms = []; degree = 0 }) (omega (arith, here.0, here.1)))
    ∙ rest_no_conflict cs values rest hints (All-tail (λ (x : ℕ). (0 < x) × (x ≤ length cs)) h hints has)
