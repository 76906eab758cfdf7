-- Values along literals that are made true one after the other.
use Rattle.std.proofs.Common.{◌≡◌, ◌≢◌, ℕ, zero, suc, ◌+◌, ◌-◌, ◌<◌, ◌≤◌, Bool, true, false, cond, eqb, ◌||◌, List, [], ◌∷◌, ◌++◌, length, get_or, take, map, fold, replicate, count_by, Option, Some, None, IfSome, is_none, All, refl, sym, ap, subst, ◌∙◌, inl, inr, ◌⊎◌, ⊎_elim, arith}
use Rattle.std.specs.List.{list_any}
use Rattle.std.proofs.lemmas.Bool.{false≢true, cases_lt}
use Rattle.std.proofs.lemmas.Bool.Decides.{nat_tests, eqb_tells}
use Rattle.std.proofs.lemmas.List.{get_or-map, length-map, take_more, take_all, get_or_default, get_or_past, get_or-replicate, length-replicate}
use Rattle.std.proofs.lemmas.List.Elements.{All-head, All-tail}
use Rattle.std.proofs.lemmas.List.Sums.{fold_push, sum_by_push}
use Rattle.std.proofs.lemmas.Map.Keys.{IsDistinct-from_apart}
use Rattle.std.proofs.lemmas.Map.Steps.{length-le_from_distinct_below}
use Rattle.pb_core.specs.AtLeast.{AtLeast}
use Rattle.pb_core.specs.Literal.{complement}
use Rattle.pb_core.specs.Occurrences.{holds_literal}
use Rattle.pb_core.specs.Values.{value_of, make_true, is_open, Includes}
use Rattle.pb_core.specs.declared.literal.Lit.{Lit}
use Rattle.pb_core.proofs.ValueLaws.{length-set_value, value_of-set_value, value_of-set_here, Includes-itself, Includes-grown, Includes-through}
use Rattle.pb_trail.specs.Along.{values_along, values_before, weight}
use Rattle.pb_trail.specs.Trail.{AreSteps}
use Rattle.pb_trail.specs.declared.trail.Entry.{Entry}

abbrev pub no_entry : Entry
no_entry = record { lit = record { variable = 0; positive = false }; reason = 0 }

pub along-none : (n : ℕ) → values_along n [] ≡ replicate n None
unfolding values_along
along-none n = refl

pub along-push : (n : ℕ) (es : List Entry) (e : Entry) → values_along n (es ++ e ∷ []) ≡ make_true (values_along n es) e.lit
unfolding values_along
along-push n es e = fold_push (λ values (x : Entry). make_true values x.lit) (replicate n None) es e

pub along-more : (n : ℕ) (es : List Entry) (k : ℕ) (d : Entry) → k < length es → values_along n (take (k + 1) es) ≡ make_true (values_along n (take k es)) (get_or es k d).lit
along-more n es k d within = ap (values_along n) (take_more es k d within) ∙ along-push n (take k es) (get_or es k d)

length-fold : (es : List Entry) (values : List (Option Bool)) → length (fold (λ later (x : Entry). make_true later x.lit) values es) ≡ length values
length-fold [] values = refl
length-fold (e ∷ es) values = length-fold es (make_true values e.lit) ∙ length-set_value values e.lit.variable (Some e.lit.positive)

pub length-along : (n : ℕ) (es : List Entry) → length (values_along n es) ≡ n
unfolding values_along
length-along n es = length-fold es (replicate n None) ∙ length-replicate n None

pub weight-none : (cs : List AtLeast) → weight cs [] ≡ 0
unfolding weight
weight-none cs = refl

pub weight-push : (cs : List AtLeast) (es : List Entry) (e : Entry) → weight cs (es ++ e ∷ []) ≡ weight cs es + count_by (holds_literal (complement e.lit)) cs
unfolding weight
weight-push cs es e = sum_by_push (λ (x : Entry). count_by (holds_literal (complement x.lit)) cs) es e

-- ---- values that stay

pub before_all : (n : ℕ) (es : List Entry) → values_before n es (length es) ≡ values_along n es
before_all n es = ap (values_along n) (take_all (length es) es (omega arith))

grown_by : (cs : List AtLeast) (n : ℕ) (es : List Entry) → AreSteps cs n es → (gap i : ℕ) → i + gap ≤ length es → Includes (values_before n es i) (values_before n es (i + gap))
grown_by cs n es are zero i h =
    let none : i + 0 ≡ i = omega arith in
    let same : values_before n es (i + 0) ≡ values_before n es i = ap (values_before n es) none in
    subst (λ (vs : List (Option Bool)). Includes (values_before n es i) vs) (sym same) (Includes-itself (values_before n es i))
grown_by cs n es are (suc gap) i h =
    let within : i + gap < length es = omega arith in
    let step = are (i + gap) no_entry within in
    let next : i + suc gap ≡ i + gap + 1 = omega arith in
    let now : values_before n es (i + suc gap) ≡ make_true (values_before n es (i + gap)) (get_or es (i + gap) no_entry).lit = ap (values_before n es) next ∙ along-more n es (i + gap) no_entry within in
    subst (λ (vs : List (Option Bool)). Includes (values_before n es i) vs) (sym now)
    (Includes-through (values_before n es i) (values_before n es (i + gap)) (make_true (values_before n es (i + gap)) (get_or es (i + gap) no_entry).lit) (grown_by cs n es are gap i (omega arith)) (Includes-grown (values_before n es (i + gap)) (get_or es (i + gap) no_entry).lit step.was_open))

pub before-Includes : (cs : List AtLeast) (n : ℕ) (es : List Entry) → AreSteps cs n es → (i j : ℕ) → i ≤ j → j ≤ length es → Includes (values_before n es i) (values_before n es j)
before-Includes cs n es are i j h k =
    let back : i + (j - i) ≡ j = omega arith in
    let same : values_before n es (i + (j - i)) ≡ values_before n es j = ap (values_before n es) back in
    subst (λ (vs : List (Option Bool)). Includes (values_before n es i) vs) same (grown_by cs n es are (j - i) i (omega arith))

some_stays : (o q : Option Bool) (b : Bool) → IfSome o (λ x. q ≡ Some x) → o ≡ Some b → q ≡ Some b
some_stays None q b e f = cc
some_stays (Some x) q b e f = cc

pub Includes-at : (less more : List (Option Bool)) (v : ℕ) (b : Bool) → Includes less more → value_of less v ≡ Some b → value_of more v ≡ Some b
Includes-at less more v b includes e = some_stays (value_of less v) (value_of more v) b (includes v) e

open_back : (o q : Option Bool) → IfSome o (λ b. q ≡ Some b) → is_none q ≡ true → is_none o ≡ true
open_back None q e f = refl
open_back (Some b) q e f = absurd (false≢true (rw e at f))

-- what is open later was open before
pub Includes-open : (less more : List (Option Bool)) (lit : Lit) → Includes less more → is_open more lit ≡ true → is_open less lit ≡ true
Includes-open less more lit includes e = open_back (value_of less lit.variable) (value_of more lit.variable) (includes lit.variable) e

-- an entry's literal is true from behind it on
pub entry_value : (cs : List AtLeast) (n : ℕ) (es : List Entry) → AreSteps cs n es → (k m : ℕ) (d : Entry) → k < m → m ≤ length es → value_of (values_before n es m) (get_or es k d).lit.variable ≡ Some (get_or es k d).lit.positive
entry_value cs n es are k m d h most =
    let within : k < length es = omega arith in
    let step = are k d within in
    let here = value_of-set_here (values_before n es k) (get_or es k d).lit.variable (Some (get_or es k d).lit.positive) step.from_one step.within in
    let now : value_of (values_before n es (k + 1)) (get_or es k d).lit.variable ≡ Some (get_or es k d).lit.positive = ap (λ (vs : List (Option Bool)). value_of vs (get_or es k d).lit.variable) (along-more n es k d within) ∙ here in
    Includes-at (values_before n es (k + 1)) (values_before n es m) (get_or es k d).lit.variable (get_or es k d).lit.positive (before-Includes cs n es are (k + 1) m (omega arith) most) now

-- a variable that has a value has an entry
pub record IsEntryOf (es : List Entry) (m v : ℕ) (b : Bool) : Type 0 where
  pub place : ℕ
  pub within : place < m
  pub is : (d : Entry) → (get_or es place d).lit ≡ record { variable = v; positive = b }

none_at : (n k : ℕ) → get_or {A = Option Bool} (replicate n None) k None ≡ None
none_at n k =
    ⊎_elim (λ lt. get_or-replicate n k None None lt) (λ ge. get_or_past (replicate n None) k None (rw (length-replicate {A = Option Bool}) ge)) (cases_lt k n)

none_cond : (b : Bool) → cond {A = Option Bool} b None None ≡ None
none_cond true = refl
none_cond false = refl

pub open_first : (n v : ℕ) → value_of (replicate n None) v ≡ None
open_first n v = rw (none_at n (v - 1)) (none_cond (eqb v 0))

none_not_some : (o : Option Bool) (b : Bool) → o ≡ None → o ≡ Some b → ⊥
none_not_some o b e f = cc

pub value_entry : (cs : List AtLeast) (n : ℕ) (es : List Entry) → AreSteps cs n es → (m v : ℕ) (b : Bool) → m ≤ length es → value_of (values_before n es m) v ≡ Some b → IsEntryOf es m v b
value_entry cs n es are zero v b h e =
    let start : values_before n es 0 ≡ replicate n None = along-none n in
    absurd (none_not_some (value_of (values_before n es 0) v) b (ap (λ (vs : List (Option Bool)). value_of vs v) start ∙ open_first n v) e)
value_entry cs n es are (suc m) v b h e =
    ⊎_elim (λ same. earlier (value_entry cs n es are m v b (omega arith) (sym same ∙ later))) (λ here. record { place = m; within = omega arith; is = λ d. ap (λ (x : Entry). x.lit) (get_or_default es m d no_entry (omega arith)) ∙ lit_is (get_or es m no_entry).lit v b here.0 (sym here.1 ∙ later) })
    (value_of-set_value (values_before n es m) (get_or es m no_entry).lit.variable v (Some (get_or es m no_entry).lit.positive))
  where
    earlier : IsEntryOf es m v b → IsEntryOf es (suc m) v b
    earlier found = record { place = found.place; within = omega (arith, found.within); is = found.is }

    later : value_of (make_true (values_before n es m) (get_or es m no_entry).lit) v ≡ Some b
    later =
        let next : suc m ≡ m + 1 = omega arith in
        let now : values_before n es (suc m) ≡ make_true (values_before n es m) (get_or es m no_entry).lit = ap (values_before n es) next ∙ along-more n es m no_entry (omega arith) in
        sym (ap (λ (vs : List (Option Bool)). value_of vs v) now) ∙ e

    lit_is : (lit : Lit) (w : ℕ) (c : Bool) → lit.variable ≡ w → Some lit.positive ≡ Some c → lit ≡ record { variable = w; positive = c }
    lit_is lit w c p q =
        let same : lit.positive ≡ c = cc in
        ap (λ (u : ℕ). record { variable = u; positive = lit.positive }) p ∙ ap (λ (b : Bool). record { variable = w; positive = b }) same

some_not_open : (o : Option Bool) (b : Bool) → is_none o ≡ true → o ≡ Some b → ⊥
some_not_open o b e f = absurd (false≢true (rw f at e))

-- no variable has two entries
pub entries_apart : (cs : List AtLeast) (n : ℕ) (es : List Entry) → AreSteps cs n es → (i j : ℕ) (d : Entry) → i < j → j < length es → (get_or es i d).lit.variable ≢ (get_or es j d).lit.variable
entries_apart cs n es are i j d h within e =
    let earlier = entry_value cs n es are i j d h (omega arith) in
    some_not_open (value_of (values_before n es j) (get_or es j d).lit.variable) (get_or es i d).lit.positive (are j d within).was_open (ap (value_of (values_before n es j)) (sym e) ∙ earlier)

-- ---- how many entries there are

below_head : (n q x : ℕ) (b : Bool) → ((b ≡ true) × (q ≡ x)) ⊎ ((b ≡ false) × (q ≢ x)) → (rest : Bool) → x < n → (rest ≡ true → q < n) → (b || rest) ≡ true → q < n
below_head n q x b (inl t) rest here later h = omega (arith, t.1, here)
below_head n q x b (inr t) rest here later h = later (rw t.0 at h)

any_below : (n q : ℕ) (xs : List ℕ) → All (λ x. x < n) xs → list_any (eqb q) xs ≡ true → q < n
any_below n q [] all e = absurd (false≢true e)
any_below n q (x ∷ xs) all e = below_head n q x (eqb q x) (eqb_tells q x) (list_any (eqb q) xs) (All-head (λ (y : ℕ). y < n) x xs all) (any_below n q xs (All-tail (λ (y : ℕ). y < n) x xs all)) e

-- distinct variables from 1 to a number are at most that many
pub few_variables : {X : Type 0} (f : X → ℕ) (n : ℕ) (xs : List X) → All (λ x. (0 < f x) × (f x ≤ n)) xs → ((i j : ℕ) (d : X) → i < j → j < length xs → f (get_or xs i d) ≢ f (get_or xs j d)) → X → length xs ≤ n
few_variables {X} f n xs among apart none =
    rw (← length-map xs (λ x. f x - 1)) (length-le_from_distinct_below (map (λ x. f x - 1) xs) n (IsDistinct-from_apart eqb (map (λ x. f x - 1) xs) different) (λ q e. any_below n q (map (λ x. f x - 1) xs) below e))
  where
    at : (i d : ℕ) → i < length xs → get_or (map (λ x. f x - 1) xs) i d ≡ f (get_or xs i none) - 1
    at i d h = get_or-map (λ x. f x - 1) xs i none d h

    below : All (λ x. x < n) (map (λ x. f x - 1) xs)
    below k d h =
        let within : k < length xs = rw (length-map xs (λ x. f x - 1)) at h in
        let some = among k none within in
        rw (at k d within) (omega (arith, some.0, some.1))

    different : (i j d : ℕ) → i < j → j < length (map (λ x. f x - 1) xs) → eqb (get_or (map (λ x. f x - 1) xs) i d) (get_or (map (λ x. f x - 1) xs) j d) ≡ false
    different i j d lt h =
        let within : j < length xs = rw (length-map xs (λ x. f x - 1)) at h in
        let one = among i none (omega arith) in
        let two = among j none within in
        let ne : f (get_or xs i none) - 1 ≢ f (get_or xs j none) - 1 = λ e. apart i j none lt within (omega (arith, e, one.0, two.0)) in
        rw (at i d (omega arith), at j d within) (grind (arith, nat_tests, ne))

pub few_entries : (cs : List AtLeast) (n : ℕ) (es : List Entry) → AreSteps cs n es → length es ≤ n
few_entries cs n es are =
    few_variables (λ (e : Entry). e.lit.variable) n es (λ k d h. ((are k d h).from_one, rw (length-along n (take k es)) at (are k d h).within)) (λ i j d lt h. entries_apart cs n es are i j d lt h) no_entry
