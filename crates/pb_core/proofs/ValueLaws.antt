-- What values say of literals, and what another value of one variable changes.
use Rattle.std.proofs.Common.{◌≡◌, ◌≢◌, ℕ, ◌-◌, ◌<◌, ◌≤◌, Bool, true, false, not, cond, List, length, get_or, set, Option, Some, None, IfSome, is_none, refl, sym, ap, ◌∙◌, inl, inr, ◌⊎◌, ⊎_elim, arith, get_or-set_other, get_or-set_same}
use Rattle.std.proofs.Math.ListN.{length-set}
use Rattle.std.proofs.lemmas.Bool.{cases_lt, false≢true}
use Rattle.std.proofs.lemmas.Bool.Decides.{nat_tests, eqb_tells}
use Rattle.std.proofs.lemmas.List.{get_or_past}
use Rattle.pb_core.specs.Literal.{holds, same_truth}
use Rattle.pb_core.specs.Values.{value_of, set_value, make_true, has_truth, is_false, is_open, Completes, Includes}
use Rattle.pb_core.specs.declared.literal.Lit.{Lit}

pub value_of-zero : (values : List (Option Bool)) → value_of values 0 ≡ None
value_of-zero values = refl

pub value_of-at : (values : List (Option Bool)) (v : ℕ) → 0 < v → value_of values v ≡ get_or values (v - 1) None
value_of-at values v some = grind (arith, nat_tests)

-- another value at one place is read there, or nothing is
pub get_or-set_cases : {X : Type 0} (xs : List X) (i j : ℕ) (x d : X) → (get_or (set xs i x) j d ≡ get_or xs j d) ⊎ ((i ≡ j) × (get_or (set xs i x) j d ≡ x))
get_or-set_cases xs i j x d =
    ⊎_elim (λ e. ⊎_elim (λ lt. inr (e.1, rw (sym e.1) (rw get_or-set_same refl))) (λ ge. inl (get_or_past (set xs i x) j d (omega (arith, e.1, length-set xs i x)) ∙ sym (get_or_past xs j d (omega (arith, e.1)))))
    (cases_lt i (length xs))) (λ e. let ne : j ≢ i = λ s. absurd (e.1 (sym s)) in inl (rw get_or-set_other refl)) (eqb_tells i j)

pub value_of-set_value : (values : List (Option Bool)) (v w : ℕ) (x : Option Bool) → (value_of (set_value values v x) w ≡ value_of values w) ⊎ ((v ≡ w) × (value_of (set_value values v x) w ≡ x))
value_of-set_value values v w x =
    let at = get_or-set_cases values (v - 1) (w - 1) x None in
    grind (arith, nat_tests)

pub length-set_value : (values : List (Option Bool)) (v : ℕ) (x : Option Bool) → length (set_value values v x) ≡ length values
length-set_value values v x = let e = length-set values (v - 1) x in grind (arith, nat_tests)

-- ---- one value and one truth

pub same_truth-true : (a b : Bool) → same_truth a b ≡ true → a ≡ b
same_truth-true true true e = refl
same_truth-true true false e = cc
same_truth-true false true e = cc
same_truth-true false false e = refl

-- a literal that is false isn't open
pub open_not_false : (o : Option Bool) (p : Bool) → is_none o ≡ true → has_truth o (not p) ≡ false
open_not_false None p e = refl
open_not_false (Some b) p e = absurd (false≢true e)

pub false_fails : (o : Option Bool) (p b : Bool) → IfSome o (λ v. b ≡ v) → has_truth o (not p) ≡ true → cond p b (not b) ≡ false
false_fails None p b e f = absurd (false≢true f)
false_fails (Some true) true true e f = cc
false_fails (Some true) true false e f = refl
false_fails (Some true) false true e f = refl
false_fails (Some true) false false e f = cc
false_fails (Some false) true true e f = cc
false_fails (Some false) true false e f = refl
false_fails (Some false) false true e f = refl
false_fails (Some false) false false e f = cc

-- a literal is open, true or false
pub data Truth (o : Option Bool) (p : Bool) : Type 0 where
  open_one : o ≡ None → Truth o p
  true_one : o ≡ Some p → Truth o p
  false_one : has_truth o (not p) ≡ true → Truth o p

pub truth_of : (o : Option Bool) (p : Bool) → Truth o p
truth_of None p = open_one refl
truth_of (Some true) true = true_one refl
truth_of (Some true) false = false_one refl
truth_of (Some false) true = false_one refl
truth_of (Some false) false = true_one refl

-- ---- full assignments

pub is_false-fails : (full : ℕ → Bool) (values : List (Option Bool)) (lit : Lit) → Completes full values → is_false values lit ≡ true → holds full lit ≡ false
is_false-fails full values lit completes fails = false_fails (value_of values lit.variable) lit.positive (full lit.variable) (completes lit.variable) fails

holds_value : (p b : Bool) → cond p b (not b) ≡ true → b ≡ p
holds_value true true e = refl
holds_value true false e = absurd (false≢true e)
holds_value false true e = absurd (false≢true e)
holds_value false false e = refl

-- a full assignment that makes the literal true has the values with it made true
pub Completes-make_true : (full : ℕ → Bool) (values : List (Option Bool)) (lit : Lit) → Completes full values → holds full lit ≡ true → Completes full (make_true values lit)
Completes-make_true full values lit completes h w =
    ⊎_elim (λ same. rw same (completes w)) (λ here. rw here.1 (ap full (sym here.0) ∙ holds_value lit.positive (full lit.variable) h))
    (value_of-set_value values lit.variable w (Some lit.positive))

-- ---- values that include others

pub Includes-itself : (values : List (Option Bool)) → Includes values values
Includes-itself values v = itself (value_of values v)
  where
    itself : (o : Option Bool) → IfSome o (λ b. o ≡ Some b)
    itself None = tt
    itself (Some b) = refl

kept_truth : (o q : Option Bool) (truth : Bool) → IfSome o (λ b. q ≡ Some b) → has_truth o truth ≡ true → has_truth q truth ≡ true
kept_truth None q truth e h = absurd (false≢true h)
kept_truth (Some b) q truth e h = rw e h

pub is_false-Includes : (less more : List (Option Bool)) (lit : Lit) → Includes less more → is_false less lit ≡ true → is_false more lit ≡ true
is_false-Includes less more lit includes h = kept_truth (value_of less lit.variable) (value_of more lit.variable) (not lit.positive) (includes lit.variable) h

pub Includes-make_true : (less more : List (Option Bool)) (lit : Lit) → Includes less more → value_of more lit.variable ≡ Some lit.positive → Includes (make_true less lit) more
Includes-make_true less more lit includes here w =
    ⊎_elim (λ same. rw same (includes w)) (λ set_here. rw set_here.1 (rw (← set_here.0) here))
    (value_of-set_value less lit.variable w (Some lit.positive))

same_value : (o q : Option Bool) → IfSome o (λ b. q ≡ Some b) → IfSome q (λ b. o ≡ Some b) → o ≡ q
same_value None None e f = refl
same_value None (Some b) e f = f
same_value (Some b) q e f = sym e

pub same_values : (a b : List (Option Bool)) → Includes a b → Includes b a → (v : ℕ) → value_of a v ≡ value_of b v
same_values a b e f v = same_value (value_of a v) (value_of b v) (e v) (f v)

grown : (o q : Option Bool) → is_none o ≡ true → IfSome o (λ b. q ≡ Some b)
grown None q e = tt
grown (Some b) q e = absurd (false≢true e)

-- to make an open literal true keeps the values that are there
pub Includes-grown : (values : List (Option Bool)) (lit : Lit) → is_open values lit ≡ true → Includes values (make_true values lit)
Includes-grown values lit unset w =
    ⊎_elim (λ same. rw same (Includes-itself values w)) (λ here. grown (value_of values w) _ (rw (sym here.0) unset))
    (value_of-set_value values lit.variable w (Some lit.positive))

followed : (o q r : Option Bool) → IfSome o (λ b. q ≡ Some b) → IfSome q (λ b. r ≡ Some b) → IfSome o (λ b. r ≡ Some b)
followed None q r e f = tt
followed (Some b) q r e f = let g = rw e at f in g

pub Includes-through : (a b c : List (Option Bool)) → Includes a b → Includes b c → Includes a c
Includes-through a b c e f v = followed (value_of a v) (value_of b v) (value_of c v) (e v) (f v)

-- ---- another value of one variable

pub value_of-set_here : (values : List (Option Bool)) (v : ℕ) (x : Option Bool) → 0 < v → v ≤ length values → value_of (set_value values v x) v ≡ x
value_of-set_here values v x some most =
    let at = get_or-set_same values (v - 1) x None (omega arith) in
    grind (arith, nat_tests)

pub value_of-set_elsewhere : (values : List (Option Bool)) (v u : ℕ) (x : Option Bool) → u ≢ v → value_of (set_value values v x) u ≡ value_of values u
value_of-set_elsewhere values v u x apart = ⊎_elim (λ same. same) (λ here. absurd (apart (sym here.0))) (value_of-set_value values v u x)
