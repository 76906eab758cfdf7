-- How many slacks the entries of a trail changed.
use Rattle.std.proofs.Common.{◌≡◌, ◌≢◌, ℕ, suc, ◌+◌, ◌*◌, ◌≤◌, Bool, true, false, cond, ltb, eqb, ◌&&◌, List, [], ◌∷◌, ◌++◌, length, map, sum_by, count_by, All, AllPairs, refl, sym, ap, ◌∙◌, arith}
use Rattle.std.proofs.lemmas.Bool.Decides.{nat_tests}
use Rattle.std.proofs.lemmas.List.{length-map}
use Rattle.std.proofs.lemmas.List.Elements.{All-head, All-tail}
use Rattle.std.proofs.lemmas.List.Sums.{sum_by-cons, sum_by-append, sum_by_push, sum_by-le-sum_by}
use Rattle.pb_core.specs.AtLeast.{AtLeast, clause}
use Rattle.pb_core.specs.Literal.{complement, same_literal}
use Rattle.pb_core.specs.Occurrences.{coefficient, holds_literal}
use Rattle.pb_core.specs.declared.literal.Lit.{Lit}
use Rattle.pb_core.specs.declared.literal.Term.{Term}
use Rattle.pb_trail.specs.Along.{weight}
use Rattle.pb_trail.specs.Trail.{IsTrail}
use Rattle.pb_trail.specs.declared.trail.Entry.{Entry}
use Rattle.pb_trail.specs.declared.trail.Trail.{Trail}
use Rattle.pb_trail.proofs.AlongLaws.{entries_apart, few_variables}
use Rattle.deriv_check.specs.Database.{line_seen}
use Rattle.deriv_check.specs.LineRule.{HasLiterals}
use Rattle.deriv_check.specs.declared.derivation.Line.{Line}
use Rattle.pb_solver.specs.Spending.{term_count}

-- a term has the literal that an entry made false
abbrev denies : Term → Entry → Bool
denies t e = same_literal t.lit (complement e.lit)

-- the constraint has it
abbrev lost : AtLeast → Entry → ℕ
lost c e = cond (holds_literal (complement e.lit) c) 1 0

abbrev lost_in : List Term → Entry → ℕ
lost_in terms e = cond (ltb 0 (coefficient (complement e.lit) terms)) 1 0

abbrev AreApart : List Entry → Type 0
AreApart es = AllPairs (λ a b. a.lit.variable ≢ b.lit.variable) es

-- ---- one constraint loses at most as often as it has terms

apart_tail : (e : Entry) (es : List Entry) → AreApart (e ∷ es) → AreApart es
apart_tail e es apart i j d lt h = apart (suc i) (suc j) d (omega arith) (omega arith)

same_variable : (b : Bool) (v w : ℕ) → (eqb v w && b) ≡ true → v ≡ w
same_variable b v w e = grind (arith, nat_tests)

-- none of the entries is of the variable
none_denied : (t : Term) (es : List Entry) (v : ℕ) → v ≡ t.lit.variable → All (λ e. v ≢ e.lit.variable) es → count_by (denies t) es ≡ 0
none_denied t [] v is all = refl
none_denied t (e ∷ es) v is all =
    let head = sum_by-cons (λ (x : Entry). cond (denies t x) 1 0) e es in
    let rest = none_denied t es v is (All-tail (λ (x : Entry). v ≢ x.lit.variable) e es all) in
    let here : denies t e ≡ false = not_true (denies t e) (λ s. All-head (λ (x : Entry). v ≢ x.lit.variable) e es all (is ∙ same_variable _ t.lit.variable e.lit.variable s)) in
    omega (arith, head, rest, ap (λ (b : Bool). cond {A = ℕ} b 1 0) here)
  where
    not_true : (b : Bool) → (b ≡ true → ⊥) → b ≡ false
    not_true true h = absurd (h refl)
    not_true false h = refl

denied_once : (t : Term) (es : List Entry) → AreApart es → count_by (denies t) es ≤ 1
denied_once t [] apart = omega arith
denied_once t (e ∷ es) apart = by (denies t e) refl (denied_once t es (apart_tail e es apart))
  where
    by : (b : Bool) → denies t e ≡ b → count_by (denies t) es ≤ 1 → count_by (denies t) (e ∷ es) ≤ 1
    by true s h =
        let head = sum_by-cons (λ (x : Entry). cond (denies t x) 1 0) e es in
        let same = same_variable _ t.lit.variable e.lit.variable s in
        let rest = none_denied t es t.lit.variable refl (λ k d h f. apart 0 (suc k) d (omega arith) (omega arith) (sym same ∙ f)) in
        omega (arith, head, rest, ap (λ (b : Bool). cond {A = ℕ} b 1 0) s)
    by false s h =
        let head = sum_by-cons (λ (x : Entry). cond (denies t x) 1 0) e es in
        omega (arith, head, h, ap (λ (b : Bool). cond {A = ℕ} b 1 0) s)

lost_more : (t : Term) (terms : List Term) (e : Entry) → lost_in (t ∷ terms) e ≤ cond (denies t e) 1 0 + lost_in terms e
lost_more t terms e =
    by (denies t e) (coefficient (complement e.lit) terms) (coefficient (complement e.lit) (t ∷ terms)) (sum_by-cons (λ (u : Term). cond (same_literal u.lit (complement e.lit)) u.coef 0) t terms)
  where
    by : (b : Bool) (rest all : ℕ) → all ≡ cond b t.coef 0 + rest → cond {A = ℕ} (ltb 0 all) 1 0 ≤ cond {A = ℕ} b 1 0 + cond {A = ℕ} (ltb 0 rest) 1 0
    by true rest all is = grind (arith, nat_tests)
    by false rest all is = grind (arith, nat_tests)

sum_by-add : {X : Type 0} (f g : X → ℕ) (xs : List X) → sum_by (λ x. f x + g x) xs ≡ sum_by f xs + sum_by g xs
sum_by-add f g [] = refl
sum_by-add f g (x ∷ xs) =
    omega (arith, sum_by-cons (λ y. f y + g y) x xs, sum_by-cons f x xs, sum_by-cons g x xs, sum_by-add f g xs)

lost-le-length : (es : List Entry) → AreApart es → (terms : List Term) → sum_by (lost_in terms) es ≤ length terms
lost-le-length es apart [] = nothing es
  where
    nothing : (es : List Entry) → sum_by (lost_in []) es ≤ 0
    nothing [] = omega arith
    nothing (e ∷ es) = omega (arith, sum_by-cons (lost_in []) e es, nothing es)
lost-le-length es apart (t ∷ terms) =
    let more = sum_by-le-sum_by (lost_in (t ∷ terms)) (λ (e : Entry). cond (denies t e) 1 0 + lost_in terms e) es (lost_more t terms) in
    let parts = sum_by-add (λ (e : Entry). cond (denies t e) 1 0) (lost_in terms) es in
    omega (arith, more, parts, denied_once t es apart, lost-le-length es apart terms)

-- ---- all constraints

weight-cons : (c : AtLeast) (cs : List AtLeast) (es : List Entry) → weight (c ∷ cs) es ≡ sum_by (lost c) es + weight cs es
unfolding weight
weight-cons c cs [] = refl
weight-cons c cs (e ∷ es) =
    omega (arith, sum_by-cons (λ (x : Entry). count_by (holds_literal (complement x.lit)) (c ∷ cs)) e es, sum_by-cons (λ (x : Entry). count_by (holds_literal (complement x.lit)) cs) e es, sum_by-cons (lost c) e es, sum_by-cons (λ (d : AtLeast). cond (holds_literal (complement e.lit) d) 1 0) c cs, weight-cons c cs es)

weight-empty : (es : List Entry) → weight [] es ≡ 0
unfolding weight
weight-empty [] = refl
weight-empty (e ∷ es) = omega (arith, sum_by-cons (λ (x : Entry). count_by (holds_literal (complement x.lit)) []) e es, weight-empty es)

weight-le : (es : List Entry) → AreApart es → (cs : List AtLeast) → weight cs es ≤ term_count cs
unfolding term_count
weight-le es apart [] = omega (arith, weight-empty es)
weight-le es apart (c ∷ cs) =
    omega (arith, weight-cons c cs es, lost-le-length es apart c.terms, weight-le es apart cs, sum_by-cons (λ (d : AtLeast). length d.terms) c cs)

pub trail_weight : (trail : Trail) → IsTrail trail → weight trail.kept.constraints trail.entries.items ≤ term_count trail.kept.constraints
trail_weight trail good =
    weight-le trail.entries.items (λ i j d lt h. entries_apart trail.kept.constraints (length trail.kept.values) trail.entries.items good.are_steps i j d lt h) trail.kept.constraints

-- a constraint more changes no less
pub weight-added : (cs : List AtLeast) (c : AtLeast) (es : List Entry) → weight cs es ≤ weight (cs ++ c ∷ []) es
unfolding weight
weight-added cs c es =
    sum_by-le-sum_by (λ (x : Entry). count_by (holds_literal (complement x.lit)) cs) (λ (x : Entry). count_by (holds_literal (complement x.lit)) (cs ++ c ∷ [])) es (λ x. omega (arith, sum_by_push (λ (d : AtLeast). cond (holds_literal (complement x.lit) d) 1 0) cs c))

-- ---- terms

pub term_count-append : (xs ys : List AtLeast) → term_count (xs ++ ys) ≡ term_count xs + term_count ys
unfolding term_count
term_count-append xs ys = sum_by-append (λ (c : AtLeast). length c.terms) xs ys

-- a clause over distinct variables has at most as many literals
clause_short : (n : ℕ) (lits : List Lit) → HasLiterals n lits → length (clause lits).terms ≤ n
clause_short n lits has =
    omega (arith, length-map lits (λ (l : Lit). let t : Term = record { coef = 1; lit = l } in t), few_variables (λ (l : Lit). l.variable) n lits has.among (λ i j d lt h. has.distinct i j d lt h) (record { variable = 0; positive = false }))

pub lines_short : (n : ℕ) (lines : List Line) → All (λ l. HasLiterals n l.clause) lines → term_count (map line_seen lines) ≤ length lines * n
unfolding term_count
lines_short n [] all = omega arith
lines_short n (l ∷ lines) all =
    let head = sum_by-cons (λ (c : AtLeast). length c.terms) (line_seen l) (map line_seen lines) in
    let here = clause_short n l.clause (All-head (λ (m : Line). HasLiterals n m.clause) l lines all) in
    let rest = lines_short n lines (All-tail (λ (m : Line). HasLiterals n m.clause) l lines all) in
    omega (arith, head, here, rest, product (length lines))
  where
    product : (k : ℕ) → suc k * n ≡ n + k * n
    product k = omega arith
