-- A row has one normal form, or none, so rows have one list of constraints.
use Rattle.std.proofs.Common.{◌≡◌, ℕ, suc, ⊎_elim, ◌+◌, ◌<◌, inl, inr, Bool, true, false, not, cond, eqb, List, [], ◌∷◌, ◌++◌, length, get_or, map, ℤ, All, AllPairs, refl, sym, ◌∙◌, ap, subst, arith}
use Rattle.std.proofs.lemmas.Bool.{cases_lt}
use Rattle.std.proofs.lemmas.Bool.Decides.{nat_tests}
use Rattle.std.proofs.lemmas.Int.{ints}
use Rattle.std.proofs.lemmas.List.{get_or-map, length-map}
use Rattle.std.proofs.lemmas.List.Elements.{All-cons, All-head, All-tail}
use Rattle.std.proofs.lemmas.List.Kept.{AllPairs-from_increasing}
use Rattle.std.proofs.lemmas.List.Sums.{sum_by-cons, sum_by-append}
use Rattle.std.specs.List.Sorted.{IsStrictlyIncreasing}
use Rattle.pb_core.specs.AtLeast.{AtLeast, at_least}
use Rattle.pb_core.specs.Literal.{holds}
use Rattle.pb_core.specs.Normalised.{IsNormalised}
use Rattle.pb_core.specs.Satisfied.{true_sum}
use Rattle.pb_core.specs.declared.constraint.Constraint.{Constraint}
use Rattle.pb_core.specs.declared.literal.SignedTerm.{SignedTerm}
use Rattle.pb_core.specs.declared.literal.Term.{Term}
use Rattle.pb_core.proofs.NormalLaws.{normalised_some}
use Rattle.pb_rows.specs.Normalising.{Satisfies, IsNormalOf, AreNormalised, HasMoreTerms, term_count}
use Rattle.pb_rows.specs.Rows.{Row}

-- ---- terms with rising variables, from the sums that they have

abbrev AreApart : List Term → Type 0
AreApart terms = AllPairs (λ t u. t.lit.variable < u.lit.variable) terms

abbrev AreAbove : ℕ → List Term → Type 0
AreAbove v terms = All (λ t. v < t.lit.variable) terms

abbrev AreSome : List Term → Type 0
AreSome terms = All (λ t. 0 < t.coef) terms

-- the assignment, but for one variable
abbrev given : (ℕ → Bool) → ℕ → Bool → ℕ → Bool
given full v truth w = cond (eqb v w) truth (full w)

above_head : (t : Term) (terms : List Term) → AreApart (t ∷ terms) → AreAbove t.lit.variable terms
above_head t terms apart = λ k d h. apart 0 (suc k) d (omega arith) (omega arith)

apart_tail : (t : Term) (terms : List Term) → AreApart (t ∷ terms) → AreApart terms
apart_tail t terms apart = λ i j d lt h. apart (suc i) (suc j) d (omega arith) (omega arith)

above_lower : (low v : ℕ) (terms : List Term) → low < v → AreAbove v terms → AreAbove low terms
above_lower low v terms lt above = λ k d h. let far = above k d h in omega (arith, far, lt)

sum_cons : (full : ℕ → Bool) (t : Term) (terms : List Term) → true_sum full (t ∷ terms) ≡ cond (holds full t.lit) t.coef 0 + true_sum full terms
sum_cons full t terms = sum_by-cons (λ (u : Term). cond (holds full u.lit) u.coef 0) t terms

-- A variable below all others counts nothing.
given_above : (full : ℕ → Bool) (v : ℕ) (truth : Bool) (terms : List Term) → AreAbove v terms → true_sum (given full v truth) terms ≡ true_sum full terms
given_above full v truth [] above = refl
given_above full v truth (t ∷ terms) above =
    let here : v < t.lit.variable = All-head (λ (u : Term). v < u.lit.variable) t terms above in
    let rest = given_above full v truth terms (All-tail (λ (u : Term). v < u.lit.variable) t terms above) in
    let same : given full v truth t.lit.variable ≡ full t.lit.variable = grind (arith, nat_tests) in
    sum_cons (given full v truth) t terms ∙ rw (same, rest) (sym (sum_cons full t terms))

-- what a literal of the variable adds, once its truth is given
given_share : (full : ℕ → Bool) (truth : Bool) (t : Term) → cond (holds (given full t.lit.variable truth) t.lit) t.coef 0 ≡ cond (cond t.lit.positive truth (not truth)) t.coef 0
given_share full truth t =
    let same : given full t.lit.variable truth t.lit.variable ≡ truth = grind (arith, nat_tests) in
    rw same refl

given_own : (full : ℕ → Bool) (truth : Bool) (t : Term) (terms : List Term) → AreApart (t ∷ terms) → true_sum (given full t.lit.variable truth) (t ∷ terms) ≡ cond (cond t.lit.positive truth (not truth)) t.coef 0 + true_sum full terms
given_own full truth t terms apart =
    sum_cons (given full t.lit.variable truth) t terms ∙ rw (given_share full truth t, given_above full t.lit.variable truth terms (above_head t terms apart)) refl

-- A variable that one list alone has makes a difference.
differs : (p : Bool) (c s o m n : ℕ) → 0 < c → cond (cond p true false) c 0 + s + m ≡ o + n → cond (cond p false true) c 0 + s + m ≡ o + n → ⊥
differs true c s o m n some one other = absurd (omega arith)
differs false c s o m n some one other = absurd (omega arith)

none : ℕ → Bool
none = λ w. false

alone : (t : Term) (ts others : List Term) (m n : ℕ) → AreApart (t ∷ ts) → 0 < t.coef → AreAbove t.lit.variable others → ((full : ℕ → Bool) → true_sum full (t ∷ ts) + m ≡ true_sum full others + n) → ⊥
alone t ts others m n apart some above same = differs t.lit.positive t.coef (true_sum none ts) (true_sum none others) m n some (margin true) (margin false)
  where
    margin : (truth : Bool) → cond (cond t.lit.positive truth (not truth)) t.coef 0 + true_sum none ts + m ≡ true_sum none others + n
    margin truth = ap (λ k. k + m) (sym (given_own none truth t ts apart)) ∙ same (given none t.lit.variable truth) ∙ ap (λ k. k + n) (given_above none t.lit.variable truth others above)

-- Where both lists have the variable, they have it in one literal, as often.
same_share : (p q : Bool) (c d s o m n : ℕ) → 0 < c → 0 < d → cond (cond p true false) c 0 + s + m ≡ cond (cond q true false) d 0 + o + n → cond (cond p false true) c 0 + s + m ≡ cond (cond q false true) d 0 + o + n → (p ≡ q) × (c ≡ d)
same_share true true c d s o m n some more one other = (refl, omega arith)
same_share true false c d s o m n some more one other = absurd (omega arith)
same_share false true c d s o m n some more one other = absurd (omega arith)
same_share false false c d s o m n some more one other = (refl, omega arith)

same_term : (t u : Term) → t.lit.variable ≡ u.lit.variable → t.lit.positive ≡ u.lit.positive → t.coef ≡ u.coef → t ≡ u
same_term t u variable positive coef =
    let is : record { coef = t.coef; lit = record { variable = t.lit.variable; positive = t.lit.positive } } ≡ record { coef = u.coef; lit = record { variable = u.lit.variable; positive = u.lit.positive } } = rw (variable, positive, coef) refl in
    is

together : (t u : Term) (ts us : List Term) (m n : ℕ) → t.lit.variable ≡ u.lit.variable → AreApart (t ∷ ts) → AreApart (u ∷ us) → 0 < t.coef → 0 < u.coef → ((full : ℕ → Bool) → true_sum full (t ∷ ts) + m ≡ true_sum full (u ∷ us) + n) → t ≡ u
together t u ts us m n one apart other some more same = same_term t u one share.0 share.1
  where
    of_other : (truth : Bool) → true_sum (given none t.lit.variable truth) (u ∷ us) ≡ cond (cond u.lit.positive truth (not truth)) u.coef 0 + true_sum none us
    of_other truth = ap (λ v. true_sum (given none v truth) (u ∷ us)) one ∙ given_own none truth u us other

    margin : (truth : Bool) → cond (cond t.lit.positive truth (not truth)) t.coef 0 + true_sum none ts + m ≡ cond (cond u.lit.positive truth (not truth)) u.coef 0 + true_sum none us + n
    margin truth = ap (λ k. k + m) (sym (given_own none truth t ts apart)) ∙ same (given none t.lit.variable truth) ∙ ap (λ k. k + n) (of_other truth)

    share : (t.lit.positive ≡ u.lit.positive) × (t.coef ≡ u.coef)
    share = same_share t.lit.positive u.lit.positive t.coef u.coef (true_sum none ts) (true_sum none us) m n some more (margin true) (margin false)

-- Sums that differ by a constant are of the same terms.
same_terms : (ts us : List Term) (m n : ℕ) → AreApart ts → AreApart us → AreSome ts → AreSome us → ((full : ℕ → Bool) → true_sum full ts + m ≡ true_sum full us + n) → (ts ≡ us) × (m ≡ n)
same_terms [] [] m n one other some more same = let is : 0 + m ≡ 0 + n = same none in (refl, omega (arith, is))
same_terms [] (u ∷ us) m n one other some more same =
    absurd (alone u us [] n m other (All-head (λ (t : Term). 0 < t.coef) u us more) (λ k d h. absurd (omega arith)) (λ full. sym (same full)))
same_terms (t ∷ ts) [] m n one other some more same =
    absurd (alone t ts [] m n one (All-head (λ (t : Term). 0 < t.coef) t ts some) (λ k d h. absurd (omega arith)) same)
same_terms (t ∷ ts) (u ∷ us) m n one other some more same =
    let rest : t ≡ u → (ts ≡ us) × (m ≡ n) = λ is.
    same_terms ts us m n (apart_tail t ts one) (apart_tail u us other)
    (All-tail (λ (v : Term). 0 < v.coef) t ts some) (All-tail (λ (v : Term). 0 < v.coef) u us more) (rest_same is) in
    ⊎_elim (λ lt. absurd (alone t ts (u ∷ us) m n one first (above_all t.lit.variable u us lt other) same))
    (λ ge. ⊎_elim (λ gt. absurd (alone u us (t ∷ ts) n m other second (above_all u.lit.variable t ts gt one) (λ full. sym (same full)))) (λ le. both (omega arith) rest) (cases_lt u.lit.variable t.lit.variable))
    (cases_lt t.lit.variable u.lit.variable)
  where
    first : 0 < t.coef
    first = All-head (λ (v : Term). 0 < v.coef) t ts some

    second : 0 < u.coef
    second = All-head (λ (v : Term). 0 < v.coef) u us more

    above_all : (low : ℕ) (v : Term) (vs : List Term) → low < v.lit.variable → AreApart (v ∷ vs) → AreAbove low (v ∷ vs)
    above_all low v vs lt apart = All-cons (λ (w : Term). low < w.lit.variable) v vs lt (above_lower low v.lit.variable vs lt (above_head v vs apart))

    both : t.lit.variable ≡ u.lit.variable → (t ≡ u → (ts ≡ us) × (m ≡ n)) → (t ∷ ts ≡ u ∷ us) × (m ≡ n)
    both at rest =
        let head = together t u ts us m n at one other first second same in
        let behind = rest head in
        (rw (head, behind.0) refl, behind.1)

    rest_same : t ≡ u → (full : ℕ → Bool) → true_sum full ts + m ≡ true_sum full us + n
    rest_same is full =
        let whole = same full in
        let here = sum_cons full t ts in
        let there = sum_cons full u us in
        let shares : cond (holds full t.lit) t.coef 0 ≡ cond (holds full u.lit) u.coef 0 = rw is refl in
        omega arith

-- ---- normal forms

apart_from_rising : (terms : List Term) → IsStrictlyIncreasing (map (λ t. t.lit.variable) terms) → AreApart terms
apart_from_rising terms rising i j d lt h =
    let pairs = AllPairs-from_increasing (map (λ u. u.lit.variable) terms) rising i j 0 lt (rw (length-map terms (λ (u : Term). u.lit.variable)) h) in
    let one : get_or (map (λ u. u.lit.variable) terms) i 0 ≡ (get_or terms i d).lit.variable = get_or-map (λ (u : Term). u.lit.variable) terms i d 0 (omega arith) in
    let two : get_or (map (λ u. u.lit.variable) terms) j 0 ≡ (get_or terms j d).lit.variable = get_or-map (λ (u : Term). u.lit.variable) terms j d 0 h in
    omega (arith, pairs, one, two)

pub one_form : (terms : List SignedTerm) (degree : ℤ) (a b : AtLeast) → IsNormalised terms degree a → IsNormalised terms degree b → a ≡ b
one_form terms degree a b n o = is
  where
    same : (n.joined ≡ o.joined) × (b.degree ≡ a.degree)
    same = same_terms n.joined o.joined b.degree a.degree (apart_from_rising n.joined n.rising) (apart_from_rising o.joined o.rising) n.above_none o.above_none
        (λ full. let one = n.same_margin full in let other = o.same_margin full in omega (arith, ints))

    terms_are : a.terms ≡ b.terms
    terms_are = n.clips ∙ rw (same.0, same.1) refl ∙ sym o.clips

    is : ◌≡◌ {A = AtLeast} (record { terms = a.terms; degree = a.degree }) (record { terms = b.terms; degree = b.degree })
    is = rw (terms_are, same.1) refl

one_constraint : (row : Row) (a b : Constraint) → IsNormalOf row a → IsNormalOf row b → a ≡ b
one_constraint row a b n o = is
  where
    forms : at_least a ≡ at_least b
    forms = one_form row.terms row.degree (at_least a) (at_least b) n.normalised o.normalised

    origins : a.origin ≡ b.origin
    origins = n.origin ∙ sym o.origin

    terms : a.terms ≡ b.terms
    terms = ap (λ (f : AtLeast). f.terms) forms

    degrees : a.degree ≡ b.degree
    degrees = ap (λ (f : AtLeast). f.degree) forms

    is : ◌≡◌ {A = Constraint} (record { terms = a.terms; degree = a.degree; origin = a.origin }) (record { terms = b.terms; degree = b.degree; origin = b.origin })
    is = rw (terms, degrees, origins) refl

-- ---- lists of constraints

pub one_list : (rows : List Row) (a b : List Constraint) → AreNormalised rows a → AreNormalised rows b → a ≡ b
one_list [] a b n o = n ∙ sym o
one_list (row ∷ rows) a b n o = elim n [
  | inl left ↦ elim o [
    | inl other ↦ one_list rows a b left.1 other.1
    | inr other ↦ absurd (never row other.0 left.0 other.3)
  ]
  | inr kept ↦ elim o [
    | inl other ↦ absurd (never row kept.0 other.0 kept.3)
    | inr other ↦
        let rest = one_list rows kept.1 other.1 kept.4 other.4 in
        let one = one_constraint row kept.0 other.0 kept.3 other.3 in
        kept.2 ∙ rw (one, rest) refl ∙ sym other.2
  ]
]
  where
    never : (r : Row) (c : Constraint) → ((full : ℕ → Bool) → Satisfies full r) → IsNormalOf r c → ⊥
    never r c always is = let some = normalised_some r.terms r.degree (at_least c) is.normalised is.normal in some.1 (always some.0)

-- The constraints of the first rows stand first.
front : (first later : List Row) (constraints : List Constraint) → AreNormalised (first ++ later) constraints → (a b : List Constraint) × (constraints ≡ a ++ b) × AreNormalised first a
front [] later constraints n = ([], constraints, refl, refl)
front (row ∷ first) later constraints n = elim n [
  | inl left ↦ let rest = front first later constraints left.1 in (rest.0, rest.1, rest.2, inl (left.0, rest.3))
  | inr kept ↦
      let rest = front first later kept.1 kept.4 in
      (kept.0 ∷ rest.0, rest.1, kept.2 ∙ ap (λ xs. kept.0 ∷ xs) rest.2, inr (kept.0, rest.0, refl, kept.3, rest.3))
]

pub terms_counted : (most : ℕ) (rows : List Row) (constraints : List Constraint) → AreNormalised rows constraints → HasMoreTerms most rows → most < term_count constraints
terms_counted most rows constraints n more =
    let P : List Row → Type 0 = λ given. AreNormalised given constraints in
    let parts = front more.first more.later constraints (subst P more.split n) in
    let same = one_list more.first parts.0 more.constraints parts.3 more.normalised in
    let count = sum_by-append (λ (c : Constraint). length c.terms) parts.0 parts.1 in
    let total : term_count constraints ≡ term_count more.constraints + term_count parts.1 = ap term_count parts.2 ∙ count ∙ rw same refl in
    let many = more.many in
    omega arith
