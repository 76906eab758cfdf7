-- `==` on filters answers true exactly where they are equal.
use Rattle.std.proofs.Common.{◌≡◌, ℕ, Bool, true, false, ◌&&◌, nat_eq, List, [], ◌∷◌, map, refl, ap, sym, subst, ◌∙◌, true≢false, arith}
use Rattle.std.specs.Cmp.{IsEquivalence}
use Rattle.std.specs.Cmp.Lexicographic.{pointwise}
use Rattle.std.proofs.lemmas.Bool.Decides.{nat_tests}
use Rattle.ldap_filter.specs.Same.{text_eq, test_eq, each_is, levels_eq, filter_eq}
use Rattle.ldap_filter.specs.declared.test.Test.{Test}
use Rattle.ldap_filter.specs.declared.test.Test.TheVariants.{Equal, Near, AtLeast, AtMost, Present}
use Rattle.ldap_filter.specs.declared.filter.Filter.{Filter, out-Filter, roll-Filter, fold-roll-Filter, ind-Filter}
use Rattle.ldap_filter.specs.declared.filter.Filter.TheViews.{out-roll-Filter, roll-out-Filter}
use Rattle.ldap_filter.specs.declared.filter.Filter.TheFolds.{map-Filter}
use Rattle.ldap_filter.specs.declared.filter.Filter.TheOpen.{Filter-F, And, Or, Not, Item}

both : (x y : Bool) → (x && y) ≡ true → (x ≡ true) × (y ≡ true)
both true true e = (refl, refl)
both true false e = absurd (cc)
both false y e = absurd (cc)

-- A test that holds of equals alone is an equivalence.
module _ {K : Type 0} (E : K → K → Bool) (itself : (x : K) → E x x ≡ true) (same : (x y : K) → E x y ≡ true → x ≡ y) where
  by_cases : (x y : K) (p q : Bool) → E x y ≡ p → E y x ≡ q → p ≡ q
  by_cases x y true true h k = refl
  by_cases x y false false h k = refl
  by_cases x y true false h k =
      let e = same x y h in
      absurd (true≢false (sym (itself y) ∙ (ap (λ z. E y z) (sym e) ∙ k)))
  by_cases x y false true h k =
      let e = same y x k in
      absurd (true≢false (sym (itself x) ∙ (ap (λ z. E x z) (sym e) ∙ h)))

  pub IsEquivalence-decided : IsEquivalence E
  IsEquivalence-decided = record {
    refl = itself;
    symm = λ x y. by_cases x y (E x y) (E y x) refl refl;
    congr = λ x y z h. ap (λ w. E w z) (same x y h);
  }

  pointwise-itself : (xs : List K) → pointwise E xs xs ≡ true
  pointwise-itself [] = refl
  pointwise-itself (x ∷ xs) = rw (itself x) (pointwise-itself xs)

  pointwise-same : (xs ys : List K) → pointwise E xs ys ≡ true → xs ≡ ys
  pointwise-same [] [] e = refl
  pointwise-same [] (y ∷ ys) e = absurd (cc)
  pointwise-same (x ∷ xs) [] e = absurd (cc)
  pointwise-same (x ∷ xs) (y ∷ ys) e =
      let parts = both _ _ e in
      let first = same x y parts.0 in
      let rest = pointwise-same xs ys parts.1 in
      cc

nat_eq-itself : (n : ℕ) → nat_eq n n ≡ true
nat_eq-itself n = grind (arith, nat_tests)

nat_eq-same : (m n : ℕ) → nat_eq m n ≡ true → m ≡ n
nat_eq-same m n h = grind (arith, nat_tests)

pub text_eq-itself : (a : List ℕ) → text_eq a a ≡ true
text_eq-itself = pointwise-itself nat_eq nat_eq-itself nat_eq-same

pub text_eq-same : (a b : List ℕ) → text_eq a b ≡ true → a ≡ b
text_eq-same = pointwise-same nat_eq nat_eq-itself nat_eq-same

test_eq-itself : (t : Test) → test_eq t t ≡ true
test_eq-itself (Equal ps) = pointwise-itself text_eq text_eq-itself text_eq-same ps
test_eq-itself (Near v) = text_eq-itself v
test_eq-itself (AtLeast v) = text_eq-itself v
test_eq-itself (AtMost v) = text_eq-itself v
test_eq-itself Present = refl

test_eq-same : (t u : Test) → test_eq t u ≡ true → t ≡ u
test_eq-same (Equal ps) (Equal qs) e = ap Equal (pointwise-same text_eq text_eq-itself text_eq-same ps qs e)
test_eq-same (Near v) (Near w) e = ap Near (text_eq-same v w e)
test_eq-same (AtLeast v) (AtLeast w) e = ap AtLeast (text_eq-same v w e)
test_eq-same (AtMost v) (AtMost w) e = ap AtMost (text_eq-same v w e)
test_eq-same Present Present e = refl
test_eq-same (Equal ps) (Near w) e = absurd (cc)
test_eq-same (Equal ps) (AtLeast w) e = absurd (cc)
test_eq-same (Equal ps) (AtMost w) e = absurd (cc)
test_eq-same (Equal ps) Present e = absurd (cc)
test_eq-same (Near v) (Equal w) e = absurd (cc)
test_eq-same (Near v) (AtLeast w) e = absurd (cc)
test_eq-same (Near v) (AtMost w) e = absurd (cc)
test_eq-same (Near v) Present e = absurd (cc)
test_eq-same (AtLeast v) (Equal w) e = absurd (cc)
test_eq-same (AtLeast v) (Near w) e = absurd (cc)
test_eq-same (AtLeast v) (AtMost w) e = absurd (cc)
test_eq-same (AtLeast v) Present e = absurd (cc)
test_eq-same (AtMost v) (Equal w) e = absurd (cc)
test_eq-same (AtMost v) (Near w) e = absurd (cc)
test_eq-same (AtMost v) (AtLeast w) e = absurd (cc)
test_eq-same (AtMost v) Present e = absurd (cc)
test_eq-same Present (Equal w) e = absurd (cc)
test_eq-same Present (Near w) e = absurd (cc)
test_eq-same Present (AtLeast w) e = absurd (cc)
test_eq-same Present (AtMost w) e = absurd (cc)

pub test_eq-equiv : IsEquivalence test_eq
test_eq-equiv = IsEquivalence-decided test_eq test_eq-itself test_eq-same

-- what is shown of each filter below
record IsDecided (f : Filter) : Type 0 where
  itself : filter_eq f f ≡ true
  same : (g : Filter) → filter_eq f g ≡ true → f ≡ g

abbrev Decided : Type 0
Decided = (f : Filter) × IsDecided f

-- the filters of a level of decided ones
abbrev bare : Decided → Filter
bare e = e.0

each_is-itself : (fs : List Decided) → each_is (map filter_eq (map bare fs)) (map bare fs) ≡ true
each_is-itself [] = refl
each_is-itself (f ∷ fs) = rw f.1.itself (each_is-itself fs)

each_is-same : (fs : List Decided) (gs : List Filter) → each_is (map filter_eq (map bare fs)) gs ≡ true → map bare fs ≡ gs
each_is-same [] [] e = refl
each_is-same [] (g ∷ gs) e = absurd (cc)
each_is-same (f ∷ fs) [] e = absurd (cc)
each_is-same (f ∷ fs) (g ∷ gs) e =
    let parts = both _ _ e in
    let first = f.1.same g parts.0 in
    let rest = each_is-same fs gs parts.1 in
    cc

levels_eq-itself : (y : Filter-F Decided) → levels_eq (map-Filter Filter (Filter → Bool) filter_eq (map-Filter Decided Filter bare y)) (map-Filter Decided Filter bare y) ≡ true
levels_eq-itself (And fs) = each_is-itself fs
levels_eq-itself (Or fs) = each_is-itself fs
levels_eq-itself (Not f) = f.1.itself
levels_eq-itself (Item a t) = rw (text_eq-itself a) (test_eq-itself t)

levels_eq-same : (y : Filter-F Decided) (z : Filter-F Filter) → levels_eq (map-Filter Filter (Filter → Bool) filter_eq (map-Filter Decided Filter bare y)) z ≡ true → map-Filter Decided Filter bare y ≡ z
levels_eq-same (And fs) (And gs) e = ap And (each_is-same fs gs e)
levels_eq-same (Or fs) (Or gs) e = ap Or (each_is-same fs gs e)
levels_eq-same (Not f) (Not g) e = ap Not (f.1.same g e)
levels_eq-same (Item a t) (Item b u) e =
    let parts = both _ _ e in
    let attr = text_eq-same a b parts.0 in
    let test = test_eq-same t u parts.1 in
    cc
levels_eq-same (And fs) (Or gs) e = absurd (cc)
levels_eq-same (And fs) (Not g) e = absurd (cc)
levels_eq-same (And fs) (Item b u) e = absurd (cc)
levels_eq-same (Or fs) (And gs) e = absurd (cc)
levels_eq-same (Or fs) (Not g) e = absurd (cc)
levels_eq-same (Or fs) (Item b u) e = absurd (cc)
levels_eq-same (Not f) (And gs) e = absurd (cc)
levels_eq-same (Not f) (Or gs) e = absurd (cc)
levels_eq-same (Not f) (Item b u) e = absurd (cc)
levels_eq-same (Item a t) (And gs) e = absurd (cc)
levels_eq-same (Item a t) (Or gs) e = absurd (cc)
levels_eq-same (Item a t) (Not g) e = absurd (cc)

filter_eq-roll : (x : Filter-F Filter) (g : Filter) → filter_eq (roll-Filter x) g ≡ levels_eq (map-Filter Filter (Filter → Bool) filter_eq x) (out-Filter g)
filter_eq-roll x g = ap (λ t. t g) (fold-roll-Filter (Filter → Bool) (λ level h. levels_eq level (out-Filter h)) x)

decided : (f : Filter) → IsDecided f
decided = ind-Filter IsDecided (λ x y is. subst (λ x. IsDecided (roll-Filter x)) is record {
  itself = filter_eq-roll _ _ ∙ (ap (levels_eq _) (out-roll-Filter _) ∙ levels_eq-itself y);
  same = λ g e. ap roll-Filter (levels_eq-same y (out-Filter g) (sym (filter_eq-roll _ g) ∙ e)) ∙ roll-out-Filter g;
})

pub filter_eq-equiv : IsEquivalence filter_eq
filter_eq-equiv = IsEquivalence-decided filter_eq (λ f. (decided f).itself) (λ f g. (decided f).same g)
