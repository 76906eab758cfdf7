-- When `==` says that two filters are equal: where they are.
use Rattle.std.specs.Prelude.{ℕ, Bool, true, false, ◌&&◌, List, [], ◌∷◌, nat_eq}
use Rattle.std.specs.Cmp.Lexicographic.{pointwise}
use Rattle.ldap_filter.specs.declared.test.Test.{Test}
use Rattle.ldap_filter.specs.declared.test.Test.TheVariants.{Equal, Near, AtLeast, AtMost, Present}
use Rattle.ldap_filter.specs.declared.filter.Filter.{Filter, out-Filter, fold-Filter}
use Rattle.ldap_filter.specs.declared.filter.Filter.TheOpen.{Filter-F, And, Or, Not, Item}

abbrev pub text_eq : List ℕ → List ℕ → Bool
text_eq a b = pointwise nat_eq a b

abbrev pub test_eq : Test → Test → Bool
test_eq (Equal ps) (Equal qs) = pointwise text_eq ps qs
test_eq (Near v) (Near w) = text_eq v w
test_eq (AtLeast v) (AtLeast w) = text_eq v w
test_eq (AtMost v) (AtMost w) = text_eq v w
test_eq Present Present = true
test_eq _ _ = false

-- each test passes at the filter in its place
abbrev pub each_is : List (Filter → Bool) → List Filter → Bool
each_is [] [] = true
each_is (t ∷ ts) (g ∷ gs) = t g && each_is ts gs
each_is _ _ = false

-- one level of a filter, with a test in the place of each filter below, against one level of another
abbrev pub levels_eq : Filter-F (Filter → Bool) → Filter-F Filter → Bool
levels_eq (And ts) (And gs) = each_is ts gs
levels_eq (Or ts) (Or gs) = each_is ts gs
levels_eq (Not t) (Not g) = t g
levels_eq (Item a t) (Item b u) = text_eq a b && test_eq t u
levels_eq _ _ = false

abbrev pub filter_eq : Filter → Filter → Bool
filter_eq = fold-Filter (Filter → Bool) (λ level g. levels_eq level (out-Filter g))
