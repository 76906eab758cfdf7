-- What an operator and a value that are written say.
use Rattle.std.proofs.Common.{◌≡◌, ◌≢◌, ℕ, nat_eq, Bool, true, false, Some, List, [], ◌∷◌, ◌++◌, cond, refl, ap, sym, subst}
use Rattle.std.specs.Cmp.Lexicographic.{pointwise, same_text}
use Rattle.ldap_filter.specs.FilterText.{IsTest}
use Rattle.ldap_filter.specs.FilterValue.{scan, pieces}
use Rattle.ldap_filter.specs.FilterSteps.{test_of}
use Rattle.ldap_filter.specs.declared.test.Test.TheVariants as test
use Rattle.ldap_filter.specs.declared.scan.Operator.{Operator}
use Rattle.ldap_filter.specs.declared.scan.Operator.TheVariants as operator
use Rattle.ldap_filter.proofs.FilterValues.{IsValue-read, ArePieces-read}

-- an operator before its `=`
abbrev pub operator_front : Operator → List ℕ
operator_front operator.Equal = []
operator_front operator.Near = 126 ∷ []
operator_front operator.AtLeast = 62 ∷ []
operator_front operator.AtMost = 60 ∷ []

abbrev pub operator_bytes : Operator → List ℕ
operator_bytes operator.Equal = 61 ∷ []
operator_bytes operator.Near = 126 ∷ 61 ∷ []
operator_bytes operator.AtLeast = 62 ∷ 61 ∷ []
operator_bytes operator.AtMost = 60 ∷ 61 ∷ []

pub operator_whole : (o : Operator) → operator_front o ++ 61 ∷ [] ≡ operator_bytes o
operator_whole operator.Equal = refl
operator_whole operator.Near = refl
operator_whole operator.AtLeast = refl
operator_whole operator.AtMost = refl

not_star : (value : List ℕ) → pointwise nat_eq value (42 ∷ []) ≡ false → value ≢ 42 ∷ []
not_star value e same = let here : pointwise nat_eq (42 ∷ []) (42 ∷ []) ≡ false = subst (λ v. pointwise nat_eq v (42 ∷ []) ≡ false) same e in cc

equal_read : (value : List ℕ) (t : Bool) → pointwise nat_eq value (42 ∷ []) ≡ t → scan false value ≡ Some false → IsTest (61 ∷ value) (cond t test.Present (test.Equal (pieces value)))
equal_read value true e whole = ap (λ v. 61 ∷ v) (same_text value (42 ∷ []) (sym e))
equal_read value false e whole = (value, refl, not_star value e, ArePieces-read value whole)

pub IsTest-read : (o : Operator) (value : List ℕ) → scan false value ≡ Some false → IsTest (operator_bytes o ++ value) (test_of o value)
IsTest-read operator.Equal value whole = equal_read value (pointwise nat_eq value (42 ∷ [])) refl whole
IsTest-read operator.Near value whole = (value, refl, IsValue-read value whole)
IsTest-read operator.AtLeast value whole = (value, refl, IsValue-read value whole)
IsTest-read operator.AtMost value whole = (value, refl, IsValue-read value whole)
