-- Variables that look-ups lead to.
use Rattle.std.proofs.Common.{◌≡◌, ◌≢◌, ℕ, ◌<◌, ◌≤◌, inl, inr, Bool, true, not, eqb, Some, None, Option, List, [], ◌∷◌, ◌++◌, length, get_or, take, All, AllPairs, Contains, refl, sym, ◌∙◌, ap, subst, arith}
use Rattle.std.specs.List.{slice_get, filter}
use Rattle.std.specs.List.Sorted.{IsPermutation, IsSorted}
use Rattle.std.specs.Option.{option_to_list}
use Rattle.std.specs.Ordering.{nat_cmp}
use Rattle.std.proofs.lemmas.Bool.Decides.{Decides-eqb, eqb_tells}
use Rattle.std.proofs.lemmas.List.{length-map, length-take-le, get_or-take, get_or_default}
use Rattle.std.proofs.lemmas.List.Elements.{All-nil, All-cons, All-push, All-contains, All-weaker, Contains-append_left, Contains-push}
use Rattle.std.proofs.lemmas.List.FromFn.{length-enumerate_from}
use Rattle.std.proofs.lemmas.List.Kept.{AllPairs-from_increasing}
use Rattle.std.proofs.lemmas.List.Quantifiers.{all_pairs_push}
use Rattle.std.proofs.lemmas.List.Sorted.{IsNonDecreasingBy-from_sort, Contains-permutation, All-permutation}
use Rattle.std.proofs.lemmas.List.Filters.{length-filter_both}
use Rattle.std.proofs.lemmas.Map.Keys.{IsDistinct-IsPermutation, IsStrictlyIncreasing-from_distinct}
use Rattle.std.proofs.lemmas.Map.Made.{IsDistinct-from_AllPairs}
use Rattle.std.proofs.lemmas.Option.{same_Some, slice_get_within, get_or_from_slice_get}
use Rattle.unit_model.specs.Matches.{Matches}
use Rattle.unit_model.specs.declared.name.UnitName.{UnitName}
use Rattle.unit_model.specs.declared.required.Required.{Required}
use Rattle.unit_model.specs.declared.unit.Unit.{Unit as Package}
use Rattle.unit_catalog.specs.At.{HasAt}
use Rattle.unit_catalog.specs.Named.{HasDistinctNames}
use Rattle.unit_catalog.specs.Providers.{AreProviders}
use Rattle.pb_rows.specs.Deciding.{same_name, matches}
use Rattle.pb_rows.specs.Members.{numbered, variables}
use Rattle.pb_rows.proofs.DecidingLaws.{Decides-matches, Decides-same_name}
use Rattle.pb_rows.proofs.VariableLaws.{IsVariableOf, are_variables}
use Rattle.unit_catalog.specs.Order.{AreMembers, units_at}
use Rattle.pb_encode.specs.Places.{IsVariableOfNumber, IsVariableAt, IsVariableAmong, AreFound}
use Rattle.pb_encode.proofs.MemberLaws.{member_at, number_at, distinct_numbers, same_place}

pub few_variables : (test : Package → Bool) (ms : List Package) → length (variables test ms) ≤ length ms
few_variables test ms =
    let parts = length-filter_both (λ (m : ℕ × Package). test m.1) (λ m. not (test m.1)) (λ m. refl) (numbered ms) in
    let all : length (numbered ms) ≡ length ms = length-enumerate_from 1 ms in
    let same : length (variables test ms) ≡ length (filter (λ m. test m.1) (numbered ms)) = length-map (filter (λ m. test m.1) (numbered ms)) (λ (m : ℕ × Package). m.0) in
    omega arith

-- ---- one number more

pub found_none : (numbers : List ℕ) → AreFound numbers [] []
found_none numbers = record {
  each = All-nil (IsVariableAmong numbers []);
  every = All-nil (λ n. (v : ℕ) → IsVariableOfNumber numbers n v → Contains [] v);
  distinct = λ i j d lt h. absurd (omega arith);
}

among_more : (numbers given : List ℕ) (n v : ℕ) → IsVariableAmong numbers given v → IsVariableAmong numbers (given ++ n ∷ []) v
among_more numbers given n v is = record { number = is.number; stands = Contains-append_left given (n ∷ []) is.number is.stands; variable = is.variable }

pub found_more : (numbers given found : List ℕ) (n v : ℕ) → AllPairs (λ m k. m ≢ k) numbers → All (λ m. m < n) given → IsVariableOfNumber numbers n v → AreFound numbers given found → AreFound numbers (given ++ n ∷ []) (found ++ v ∷ [])
found_more numbers given found n v apart below is old = record {
  each = All-push (IsVariableAmong numbers (given ++ n ∷ [])) found v
      (All-weaker (IsVariableAmong numbers given) (IsVariableAmong numbers (given ++ n ∷ [])) (λ w among. among_more numbers given n w among) found old.each)
      (record { number = n; stands = Contains-push given n; variable = is });
  every = All-push (λ m. (w : ℕ) → IsVariableOfNumber numbers m w → Contains (found ++ v ∷ []) w) given n
      (λ k d h. λ w var. Contains-append_left found (v ∷ []) w (old.every k d h w var))
      (λ w var. subst (Contains (found ++ v ∷ [])) (same_variable w var) (Contains-push found v));
  distinct = all_pairs_push (λ w x. w ≢ x) found v old.distinct (λ k d h. λ e. twice (get_or found k d) (old.each k d h) e);
}
  where
    same_variable : (w : ℕ) → IsVariableOfNumber numbers n w → v ≡ w
    same_variable w var =
        let places : is.place ≡ var.place = same_place numbers is.place var.place n apart is.here var.here in
        omega (arith, is.is, var.is)

    twice : (w : ℕ) → IsVariableAmong numbers given w → w ≡ v → ⊥
    twice w among e =
        let places : among.variable.place ≡ is.place = omega (arith, e, among.variable.is, is.is) in
        let numbers_same : among.number ≡ n = same_Some among.number n (sym among.variable.here ∙ (ap (slice_get numbers) places ∙ is.here)) in
        let lt : among.number < n = All-contains (λ m. m < n) given among.number below among.stands in
        omega arith

pub found_same : (numbers given found : List ℕ) (n : ℕ) → IsVariableAt numbers n None → AreFound numbers given found → AreFound numbers (given ++ n ∷ []) found
found_same numbers given found n none old = record {
  each = All-weaker (IsVariableAmong numbers given) (IsVariableAmong numbers (given ++ n ∷ [])) (λ w among. among_more numbers given n w among) found old.each;
  every = All-push (λ m. (w : ℕ) → IsVariableOfNumber numbers m w → Contains found w) given n old.every (λ w var. absurd (none var.place var.here));
  distinct = old.distinct;
}

-- what rises lies below each later number
pub below_later : (given : List ℕ) (i : ℕ) (d : ℕ) → AllPairs (λ m n. m < n) given → i < length given → All (λ m. m < get_or given i d) (take i given)
below_later given i d rise h k e lt =
    let cut : length (take i given) ≡ i = length-take-le i given (omega arith) in
    let within : k < i = omega arith in
    let same : get_or (take i given) k e ≡ get_or given k e = get_or-take i given k e within in
    let lt : get_or given k e < get_or given i e = rise k i e within h in
    let last : get_or given i e ≡ get_or given i d = get_or_default given i e d h in
    omega arith

-- ---- what matches

each_matching : (units : List Package) (numbers : List ℕ) (r : Required) (providers found : List ℕ) → AreMembers units numbers → AreProviders units r providers → AreFound numbers providers found → All (IsVariableOf (matches r) (units_at units numbers)) found
each_matching units numbers r providers found are some is =
    All-weaker (IsVariableAmong numbers providers) (IsVariableOf (matches r) (units_at units numbers))
    (λ v among.
    let has = All-contains (HasAt units (Matches r)) providers among.number some.each among.stands in
    record {
      place = among.variable.place;
      unit = has.unit;
      here = member_at units numbers are.there among.variable.place among.number has.unit among.variable.here has.here;
      passes = (Decides-matches r has.unit).1 has.has;
      is = among.variable.is;
    })
    found is.each

every_matching : (units : List Package) (numbers : List ℕ) (r : Required) (providers found : List ℕ) → AreMembers units numbers → AreProviders units r providers → AreFound numbers providers found → (v : ℕ) → IsVariableOf (matches r) (units_at units numbers) v → Contains found v
every_matching units numbers r providers found are some is v var =
    let at = number_at units numbers are.there var.place var.unit var.here in
    let has : HasAt units (Matches r) at.number = record { unit = var.unit; here = at.unit; has = (Decides-matches r var.unit).0 var.passes } in
    All-contains (λ n. (w : ℕ) → IsVariableOfNumber numbers n w → Contains found w) providers at.number is.every (some.every at.number has) v (record { place = var.place; is = var.is; here = at.stands })

eqb_flips : (a b : ℕ) → eqb a b ≡ eqb b a
eqb_flips a b = elim (eqb_tells a b) [
  | inl same ↦ let back : eqb b a ≡ true = (Decides-eqb b a).1 (sym same.1) in same.0 ∙ sym back
  | inr other ↦ elim (eqb_tells b a) [ inl back ↦ absurd (other.1 (sym back.1)) | inr apart ↦ other.0 ∙ sym apart.0 ]
]

rising_sorted : (found sorted : List ℕ) → AllPairs (λ v w. v ≢ w) found → IsPermutation found sorted → IsSorted nat_cmp sorted → AllPairs (λ v w. v < w) sorted
rising_sorted found sorted apart moved order =
    AllPairs-from_increasing sorted
    (IsStrictlyIncreasing-from_distinct sorted (IsNonDecreasingBy-from_sort (λ n. n) sorted order)
    (IsDistinct-IsPermutation eqb eqb_flips found sorted moved (IsDistinct-from_AllPairs Decides-eqb found apart)))

pub matching_is : (units : List Package) (numbers : List ℕ) (r : Required) (providers found sorted : List ℕ) → AreMembers units numbers → AreProviders units r providers → AreFound numbers providers found → IsPermutation found sorted → IsSorted nat_cmp sorted → sorted ≡ variables (matches r) (units_at units numbers)
matching_is units numbers r providers found sorted are some is moved order =
    are_variables (matches r) (units_at units numbers) sorted (rising_sorted found sorted is.distinct moved order)
    (All-permutation (IsVariableOf (matches r) (units_at units numbers)) found sorted moved (each_matching units numbers r providers found are some is))
    (λ v var. Contains-permutation found sorted v moved (every_matching units numbers r providers found are some is v var))

-- ---- what is named

abbrev Named : UnitName → Package → Bool
Named name u = same_name u.name name

pub none_named : (units : List Package) (numbers : List ℕ) (name : UnitName) → AreMembers units numbers → ((k n : ℕ) (u : Package) → slice_get numbers k ≡ Some n → slice_get units n ≡ Some u → u.name ≢ name) → [] ≡ variables (Named name) (units_at units numbers)
none_named units numbers name are none =
    are_variables (Named name) (units_at units numbers) [] (λ i j d lt h. absurd (omega arith)) (All-nil (IsVariableOf (Named name) (units_at units numbers)))
    (λ v var.
    let at = number_at units numbers are.there var.place var.unit var.here in
    absurd (none var.place at.number var.unit at.stands at.unit ((Decides-same_name var.unit.name name).0 var.passes)))

-- no unit of the catalog has the name
pub new_named : (units : List Package) (numbers : List ℕ) (name : UnitName) → AreMembers units numbers → All (λ u. u.name ≢ name) units → [] ≡ variables (Named name) (units_at units numbers)
new_named units numbers name are new =
    none_named units numbers name are
    (λ k n u e f. let P : Package → Type 0 = λ w. w.name ≢ name in subst P (get_or_from_slice_get units n u u f) (new n u (slice_get_within units n u f)))

same_number : (units : List Package) (name : UnitName) (m n : ℕ) (u v : Package) → HasDistinctNames units → slice_get units m ≡ Some u → slice_get units n ≡ Some v → u.name ≡ name → v.name ≡ name → m ≡ n
same_number units name m n u v distinct e f a b =
    let one : get_or units m u ≡ u = get_or_from_slice_get units m u u e in
    let other : get_or units n u ≡ v = get_or_from_slice_get units n v u f in
    let first : m < length units = slice_get_within units m u e in
    let second : n < length units = slice_get_within units n v f in
    let named : (get_or units m u).name ≡ (get_or units n u).name = ap (λ (w : Package). w.name) one ∙ (a ∙ (sym b ∙ sym (ap (λ (w : Package). w.name) other))) in
    let below : (m < n → ⊥) = λ lt. distinct m n u lt second named in
    let above : (n < m → ⊥) = λ lt. distinct n m u lt first (sym named) in
    grind (arith, below, above)

pub found_named : (units : List Package) (numbers : List ℕ) (name : UnitName) (n : ℕ) (o : Option ℕ) → AreMembers units numbers → HasDistinctNames units → HasAt units (λ u. u.name ≡ name) n → IsVariableAt numbers n o → option_to_list o ≡ variables (Named name) (units_at units numbers)
found_named units numbers name n None are distinct has none =
    none_named units numbers name are
    (λ k m u e f. λ named. none k (e ∙ ap Some (same_number units name m n u has.unit distinct f has.here named has.has)))
found_named units numbers name n (Some v) are distinct has var =
    are_variables (Named name) (units_at units numbers) (v ∷ []) (λ i j d lt h. absurd (omega arith))
    (All-cons (IsVariableOf (Named name) (units_at units numbers)) v []
    (record {
      place = var.place;
      unit = has.unit;
      here = member_at units numbers are.there var.place n has.unit var.here has.here;
      passes = (Decides-same_name has.unit.name name).1 has.has;
      is = var.is;
    })
    (All-nil (IsVariableOf (Named name) (units_at units numbers))))
    (λ w other.
    let at = number_at units numbers are.there other.place other.unit other.here in
    let one : at.number ≡ n = same_number units name at.number n other.unit has.unit distinct at.unit has.here ((Decides-same_name other.unit.name name).0 other.passes) has.has in
    let places : other.place ≡ var.place = same_place numbers other.place var.place n (distinct_numbers units numbers are) (at.stands ∙ ap Some one) var.here in
    (0, omega arith, omega (arith, var.is, other.is)))
