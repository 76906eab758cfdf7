-- Units in order.
use Rattle.std.proofs.Common.{◌≡◌, ◌≢◌, ℕ, zero, suc, ◌+◌, ◌-◌, ◌<◌, ◌≤◌, ◌⊎◌, inl, inr, true, false, List, [], ◌∷◌, length, get_or, map, refl, sym, ◌∙◌, ap, subst, arith}
use Rattle.std.specs.Prelude.{◌↔◌, Bool, IsTrue, Option, Some, None, Result, Ok, Err, AllPairs, Contains, slice_get}
use Rattle.std.specs.List.{IsAllAdjacentAnswer}
use Rattle.std.specs.Cmp.{IsTotalOrder}
use Rattle.std.specs.Cmp.Lexicographic.{slice_cmp}
use Rattle.std.specs.List.Sorted.{IsBinarySearchResult, IsSearchInRange, IsNonDecreasingBy}
use Rattle.std.specs.Ordering.{nat_cmp, ordering_index, ordering_reverse, ordering_then, is_gt, is_lt}
use Rattle.std.specs.Option.{is_some}
use Rattle.std.specs.Result.{result_ok}
use Rattle.std.specs.declared.cmp.Ordering.{Ordering}
use Rattle.std.specs.declared.cmp.Ordering.TheVariants.{Less, Equal, Greater}
use Rattle.std.proofs.lemmas.Bool.{cases_lt}
use Rattle.std.proofs.lemmas.Cmp.{on_total, then_total, nat_list_cmp_total, tied_itself}
use Rattle.std.proofs.lemmas.List.{get_or-map, length-map}
use Rattle.std.proofs.lemmas.List.Sorted.{searchable_from_sorted}
use Rattle.std.proofs.lemmas.Option.{slice_get_cases, slice_get_within, get_or_from_slice_get}
use Rattle.osgi_version.specs.VersionOrder.{version_cmp}
use Rattle.osgi_version.proofs.VersionOrderLaws.{version_cmp-total, version_cmp-equal, bytes_equal}
use Rattle.unit_catalog.specs.At.{HasAt}
use Rattle.unit_catalog.specs.Named.{IsNew, IsNumberOf}
use Rattle.unit_catalog.specs.Order.{by_id, AreInOrder}
use Rattle.unit_catalog.proofs.Adding.{new_not_named}
use Rattle.unit_model.specs.Valid.{names}
use Rattle.unit_model.specs.declared.name.UnitName.{UnitName}
use Rattle.unit_model.specs.declared.unit.Unit.{Unit as Package}

pub by_id-total : IsTotalOrder by_id
by_id-total = then_total (on_total (λ (n : UnitName). n.id) nat_list_cmp_total) (on_total (λ (n : UnitName). n.version) version_cmp-total)

both_equal : (a b : Ordering) → ordering_then a b ≡ Equal → (a ≡ Equal) × (b ≡ Equal)
both_equal Less b e = absurd (cc)
both_equal Equal b e = (refl, e)
both_equal Greater b e = absurd (cc)

by_id-equal : (a b : UnitName) → by_id a b ≡ Equal → a ≡ b
by_id-equal a b e =
    let both = both_equal (slice_cmp nat_cmp a.id b.id) _ e in
    let id : a.id ≡ b.id = bytes_equal a.id b.id both.0 in
    let version : a.version ≡ b.version = version_cmp-equal a.version b.version both.1 in
    λ i. record { id = id i; version = version i }

-- a name isn't below itself
less_differs : (a b : UnitName) → by_id a b ≡ Less → a ≢ b
less_differs a b less = λ same.
    let tied : by_id b b ≡ Equal = tied_itself by_id-total b in
    let below : by_id b b ≡ Less = subst (λ n. by_id n b ≡ Less) same less in
    absurd (cc)

greater_differs : (a b : UnitName) → by_id a b ≡ Greater → a ≢ b
greater_differs a b greater = λ same.
    let tied : by_id b b ≡ Equal = tied_itself by_id-total b in
    let above : by_id b b ≡ Greater = subst (λ n. by_id n b ≡ Greater) same greater in
    absurd (cc)

pub distinct_names : (units : List Package) → AreInOrder units → AllPairs (λ u v. u.name ≢ v.name) units
distinct_names units order = λ i j d below inside. less_differs _ _ (order i j d below inside)

pub in_order : (units : List Package) → AreInOrder units → (i j : ℕ) (u v : Package) → i < j → slice_get units i ≡ Some u → slice_get units j ≡ Some v → by_id u.name v.name ≡ Less
in_order units order i j u v below first second =
    let less : by_id (get_or units i u).name (get_or units j u).name ≡ Less = order i j u below (slice_get_within units j v second) in
    rw (get_or_from_slice_get units i u u first, get_or_from_slice_get units j v u second) at less

-- Units of one name stand at one place.
pub one_place : (units : List Package) → AreInOrder units → (i j : ℕ) (u v : Package) → slice_get units i ≡ Some u → slice_get units j ≡ Some v → u.name ≡ v.name → i ≡ j
one_place units order i j u v first second same = by_size (cases_lt i j)
  where
    by_size : (i < j) ⊎ (j ≤ i) → i ≡ j
    by_size (inl low) = absurd (less_differs u.name v.name (in_order units order i j u v low first second) same)
    by_size (inr high) = by_size' (cases_lt j i)
      where
        by_size' : (j < i) ⊎ (i ≤ j) → i ≡ j
        by_size' (inl low) = absurd (less_differs v.name u.name (in_order units order j i v u low second first) (sym same))
        by_size' (inr low) = omega arith

-- Ids rise, and stand together.

no_greater : (a b : UnitName) → by_id a b ≡ Less → is_gt (slice_cmp nat_cmp a.id b.id) ≡ false
no_greater a b less = by_case (slice_cmp nat_cmp a.id b.id) (version_cmp a.version b.version) less
  where
    by_case : (o p : Ordering) → ordering_then o p ≡ Less → is_gt o ≡ false
    by_case Less p e = refl
    by_case Equal p e = refl
    by_case Greater p e = absurd (cc)

tied_between : (o : Ordering) → is_gt o ≡ false → is_gt (ordering_reverse o) ≡ false → o ≡ Equal
tied_between Less first second = absurd (cc)
tied_between Equal first second = refl
tied_between Greater first second = absurd (cc)

pub same_between : (units : List Package) → AreInOrder units → (i j k : ℕ) (u v w : Package) → i < j → j < k → slice_get units i ≡ Some u → slice_get units j ≡ Some v → slice_get units k ≡ Some w
    → u.name.id ≡ w.name.id → u.name.id ≡ v.name.id
same_between units order i j k u v w below above first second third same =
    let up = no_greater u.name v.name (in_order units order i j u v below first second) in
    let on : is_gt (slice_cmp nat_cmp v.name.id w.name.id) ≡ false = no_greater v.name w.name (in_order units order j k v w above second third) in
    let back : is_gt (slice_cmp nat_cmp v.name.id u.name.id) ≡ false = subst (λ (id : List ℕ). is_gt (slice_cmp nat_cmp v.name.id id) ≡ false) (sym same) on in
    let turned : slice_cmp nat_cmp v.name.id u.name.id ≡ ordering_reverse (slice_cmp nat_cmp u.name.id v.name.id) = nat_list_cmp_total.antisymm v.name.id u.name.id in
    bytes_equal u.name.id v.name.id (tied_between _ up (sym (ap is_gt turned) ∙ back))

-- What a binary search finds.

searchable : (units : List Package) (name : UnitName) → AreInOrder units → IsNonDecreasingBy (λ u. ordering_index (by_id u.name name)) units
searchable units name order =
    searchable_from_sorted by_id-total (λ (u : Package). u.name) units name
    (λ k d low inside.
    let less = order k (k + 1) d (omega arith) inside in
    let turned = by_id-total.antisymm (get_or units (k + 1) d).name (get_or units k d).name in
    ap is_lt (turned ∙ ap ordering_reverse less))

pub searched : (units : List Package) (name : UnitName) (r : Result ℕ ℕ) → AreInOrder units → IsSearchInRange r (length units) → IsBinarySearchResult (λ u. by_id u.name name) units r
    → IsNumberOf units name (result_ok r)
searched units name (Ok n) order within found =
    elim (slice_get_cases units n).1 [
      | inl at ↦
          let tied : by_id (get_or units n at.0).name name ≡ Equal = found at.0 in
          let equal : by_id at.0.name name ≡ Equal = rw at.3 at tied in
          record { unit = at.0; here = at.2; has = by_id-equal at.0.name name equal }
      | inr past ↦ absurd (omega arith)
    ]
searched units name (Err n) order within parts = λ k d inside.
    let point = parts (searchable units name order) in
    elim (cases_lt k n) [
      | inl low ↦ less_differs _ name (point.0 k d (omega arith) low)
      | inr high ↦ greater_differs _ name (point.1 k d high inside)
    ]

-- A unit that has the name is a member of that name, and where none has it there is none.

pub named_here : (units : List Package) (name : UnitName) (n : ℕ) → HasAt units (λ u. u.name ≡ name) n → Contains (names units) name
named_here units name n has =
    let f : Package → UnitName = λ u. u.name in
    let inside = slice_get_within units n has.unit has.here in
    let read : get_or units n has.unit ≡ has.unit = get_or_from_slice_get units n has.unit has.unit has.here in
    let there : n < length (map f units) = rw (length-map units f) inside in
    (n, there, get_or-map f units n has.unit name inside ∙ (ap f read ∙ has.has))

pub named_nowhere : (units : List Package) (name : UnitName) → IsNew units name → Contains (names units) name → ⊥
named_nowhere = new_not_named

pub none_missing : (units : List Package) (name : UnitName) (answer : Option ℕ) → is_some answer ≡ false → IsNumberOf units name answer → Contains (names units) name → ⊥
none_missing units name None none new = named_nowhere units name new
none_missing units name (Some n) none has = absurd (cc)

pub some_member : (units : List Package) (name : UnitName) (answer : Option ℕ) → is_some answer ≡ true → IsNumberOf units name answer → Contains (names units) name
some_member units name None some new = absurd (cc)
some_member units name (Some n) some has = named_here units name n has

-- Neighbours in order are enough.

less_from : (o : Ordering) → true ≡ is_lt o → o ≡ Less
less_from Less e = refl
less_from Equal e = absurd (cc)
less_from Greater e = absurd (cc)

not_less_from : (o : Ordering) → false ≡ is_lt o → o ≡ Less → ⊥
not_less_from Less e less = cc
not_less_from Equal e less = cc
not_less_from Greater e less = cc

rises : (units : List Package) → ((k : ℕ) (d : Package) → k + 1 < length units → by_id (get_or units k d).name (get_or units (k + 1) d).name ≡ Less)
    → (i n j : ℕ) (d : Package) → j ≡ i + 1 + n → j < length units → by_id (get_or units i d).name (get_or units j d).name ≡ Less
rises units adjacent i zero j d place inside =
    let next : i + 1 ≡ j = omega arith in
    subst (λ m. by_id (get_or units i d).name (get_or units m d).name ≡ Less) next (adjacent i d (omega arith))
rises units adjacent i (suc n) j d place inside =
    let last : i + 1 + n + 1 ≡ j = omega arith in
    let before = rises units adjacent i n (i + 1 + n) d refl (omega arith) in
    let step = adjacent (i + 1 + n) d (omega arith) in
    subst (λ m. by_id (get_or units i d).name (get_or units m d).name ≡ Less) last (by_id-total.trans (get_or units i d).name (get_or units (i + 1 + n) d).name (get_or units (i + 1 + n + 1) d).name before step)

some_unit : (units : List Package) (k : ℕ) → k < length units → Package
some_unit [] k within = absurd (omega arith)
some_unit (u ∷ us) k within = u

pub in_order_answer : (units : List Package) (r : Bool) → IsAllAdjacentAnswer (λ u v b. b ≡ is_lt (by_id u.name v.name)) units r → IsTrue r ↔ AreInOrder units
in_order_answer units true h =
    (λ _. λ i j d below inside. rises units (λ k e within. less_from _ (h k e within)) i (j - i - 1) j d (omega arith) inside, λ _. refl)
in_order_answer units false h =
    (λ t. let never : ⊥ = cc in absurd never, λ order. absurd (let d = some_unit units (h.0 + 1) h.1 in not_less_from _ (h.2 d) (order h.0 (h.0 + 1) d (omega arith) h.1)))
