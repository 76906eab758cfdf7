-- What was found is the slice.
use Rattle.std.proofs.Common.{◌≡◌, ◌≢◌, ℕ, ◌+◌, ◌<◌, ◌≤◌, ◌⊎◌, inl, inr, Some, None, List, length, get_or, refl, sym, ap, ◌∙◌, subst, arith}
use Rattle.std.specs.Prelude.{Option, Result, Ok, Err, All, AllPairs, Contains, slice_get}
use Rattle.std.specs.List.Sorted.{IsPermutation, IsSorted}
use Rattle.std.proofs.lemmas.Bool.{cases_lt}
use Rattle.std.proofs.lemmas.List.{get_or_append_left, get_or_default}
use Rattle.std.proofs.lemmas.List.Elements.{All-weaker, All-append, All-contains, Contains-append_left}
use Rattle.std.proofs.lemmas.List.Sorted.{All-permutation, Contains-permutation, length_permutation}
use Rattle.std.proofs.lemmas.Option.{slice_get-get_or, slice_get_within, get_or_from_slice_get, same_Some}
use Rattle.ldap_filter.specs.EnvPairs.{EnvPair}
use Rattle.unit_model.specs.Slice.{LeadsTo, HasChain, Begins, GoesOn, IsInSlice}
use Rattle.unit_model.specs.declared.name.UnitName.{UnitName}
use Rattle.unit_model.specs.declared.unit.Unit.{Unit as Package}
use Rattle.unit_catalog.specs.At.{HasAt}
use Rattle.unit_catalog.specs.Named.{HasDistinctNames}
use Rattle.unit_catalog.specs.Order.{AreMembers}
use Rattle.unit_slicer.specs.Adding.{IsRoot, IsLedTo, IsNext, Reaches, FromRoot, FromUnit}
use Rattle.unit_slicer.specs.Found.{Numbers, Adds, AreTooMany}
use Rattle.unit_slicer.specs.Members.{AreAllOf, AreOfSlice, HasMoreThan}
use Rattle.unit_slicer.specs.NameOrder.{number_cmp}
use Rattle.unit_slicer.specs.Reached.{AreReached, ReachesOver}
use Rattle.unit_slicer.specs.Way.{IsAmong, MayLead}
use Rattle.unit_slicer.specs.declared.way.Way.{Way}
use Rattle.unit_slicer.proofs.OrderLaws.{rises, permuted_distinct, no_more}

pub contains_at : (units : List Package) (n : ℕ) (u : Package) → slice_get units n ≡ Some u → Contains units u
contains_at units n u here = (n, slice_get_within units n u here, get_or_from_slice_get units n u u here)

pub at_contained : (units : List Package) (u : Package) → (inside : Contains units u) → slice_get units inside.0 ≡ Some u
at_contained units u inside = slice_get-get_or units inside.0 u inside.1 ∙ ap Some inside.2

-- ---- the numbers that are reached

module _ (way : Way) (roots : List UnitName) where
  pub found_is_in : (numbers : List ℕ) (place m : ℕ) → slice_get numbers place ≡ Some m → All (Reaches way roots) numbers → Reaches way roots m
  found_is_in numbers place m here each =
      subst (Reaches way roots) (get_or_from_slice_get numbers place m m here) (each place m (slice_get_within numbers place m here))

  -- numbers that have the roots, and with each unit all that it leads to, have all that are reached
  complete : (numbers : List ℕ) → ((n : ℕ) → IsRoot way roots n → Contains numbers n) → ((m n : ℕ) → Contains numbers m → IsNext way m n → Contains numbers n)
      → (n : ℕ) → Reaches way roots n → Contains numbers n
  complete numbers begun closed n (FromRoot n' root) = begun n' root
  complete numbers begun closed n (FromUnit m n' reached next) = closed m n' (complete numbers begun closed m reached) next

  pub all_found : (numbers : List ℕ) → All (Reaches way roots) numbers → ((n : ℕ) → IsRoot way roots n → Contains numbers n) → ((m n : ℕ) → Contains numbers m → IsNext way m n → Contains numbers n) → AreReached way roots numbers
  all_found numbers each begun closed = record { each = each; every = complete numbers begun closed }

  -- too many that are reached
  pub more_than : (A : ℕ → Type 0) (old : Numbers) → All (Reaches way roots) old.found → ((n : ℕ) → A n → Reaches way roots n) → AreTooMany A old → ReachesOver 8192 way roots
  more_than A old before new many = record {
    numbers = many.numbers;
    distinct = many.distinct;
    each = All-weaker (λ n. Contains old.found n ⊎ A n) (Reaches way roots) (λ n x. elim x [ inl there ↦ All-contains (Reaches way roots) old.found n before there | inr a ↦ new n a ]) many.numbers many.each;
    many = many.many;
  }

  pub each_added : (A : ℕ → Type 0) (old new : Numbers) → All (Reaches way roots) old.found → ((n : ℕ) → A n → Reaches way roots n) → Adds A old new → All (Reaches way roots) new.found
  each_added A old new before later adds =
      subst (All (Reaches way roots)) (sym adds.front) (All-append (Reaches way roots) old.found adds.added before (All-weaker A (Reaches way roots) later adds.added adds.each))

-- ---- numbers that are reached, and chains of units

module _ (way : Way) (roots : List UnitName) (units : List Package) where
  abbrev pub EndsChain : Package → Type 0
  EndsChain = HasChain units (MayLead way.links) roots way.env.now

  pub reached_chain : ((n : ℕ) (u : Package) → slice_get way.catalog.now n ≡ Some u → IsAmong way.among n → Contains units u) → (n : ℕ) → Reaches way roots n → HasAt way.catalog.now EndsChain n
  reached_chain opens n (FromRoot n' root) =
      let at = root.1 in
      record { unit = at.unit; here = at.here; has = Begins at.unit (opens n' at.unit at.here root.0) at.has.1 at.has.0 }
  reached_chain opens n (FromUnit m n' reached next) =
      let before = reached_chain opens m reached in
      let led = next.has.1 in
      let same : next.unit ≡ before.unit = same_Some next.unit before.unit (sym next.here ∙ before.here) in
      let leads : LeadsTo (MayLead way.links) way.env.now before.unit led.unit = subst (λ (u : Package). LeadsTo (MayLead way.links) way.env.now u led.unit) same led.has.0 in
      record { unit = led.unit; here = led.here; has = GoesOn before.unit led.unit before.has (opens n' led.unit led.here next.has.0) led.has.1 leads }

  ends_inside : (v : Package) → EndsChain v → Contains units v
  ends_inside v (Begins u inside applies root) = inside
  ends_inside v (GoesOn u w chain inside applies leads) = inside

  pub chain_reached : All (Contains way.catalog.now) units → ((n : ℕ) (u : Package) → slice_get way.catalog.now n ≡ Some u → Contains units u → IsAmong way.among n)
      → (v : Package) → EndsChain v → (n : ℕ) → slice_get way.catalog.now n ≡ Some v → Reaches way roots n
  chain_reached there opens v (Begins u inside applies root) n here = FromRoot n (opens n u here inside, record { unit = u; here = here; has = (root, applies) })
  chain_reached there opens v (GoesOn u w chain inside applies leads) n here =
      let place : Contains way.catalog.now u = All-contains (Contains way.catalog.now) units u there (ends_inside u chain) in
      let at : slice_get way.catalog.now place.0 ≡ Some u = at_contained way.catalog.now u place in
      let led : IsLedTo way u n = (opens n w here inside, record { unit = w; here = here; has = (leads, applies) }) in
      FromUnit place.0 n (chain_reached there opens u chain place.0 at) (record { unit = u; here = at; has = led })

  pub all_of_chain : ((n : ℕ) (u : Package) → slice_get way.catalog.now n ≡ Some u → IsAmong way.among n → Contains units u)
      → All (Contains way.catalog.now) units → ((n : ℕ) (u : Package) → slice_get way.catalog.now n ≡ Some u → Contains units u → IsAmong way.among n)
      → (numbers : List ℕ) → AreReached way roots numbers → AreAllOf way.catalog.now EndsChain numbers
  all_of_chain opens there closes numbers are = record {
    each = All-weaker (Reaches way roots) (HasAt way.catalog.now EndsChain) (reached_chain opens) numbers are.each;
    every = λ n at. are.every n (chain_reached there closes at.unit at.has n at.here);
  }

-- more units in the slice, where more numbers are reached
pub more_in_slice : (way : Way) (roots : List UnitName) → ((n : ℕ) → Reaches way roots n → HasAt way.catalog.now (IsInSlice way.catalog.now roots way.env.now) n) → ReachesOver 8192 way roots → HasMoreThan 8192 way.catalog.now roots way.env.now
more_in_slice way roots to more = record {
  numbers = more.numbers;
  distinct = more.distinct;
  each = All-weaker (Reaches way roots) (HasAt way.catalog.now (IsInSlice way.catalog.now roots way.env.now)) to more.numbers more.each;
  many = more.many;
}

module _ (units : List Package) (P : Package → Type 0) where
  pub members_sorted : (found sorted : List ℕ) → HasDistinctNames units → AreAllOf units P found → length found ≤ 8192 → AllPairs (λ m n. m ≢ n) found → IsPermutation found sorted → IsSorted (number_cmp units) sorted → AreMembers units sorted
  members_sorted found sorted names all few distinct moved order = record {
    few = let long = length_permutation found sorted moved in omega (arith, long, few);
    there = All-weaker (HasAt units P) (λ n. n < length units) (λ n is. slice_get_within units n is.unit is.here) sorted (All-permutation (HasAt units P) found sorted moved all.each);
    rising = rises units sorted names order (permuted_distinct found sorted moved distinct);
  }

  pub all_sorted : (found sorted : List ℕ) → AreAllOf units P found → IsPermutation found sorted → AreAllOf units P sorted
  all_sorted found sorted all moved = record {
    each = All-permutation (HasAt units P) found sorted moved all.each;
    every = λ n has. Contains-permutation found sorted n moved (all.every n has);
  }

-- ---- the slice

module _ (units : List Package) (roots : List UnitName) (env : List EnvPair) where
  pub not_more : (found : List ℕ) → AreOfSlice units roots env found → length found ≤ 8192 → HasMoreThan 8192 units roots env → ⊥
  not_more found all few more =
      let among : All (Contains found) more.numbers = All-weaker (HasAt units (IsInSlice units roots env)) (Contains found) all.every more.numbers more.each in
      let most = no_more more.numbers found more.distinct among in
      let many = more.many in
      omega arith

abbrev error_or : {T E : Type 0} → E → Result T E → E
error_or d (Ok v) = d
error_or d (Err e) = e

-- one error in two results
pub same_error : {T U E : Type 0} (a b : E) → ◌≡◌ {A = Result T E} (Err a) (Err b) → ◌≡◌ {A = Result U E} (Err a) (Err b)
same_error {T} {U} {E} a b e = ap (λ (x : E). Err x) (ap (λ (r : Result T E). error_or a r) e)

pub none_left : (answer : Option ℕ) → ((m : ℕ) → answer ≡ Some m → ⊥) → answer ≡ None
none_left None other = refl
none_left (Some m) other = absurd (other m refl)

pub kept_added : (A : ℕ → Type 0) (old new : Numbers) (n : ℕ) → Adds A old new → Contains old.found n → Contains new.found n
kept_added A old new n adds there = subst (λ (xs : List ℕ). Contains xs n) (sym adds.front) (Contains-append_left old.found adds.added n there)

-- ---- work that is done in the order in which units were found

-- The first so many numbers lead to none that wasn't found.
abbrev pub IsDone : Way → List ℕ → ℕ → Type 0
IsDone way numbers place = (k n : ℕ) → k < place → IsNext way (get_or numbers k 0) n → Contains numbers n

pub done_more : (way : Way) (old new : Numbers) (place m : ℕ) → slice_get old.found place ≡ Some m → Adds (IsNext way m) old new → IsDone way old.found place → IsDone way new.found (place + 1)
done_more way old new place m here adds done k n below next = by_place (cases_lt k place)
  where
    inside : place < length old.found
    inside = slice_get_within old.found place m here

    kept : (j : ℕ) → j < length old.found → get_or new.found j 0 ≡ get_or old.found j 0
    kept j low = ap (λ (xs : List ℕ). get_or xs j 0) adds.front ∙ get_or_append_left old.found adds.added 0 j low

    by_place : (k < place) ⊎ (place ≤ k) → Contains new.found n
    by_place (inl low) =
        kept_added (IsNext way m) old new n adds (done k n low (subst (λ (j : ℕ). IsNext way j n) (kept k (omega (arith, inside))) next))
    by_place (inr high) =
        let same : k ≡ place = omega arith in
        let read : get_or new.found k 0 ≡ m = ap (λ (i : ℕ). get_or new.found i 0) same ∙ (kept place inside ∙ get_or_from_slice_get old.found place m 0 here) in
        adds.every n (subst (λ (j : ℕ). IsNext way j n) read next)

pub all_done : (way : Way) (numbers : List ℕ) (place : ℕ) → slice_get numbers place ≡ None → IsDone way numbers place → (m n : ℕ) → Contains numbers m → IsNext way m n → Contains numbers n
all_done way numbers place end done m n has next = by_place (cases_lt has.0 place)
  where
    read : get_or numbers has.0 0 ≡ m
    read = get_or_default numbers has.0 0 m has.1 ∙ has.2

    by_place : (has.0 < place) ⊎ (place ≤ has.0) → Contains numbers n
    by_place (inl low) = done has.0 n low (subst (λ (j : ℕ). IsNext way j n) (sym read) next)
    by_place (inr high) =
        let inside : place < length numbers = omega (arith, has.1) in
        let there = slice_get-get_or numbers place 0 inside in
        absurd (cc)
