-- The rooted part of units.
use Rattle.std.proofs.Common.{◌≡◌, ℕ, zero, suc, ◌<◌, ◌≤◌, ◌⊎◌, inl, inr, Some, List, [], ◌∷◌, ◌++◌, length, get_or, refl, sym, ap, ◌∙◌, subst, arith}
use Rattle.std.specs.Prelude.{◌↔◌, All, Any, Contains, Result, Ok, Err, IfOk, slice_get}
use Rattle.std.proofs.lemmas.List.Elements.{All-head, All-tail, All-contains, All-contains_itself, All-weaker, Contains-get_or}
use Rattle.std.proofs.lemmas.Option.{slice_get-get_or}
use Rattle.ldap_filter.specs.EnvPairs.{EnvPair}
use Rattle.unit_model.specs.Slice.{Begins, GoesOn, IsAny}
use Rattle.unit_model.specs.declared.name.UnitName.{UnitName}
use Rattle.unit_model.specs.declared.unit.Unit.{Unit as Package}
use Rattle.unit_catalog.specs.At.{HasAt}
use Rattle.unit_catalog.specs.Named.{HasDistinctNames}
use Rattle.unit_catalog.specs.Order.{AreMembers, IsBefore, units_at}
use Rattle.unit_slicer.specs.Adding.{Reaches, FromRoot, FromUnit}
use Rattle.unit_slicer.specs.Found.{Numbers, Adds, AreTooMany}
use Rattle.unit_slicer.specs.Members.{AreAllOf}
use Rattle.unit_slicer.specs.Reached.{ReachesOver}
use Rattle.unit_slicer.specs.RootedPart.{IsRootedIn, IsRootedPart}
use Rattle.unit_slicer.specs.Way.{IsAmong}
use Rattle.unit_slicer.specs.WholeCatalog.{IsPart}
use Rattle.unit_slicer.specs.declared.way.Way.{Way}
use Rattle.unit_slicer.proofs.FindingLaws.{one_number}
use Rattle.unit_slicer.proofs.OrderLaws.{no_more}
use Rattle.unit_slicer.proofs.SliceLaws.{contains_at}
use Rattle.unit_slicer.proofs.WholeCatalogLaws.{part_all, part_in, part_pairs, part_has, part_valid}

-- ---- the law

module _ (units : List Package) (roots : List UnitName) (env : List EnvPair) (part : List Package) (is : IsPart (IsRootedIn units roots env) units part) where
  ends_inside : (v : Package) → IsRootedIn units roots env v → Contains units v
  ends_inside v (Begins u inside applies root) = inside
  ends_inside v (GoesOn u w chain inside applies leads) = inside

  in_part : (v : Package) → IsRootedIn units roots env v → Contains part v
  in_part v chain = let at = ends_inside v chain in part_has (IsRootedIn units roots env) units part at.0 v is at.1 at.2 chain

  -- a chain stays in the part
  within_part : (v : Package) → IsRootedIn units roots env v → IsRootedIn part roots env v
  within_part v (Begins u inside applies root) = Begins u (in_part u (Begins u inside applies root)) applies root
  within_part v (GoesOn u w chain inside applies leads) =
      GoesOn u w (within_part u chain) (in_part w (GoesOn u w chain inside applies leads)) applies leads

  -- a chain of some of the units is one of all
  of_fewer : (others : List Package) → All (Contains units) others → (v : Package) → IsRootedIn others roots env v → IsRootedIn units roots env v
  of_fewer others among v (Begins u inside applies root) = Begins u (All-contains (Contains units) others u among inside) applies root
  of_fewer others among v (GoesOn u w chain inside applies leads) =
      GoesOn u w (of_fewer others among u chain) (All-contains (Contains units) others w among inside) applies leads

  pub rooted_part : IsRootedPart units roots env part
  rooted_part = record {
    exact = is;
    rooted = All-weaker (IsRootedIn units roots env) (IsRootedIn part roots env) within_part part (part_in (IsRootedIn units roots env) units part is);
    largest = λ others among rooted. All-weaker (IsRootedIn others roots env) (Contains part) (λ v chain. in_part v (of_fewer others among v chain)) others rooted;
    valid = λ some among valid. part_valid IsAny units roots env (λ u chain k d inside on. inl tt) some units part among (All-contains_itself units) valid is;
  }

-- ---- parts by number

part_same : {X : Type 0} (P Q : X → Type 0) → ((x : X) → P x → Q x) → ((x : X) → Q x → P x) → (xs part : List X) → IsPart P xs part → IsPart Q xs part
part_same P Q to from [] part is = is
part_same P Q to from (x ∷ xs) part (inl in') = inl (to x in'.0, in'.1, in'.2, part_same P Q to from xs in'.1 in'.3)
part_same P Q to from (x ∷ xs) part (inr out) = inr (λ q. out.0 (from x q), part_same P Q to from xs part out.1)

-- one element more that has the property
pub part_more : {X : Type 0} (P : X → Type 0) (xs part : List X) (y : X) → P y → IsPart P xs part → IsPart P (xs ++ y ∷ []) (part ++ y ∷ [])
part_more P [] part y has is = subst (λ ps. IsPart P (y ∷ []) (ps ++ y ∷ [])) (sym is) (inl (has, [], refl, refl))
part_more P (x ∷ xs) part y has (inl in') =
    subst (λ ps. IsPart P (x ∷ (xs ++ y ∷ [])) (ps ++ y ∷ [])) (sym in'.2) (inl (in'.0, in'.1 ++ y ∷ [], refl, part_more P xs in'.1 y has in'.3))
part_more P (x ∷ xs) part y has (inr out) = inr (out.0, part_more P xs part y has out.1)

-- one that doesn't have it
pub part_less : {X : Type 0} (P : X → Type 0) (xs part : List X) (y : X) → ¬ (P y) → IsPart P xs part → IsPart P (xs ++ y ∷ []) part
part_less P [] part y not is = inr (not, is)
part_less P (x ∷ xs) part y not (inl in') = inl (in'.0, in'.1, in'.2, part_less P xs in'.1 y not in'.3)
part_less P (x ∷ xs) part y not (inr out) = inr (out.0, part_less P xs part y not out.1)

part_short : {X : Type 0} (P : X → Type 0) (xs part : List X) → IsPart P xs part → length part ≤ length xs
part_short P [] part is = subst (λ ps. length ps ≤ 0) (sym is) (omega arith)
part_short P (x ∷ xs) part (inl in') = let rest = part_short P xs in'.1 in'.3 in subst (λ ps. length ps ≤ length (x ∷ xs)) (sym in'.2) (omega arith)
part_short P (x ∷ xs) part (inr out) = let rest = part_short P xs part out.1 in omega arith

pub part_members : (units : List Package) (P : ℕ → Type 0) (numbers part : List ℕ) → AreMembers units numbers → IsPart P numbers part → AreMembers units part
part_members units P numbers part are is = record {
  few = let short = part_short P numbers part is in let few = are.few in omega arith;
  there = part_all P (λ n. n < length units) numbers part is are.there;
  rising = part_pairs P (IsBefore units) numbers part is are.rising;
}

unit_there : (units : List Package) (n : ℕ) → n < length units → (u : Package) × (slice_get units n ≡ Some u)
unit_there units n h = (get_or units n (first units n h), slice_get-get_or units n (first units n h) h)
  where
    first : (us : List Package) (k : ℕ) → k < length us → Package
    first [] k low = absurd (omega arith)
    first (u ∷ us) k low = u

-- the part of the units is made of the units of the part
pub part_units : (units : List Package) (P : Package → Type 0) (numbers part : List ℕ) → All (λ n. n < length units) numbers → IsPart (HasAt units P) numbers part → IsPart P (units_at units numbers) (units_at units part)
part_units units P [] part there is = subst (λ ps. units_at units ps ≡ []) (sym is) refl
part_units units P (n ∷ ns) part there (inl in') =
    let at = in'.0 in
    let rest = part_units units P ns in'.1 (All-tail (λ m. m < length units) n ns there) in'.3 in
    subst (λ ps. IsPart P (units_at units (n ∷ ns)) (units_at units ps)) (sym in'.2) (rw at.here (inl (at.has, units_at units in'.1, refl, rest)))
part_units units P (n ∷ ns) part there (inr out) =
    let at = unit_there units n (All-head (λ m. m < length units) n ns there) in
    let rest = part_units units P ns part (All-tail (λ m. m < length units) n ns there) out.1 in
    rw at.1 (inr (λ has. out.0 (record { unit = at.0; here = at.1; has = has }), rest))

pub part_of_found : (units : List Package) (P : Package → Type 0) (numbers found part : List ℕ) → AreAllOf units P found → IsPart (Contains found) numbers part → IsPart (HasAt units P) numbers part
part_of_found units P numbers found part all is =
    part_same (Contains found) (HasAt units P) (λ n has. All-contains (HasAt units P) found n all.each has) all.every numbers part is

-- ---- units of numbers

pub unit_of_number : (units : List Package) (numbers : List ℕ) → All (λ n. n < length units) numbers → (n : ℕ) (u : Package) → slice_get units n ≡ Some u → Contains numbers n → Contains (units_at units numbers) u
unit_of_number units [] there n u here has = let none = has.1 in absurd (omega arith)
unit_of_number units (m ∷ ms) there n u here (zero, inside, same) =
    let at : slice_get units m ≡ Some u = ap (slice_get units) same ∙ here in
    rw at (0, omega arith, refl)
unit_of_number units (m ∷ ms) there n u here (suc k, inside, same) =
    let at = unit_there units m (All-head (λ i. i < length units) m ms there) in
    let rest = unit_of_number units ms (All-tail (λ i. i < length units) m ms there) n u here (k, omega arith, same) in
    let low = rest.1 in
    rw at.1 (suc rest.0, omega arith, rest.2)

pub number_of_unit : (units : List Package) (numbers : List ℕ) → All (λ n. n < length units) numbers → (u : Package) → Contains (units_at units numbers) u → (n : ℕ) × (slice_get units n ≡ Some u) × Contains numbers n
number_of_unit units [] there u has = let none = has.1 in absurd (omega arith)
number_of_unit units (m ∷ ms) there u has =
    let at = unit_there units m (All-head (λ i. i < length units) m ms there) in
    by_place units m ms at.0 u at.1 (λ inside. number_of_unit units ms (All-tail (λ i. i < length units) m ms there) u inside) (rw at.1 at has)
  where
    by_place : (units : List Package) (m : ℕ) (ms : List ℕ) (v u : Package) → slice_get units m ≡ Some v → (Contains (units_at units ms) u → (n : ℕ) × (slice_get units n ≡ Some u) × Contains ms n)
        → Contains (v ∷ units_at units ms) u → (n : ℕ) × (slice_get units n ≡ Some u) × Contains (m ∷ ms) n
    by_place units m ms v u at later (zero, inside, same) = (m, at ∙ ap Some same, (0, omega arith, refl))
    by_place units m ms v u at later (suc k, inside, same) =
        let rest = later (k, omega arith, same) in
        let low = rest.2.1 in
        (rest.0, rest.1, (suc rest.2.0, omega arith, rest.2.2))

pub units_inside : (units : List Package) (numbers : List ℕ) → All (λ n. n < length units) numbers → All (Contains units) (units_at units numbers)
units_inside units numbers there k d inside =
    let at = number_of_unit units numbers there (get_or (units_at units numbers) k d) (Contains-get_or (units_at units numbers) k d inside) in
    contains_at units at.0 (get_or (units_at units numbers) k d) at.1

pub number_given : (units : List Package) → HasDistinctNames units → (numbers : List ℕ) → All (λ n. n < length units) numbers → (n : ℕ) (u : Package) → slice_get units n ≡ Some u → Contains (units_at units numbers) u → Contains numbers n
number_given units distinct numbers there n u here has =
    let at = number_of_unit units numbers there u has in
    subst (Contains numbers) (one_number units distinct at.0 n u u at.1 here refl) at.2

-- ---- a search among numbers

module _ (members : List ℕ) (old : Numbers) (none : old.found ≡ []) where
  abbrev IsGiven : ℕ → Type 0
  IsGiven n = Any (λ m. n ≡ m) members

  given_number : (n : ℕ) → IsGiven n → Contains members n
  given_number n any = (any.0, any.2, subst (λ m. get_or members any.0 m ≡ m) (sym any.4) any.3)

  pub given_found : (new : Numbers) → Adds IsGiven old new → (n : ℕ) → Contains new.found n ↔ Contains members n
  given_found new adds n = (
    λ has. given_number n (All-contains IsGiven adds.added n adds.each (subst (λ (xs : List ℕ). Contains xs n) (adds.front ∙ ap (λ (xs : List ℕ). xs ++ adds.added) none) has)),
    λ has. adds.every n (has.0, n, has.1, has.2, refl),
  )

  pub not_too_many : length members ≤ 8192 → AreTooMany IsGiven old → ⊥
  not_too_many few many =
      let each : All (Contains members) many.numbers = All-weaker (λ n. Contains old.found n ⊎ IsGiven n) (Contains members) given many.numbers many.each in
      let most = no_more many.numbers members many.distinct each in
      let over = many.many in
      omega arith
    where
      given : (n : ℕ) → Contains old.found n ⊎ IsGiven n → Contains members n
      given n (inl there) = absurd (let inside = (subst (λ (xs : List ℕ). Contains xs n) none there).1 in omega arith)
      given n (inr any) = given_number n any

reached_among : (way : Way) (roots : List UnitName) (n : ℕ) → Reaches way roots n → IsAmong way.among n
reached_among way roots n (FromRoot n' root) = root.0
reached_among way roots n (FromUnit m n' reached next) = next.has.0

pub not_over : (way : Way) (roots : List UnitName) (members : List ℕ) → length members ≤ 8192 → ((n : ℕ) → IsAmong way.among n → Contains members n) → ReachesOver 8192 way roots → ⊥
not_over way roots members few among over =
    let each : All (Contains members) over.numbers = All-weaker (Reaches way roots) (Contains members) (λ n reached. among n (reached_among way roots n reached)) over.numbers over.each in
    let most = no_more over.numbers members over.distinct each in
    let many = over.many in
    omega arith

pub if_ok_weaker : {X E : Type 0} (P Q : X → Type 0) → ((x : X) → P x → Q x) → (r : Result X E) → IfOk r P → IfOk r Q
if_ok_weaker P Q to (Ok x) p = to x p
if_ok_weaker P Q to (Err e) p = tt
