-- Members and the numbers of their units.
use Rattle.std.proofs.Common.{◌≡◌, ◌≢◌, ℕ, zero, suc, ◌<◌, Some, None, List, [], ◌∷◌, length, get_or, All, AllPairs, refl, sym, ◌∙◌, ap, subst, arith}
use Rattle.std.specs.List.{slice_get}
use Rattle.std.specs.Cmp.{IsTotalOrder}
use Rattle.std.specs.declared.cmp.Ordering.TheVariants.{Less, Equal}
use Rattle.std.proofs.lemmas.Cmp.{nat_cmp_total, lists_total, then_total, on_total, tied_itself}
use Rattle.std.proofs.lemmas.List.Elements.{All-head, All-tail}
use Rattle.std.proofs.lemmas.Option.{same_Some, slice_get-get_or, slice_get_within, get_or_from_slice_get}
use Rattle.osgi_version.proofs.VersionOrderLaws.{version_cmp-total}
use Rattle.unit_model.specs.declared.name.UnitName.{UnitName}
use Rattle.unit_model.specs.declared.unit.Unit.{Unit as Package}
use Rattle.unit_catalog.specs.Order.{by_id, IsBefore, AreMembers, units_at}

pub unit_there : (units : List Package) (n : ℕ) → n < length units → (u : Package) × (slice_get units n ≡ Some u)
unit_there [] n h = absurd (omega arith)
unit_there (u ∷ us) zero h = (u, refl)
unit_there (u ∷ us) (suc n) h = unit_there us n (omega arith)

pub length_members : (units : List Package) (numbers : List ℕ) → All (λ n. n < length units) numbers → length (units_at units numbers) ≡ length numbers
length_members units [] all = refl
length_members units (n ∷ ns) all =
    let here = unit_there units n (All-head (λ m. m < length units) n ns all) in
    let rest = length_members units ns (All-tail (λ m. m < length units) n ns all) in
    rw here.1 (omega (arith, rest))

-- the member of a number that has a unit
pub member_at : (units : List Package) (numbers : List ℕ) → All (λ n. n < length units) numbers → (k n : ℕ) (u : Package) → slice_get numbers k ≡ Some n → slice_get units n ≡ Some u → slice_get (units_at units numbers) k ≡ Some u
member_at units [] all k n u e f = absurd (cc)
member_at units (m ∷ ms) all zero n u e f =
    let here : slice_get units m ≡ Some u = ap (slice_get units) (same_Some m n e) ∙ f in
    rw here refl
member_at units (m ∷ ms) all (suc k) n u e f =
    let here = unit_there units m (All-head (λ i. i < length units) m ms all) in
    rw here.1 (member_at units ms (All-tail (λ i. i < length units) m ms all) k n u e f)

-- the number of the member at a place
pub record IsMemberAt (units : List Package) (numbers : List ℕ) (k : ℕ) (u : Package) : Type 0 where
  pub number : ℕ
  pub stands : slice_get numbers k ≡ Some number
  pub unit : slice_get units number ≡ Some u

pub number_at : (units : List Package) (numbers : List ℕ) → All (λ n. n < length units) numbers → (k : ℕ) (u : Package) → slice_get (units_at units numbers) k ≡ Some u → IsMemberAt units numbers k u
number_at units [] all k u e = absurd (cc)
number_at units (m ∷ ms) all zero u e =
    let here = unit_there units m (All-head (λ i. i < length units) m ms all) in
    let is : Some here.0 ≡ Some u = rw here.1 at e in
    record { number = m; stands = refl; unit = here.1 ∙ is }
number_at units (m ∷ ms) all (suc k) u e =
    let here = unit_there units m (All-head (λ i. i < length units) m ms all) in
    let rest : slice_get (units_at units ms) k ≡ Some u = rw here.1 at e in
    let is = number_at units ms (All-tail (λ i. i < length units) m ms all) k u rest in
    record { number = is.number; stands = is.stands; unit = is.unit }

-- ---- the order of names

pub names_total : IsTotalOrder by_id
names_total = then_total (on_total (λ (n : UnitName). n.id) (lists_total nat_cmp_total)) (on_total (λ (n : UnitName). n.version) version_cmp-total)

pub not_before_itself : (n : UnitName) → by_id n n ≡ Less → ⊥
not_before_itself n less = let tied : by_id n n ≡ Equal = tied_itself names_total n in cc

pub pairs_before : (units : List Package) (numbers : List ℕ) → AreMembers units numbers → AllPairs (λ u v. by_id u.name v.name ≡ Less) (units_at units numbers)
pairs_before units numbers are i j d lt h =
    let within : i < length (units_at units numbers) = omega arith in
    let first = number_at units numbers are.there i _ (slice_get-get_or (units_at units numbers) i d within) in
    let second = number_at units numbers are.there j _ (slice_get-get_or (units_at units numbers) j d h) in
    let inside : j < length numbers = slice_get_within numbers j second.number second.stands in
    let one : get_or numbers i 0 ≡ first.number = get_or_from_slice_get numbers i first.number 0 first.stands in
    let other : get_or numbers j 0 ≡ second.number = get_or_from_slice_get numbers j second.number 0 second.stands in
    let before : IsBefore units (get_or numbers i 0) (get_or numbers j 0) = are.rising i j 0 lt inside in
    before _ _ (ap (slice_get units) one ∙ first.unit) (ap (slice_get units) other ∙ second.unit)

pub distinct_names : (units : List Package) (numbers : List ℕ) → AreMembers units numbers → AllPairs (λ u v. u.name ≢ v.name) (units_at units numbers)
distinct_names units numbers are i j d lt h = λ e.
    not_before_itself (get_or (units_at units numbers) j d).name
    (subst (λ n. by_id n (get_or (units_at units numbers) j d).name ≡ Less) e (pairs_before units numbers are i j d lt h))

pub distinct_numbers : (units : List Package) (numbers : List ℕ) → AreMembers units numbers → AllPairs (λ m n. m ≢ n) numbers
distinct_numbers units numbers are i j d lt h = λ e.
    let here = unit_there units (get_or numbers j d) (are.there j d h) in
    not_before_itself here.0.name (are.rising i j d lt h here.0 here.0 (ap (slice_get units) e ∙ here.1) here.1)

pub same_place : (numbers : List ℕ) (i j n : ℕ) → AllPairs (λ m k. m ≢ k) numbers → slice_get numbers i ≡ Some n → slice_get numbers j ≡ Some n → i ≡ j
same_place numbers i j n apart e f =
    let one : get_or numbers i 0 ≡ n = get_or_from_slice_get numbers i n 0 e in
    let other : get_or numbers j 0 ≡ n = get_or_from_slice_get numbers j n 0 f in
    let first : i < length numbers = slice_get_within numbers i n e in
    let second : j < length numbers = slice_get_within numbers j n f in
    let below : (i < j → ⊥) = λ lt. apart i j 0 lt second (one ∙ sym other) in
    let above : (j < i → ⊥) = λ lt. apart j i 0 lt first (other ∙ sym one) in
    grind (arith, below, above)

pub has_unit : (units : List Package) (numbers : List ℕ) (k : ℕ) → AreMembers units numbers → k < length numbers → None ≡ slice_get units (get_or numbers k 0) → ⊥
has_unit units numbers k are h none = let here = unit_there units (get_or numbers k 0) (are.there k 0 h) in cc

pub member_here : (units : List Package) (numbers : List ℕ) (k : ℕ) (u : Package) → AreMembers units numbers → k < length numbers → Some u ≡ slice_get units (get_or numbers k 0) → slice_get (units_at units numbers) k ≡ Some u
member_here units numbers k u are h here = member_at units numbers are.there k (get_or numbers k 0) u (slice_get-get_or numbers k 0 h) (sym here)
