-- Numbers sorted by the names of their units, each once.
use Rattle.std.proofs.Common.{◌≡◌, ◌≢◌, ℕ, zero, suc, ◌<◌, ◌≤◌, Bool, false, Some, List, [], ◌∷◌, length, get_or, refl, sym, ap, ◌∙◌, arith}
use Rattle.std.specs.Prelude.{All, AllPairs, Contains, nat_eq}
use Rattle.std.specs.Option.{option_cmp, option_map}
use Rattle.std.specs.Ordering.{is_lt, nat_cmp, ordering_then, ordering_reverse}
use Rattle.std.specs.Cmp.{IsTotalOrder, IsStrictWeakOrder}
use Rattle.std.specs.Cmp.Lexicographic.{slice_cmp, options_total}
use Rattle.std.specs.List.{remove}
use Rattle.std.specs.Fn.{Called, ComparesAs}
use Rattle.std.specs.List.Sorted.{IsPermutation, IsSorted, IsSortedBy}
use denote.Param.Members.{Mut}
use denote.Ref.{Bor}
use Rattle.std.specs.declared.cmp.Ordering.{Ordering}
use Rattle.std.specs.declared.cmp.Ordering.TheVariants.{Less, Equal, Greater}
use Rattle.std.proofs.lemmas.Bool.Decides.{Decides-eqb}
use Rattle.std.proofs.lemmas.Cmp.{on_total, then_total, nat_list_cmp_total, nat_eq_equiv}
use Rattle.std.proofs.lemmas.Fn.{always_returns_same}
use Rattle.std.proofs.lemmas.Map.Keys.{IsDistinct-IsPermutation}
use Rattle.std.proofs.lemmas.Map.Made.{AllPairs-from_IsDistinct, IsDistinct-from_AllPairs}
use Rattle.std.proofs.lemmas.List.Elements.{All-head}
use Rattle.std.proofs.lemmas.List.Sorted.{ranks_by, sorted_far, IsPermutation-remove, Contains-permutation, length_permutation}
use Rattle.osgi_version.proofs.VersionOrderLaws.{version_cmp-total, version_cmp-equal, bytes_equal}
use Rattle.osgi_version.specs.VersionOrder.{version_cmp}
use Rattle.unit_model.specs.declared.name.UnitName.{UnitName}
use Rattle.unit_model.specs.declared.unit.Unit.{Unit as Package}
use Rattle.unit_catalog.specs.Named.{HasDistinctNames}
use Rattle.unit_catalog.specs.Order.{by_id, IsBefore}
use Rattle.unit_slicer.specs.NameOrder.{name_at, number_cmp}
use Rattle.unit_slicer.proofs.FindingLaws.{one_number}

by_id-total : IsTotalOrder by_id
by_id-total = then_total (on_total (λ (n : UnitName). n.id) nat_list_cmp_total) (on_total (λ (n : UnitName). n.version) version_cmp-total)

pub numbers_rank : (units : List Package) → IsStrictWeakOrder (λ m n. is_lt (number_cmp units m n))
numbers_rank units = ranks_by (options_total by_id-total) (name_at units)

-- what a sort by a comparing closure ensures
pub sorted_by : {F : Type 0} {g : Mut F (Bor ℕ × (Bor ℕ × Unit {0})) Ordering} {f : F} (cmp : ℕ → ℕ → Ordering) (xs : List ℕ) → IsStrictWeakOrder (λ m n. is_lt (cmp m n))
    → ((lt : ℕ → ℕ → Bool) → IsStrictWeakOrder lt → ComparesAs g lt f → IsSortedBy lt xs)
    → ((a : Bor ℕ × (Bor ℕ × Unit {0})) (r : Ordering) (f' : F) → Called g f a r f' → (r ≡ cmp a.0.now a.1.0.now) × (f' ≡ f)) → IsSorted cmp xs
sorted_by {g = g} {f = f} cmp xs order up answers =
    up (λ m n. is_lt (cmp m n)) order
    (always_returns_same g (λ a r. is_lt r ≡ is_lt (cmp a.0.now a.1.0.now)) f (λ a r f' k. (ap is_lt (answers a r f' k).0, (answers a r f' k).1)))

both_equal : (a b : Ordering) → ordering_then a b ≡ Equal → (a ≡ Equal) × (b ≡ Equal)
both_equal Less b e = absurd (cc)
both_equal Equal b e = (refl, e)
both_equal Greater b e = absurd (cc)

by_id-equal : (a b : UnitName) → by_id a b ≡ Equal → a ≡ b
by_id-equal a b e =
    let both = both_equal (slice_cmp nat_cmp a.id b.id) (version_cmp a.version b.version) e in
    let id : a.id ≡ b.id = bytes_equal a.id b.id both.0 in
    let version : a.version ≡ b.version = version_cmp-equal a.version b.version both.1 in
    λ i. record { id = id i; version = version i }

less : (o p : Ordering) → o ≡ ordering_reverse p → is_lt p ≡ false → (o ≡ Equal → ⊥) → o ≡ Less
less Less p turned fails other = refl
less Equal p turned fails other = absurd (other refl)
less Greater Less turned fails other = cc
less Greater Equal turned fails other = cc
less Greater Greater turned fails other = cc

-- Sorted numbers, each once, stand in the order of their units' names.
pub rises : (units : List Package) (numbers : List ℕ) → HasDistinctNames units → IsSorted (number_cmp units) numbers → AllPairs (λ m n. m ≢ n) numbers → AllPairs (IsBefore units) numbers
rises units numbers names sorted distinct i j d below inside u v first second =
    less (by_id u.name v.name) (by_id v.name u.name) (by_id-total.antisymm u.name v.name) not_less
    (λ equal. distinct i j d below inside (one_number units names (get_or numbers i d) (get_or numbers j d) u v first second (by_id-equal u.name v.name equal)))
  where
    at_first : name_at units (get_or numbers i d) ≡ Some u.name
    at_first = ap (option_map (λ (w : Package). w.name)) first

    at_second : name_at units (get_or numbers j d) ≡ Some v.name
    at_second = ap (option_map (λ (w : Package). w.name)) second

    far : is_lt (number_cmp units (get_or numbers j d) (get_or numbers i d)) ≡ false
    far = sorted_far (λ m n. is_lt (number_cmp units m n)) (numbers_rank units) numbers sorted i j d (omega arith) inside

    not_less : is_lt (by_id v.name u.name) ≡ false
    not_less = sym (ap (λ (o : Ordering). is_lt o) (λ k. option_cmp by_id (at_second k) (at_first k))) ∙ far

-- ---- each once

pub permuted_distinct : (xs ys : List ℕ) → IsPermutation xs ys → AllPairs (λ m n. m ≢ n) xs → AllPairs (λ m n. m ≢ n) ys
permuted_distinct xs ys moved distinct =
    AllPairs-from_IsDistinct Decides-eqb ys
    (IsDistinct-IsPermutation nat_eq nat_eq_equiv.symm xs ys moved (IsDistinct-from_AllPairs Decides-eqb xs distinct))

pub contains_later : (x y : ℕ) (zs : List ℕ) (j : ℕ) → j < length (x ∷ zs) → get_or (x ∷ zs) j y ≡ y → (x ≡ y → ⊥) → Contains zs y
contains_later x y zs zero inside here other = absurd (other here)
contains_later x y zs (suc j) inside here other = (j, omega arith, here)

-- numbers that differ, among others, are no more than these
pub no_more : (xs ys : List ℕ) → AllPairs (λ m n. m ≢ n) xs → All (Contains ys) xs → length xs ≤ length ys
no_more [] ys distinct among = omega arith
no_more (x ∷ xs) ys distinct among =
    let has : Contains ys x = All-head (Contains ys) x xs among in
    let rest : List ℕ = remove ys has.0 in
    let first : x ≡ get_or ys has.0 x = sym has.2 in
    let moved : IsPermutation ys (x ∷ rest) = IsPermutation-remove ys has.0 x has.1 first in
    let tail : AllPairs (λ m n. m ≢ n) xs = λ i j d below inside. distinct (suc i) (suc j) d (omega arith) (omega arith) in
    let long : length (x ∷ rest) ≡ length ys = length_permutation ys (x ∷ rest) moved in
    let later : All (Contains rest) xs = λ k d inside.
    let y : ℕ = get_or xs k d in
    let there : Contains (x ∷ rest) y = Contains-permutation ys (x ∷ rest) y moved (among (suc k) d (omega arith)) in
    contains_later x y rest there.0 there.1 there.2 (distinct 0 (suc k) d (omega arith) (omega arith)) in
    let few = no_more xs rest tail later in
    omega (arith, long, few)
