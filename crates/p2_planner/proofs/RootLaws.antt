-- Rising lists of names.
use Rattle.std.proofs.Common.{◌≡◌, ℕ, zero, suc, ◌+◌, ◌<◌, Bool, true, false, cond, List, [], ◌∷◌, ◌++◌, length, get_or, take, append_assoc, refl, sym, ap, ◌∙◌, subst, arith}
use Rattle.std.specs.Prelude.{All, AllPairs, Contains}
use Rattle.std.specs.Cmp.{IsTotalOrder}
use Rattle.std.specs.Cmp.Lexicographic.{slice_cmp}
use Rattle.std.specs.List.{filter}
use Rattle.std.specs.Ordering.{nat_cmp, ordering_reverse, ordering_then, is_gt, is_lt}
use Rattle.std.specs.declared.cmp.Ordering.{Ordering}
use Rattle.std.specs.declared.cmp.Ordering.TheVariants.{Less, Equal, Greater}
use Rattle.std.proofs.lemmas.Cmp.{on_total, then_total, nat_list_cmp_total}
use Rattle.std.proofs.lemmas.List.{append-nil}
use Rattle.std.proofs.lemmas.List.Elements.{All-cons, All-head, All-tail, All-append, All-filter, All-weaker, Contains-append_left, Contains-append_right, filter_more, filter_passes}
use Rattle.std.proofs.lemmas.List.Kept.{AllPairs-cons, AllPairs-filter}
use Rattle.osgi_version.proofs.VersionOrderLaws.{version_cmp-total, version_cmp-equal, bytes_equal}
use Rattle.osgi_version.specs.VersionOrder.{version_cmp}
use Rattle.unit_catalog.specs.Order.{by_id}
use Rattle.unit_model.specs.declared.name.UnitName.{UnitName}
use Rattle.p2_planner.specs.Roots.{AreRising, below, above, with_name}

by_id-total : IsTotalOrder by_id
by_id-total = then_total (on_total (λ (n : UnitName). n.id) nat_list_cmp_total) (on_total (λ (n : UnitName). n.version) version_cmp-total)

both_equal : (a b : Ordering) → ordering_then a b ≡ Equal → (a ≡ Equal) × (b ≡ Equal)
both_equal Less b e = absurd (cc)
both_equal Equal b e = (refl, e)
both_equal Greater b e = absurd (cc)

by_id-equal : (a b : UnitName) → by_id a b ≡ Equal → a ≡ b
by_id-equal a b e =
    let both = both_equal (slice_cmp nat_cmp a.id b.id) (version_cmp a.version b.version) e in
    let id : a.id ≡ b.id = bytes_equal a.id b.id both.0 in
    let version : a.version ≡ b.version = version_cmp-equal a.version b.version both.1 in
    λ i. record { id = id i; version = version i }

is_less : (o : Ordering) → is_lt o ≡ true → o ≡ Less
is_less Less e = refl
is_less Equal e = absurd (cc)
is_less Greater e = absurd (cc)

turned_less : (o p : Ordering) → p ≡ ordering_reverse o → is_gt o ≡ true → p ≡ Less
turned_less Less p turned e = absurd (cc)
turned_less Equal p turned e = absurd (cc)
turned_less Greater p turned e = turned

-- ---- filters

Contains-filter : {X : Type 0} (p : X → Bool) (xs : List X) (x : X) → Contains xs x → p x ≡ true → Contains (filter p xs) x
Contains-filter p [] x c e = absurd (omega (arith, c.1))
Contains-filter {X} p (y ∷ ys) x (zero, h, is) e =
    let passes : p y ≡ true = ap p is ∙ e in
    subst (λ b. Contains (cond b (y ∷ filter p ys) (filter p ys)) x) (sym passes) (0, omega arith, is)
Contains-filter {X} p (y ∷ ys) x (suc k, h, is) e = by (Contains-filter p ys x (k, omega arith, is) e) (p y)
  where
    by : Contains (filter p ys) x → (b : Bool) → Contains (cond b (y ∷ filter p ys) (filter p ys)) x
    by has true = let low = has.1 in (suc has.0, omega arith, has.2)
    by has false = has

AllPairs-append : {X : Type 0} (R : X → X → Type 0) (xs ys : List X) → AllPairs R xs → AllPairs R ys → All (λ x. All (R x) ys) xs → AllPairs R (xs ++ ys)
AllPairs-append R [] ys first second between = second
AllPairs-append R (x ∷ xs) ys first second between =
    let head : All (R x) xs = λ k d inside. first 0 (suc k) d (omega arith) (omega arith) in
    let tail : AllPairs R xs = λ i j d low inside. first (suc i) (suc j) d (omega arith) (omega arith) in
    AllPairs-cons R x (xs ++ ys) (All-append (R x) xs ys head (All-head (λ z. All (R z) ys) x xs between))
    (AllPairs-append R xs ys tail second (All-tail (λ z. All (R z) ys) x xs between))

-- ---- one name more

module _ (name : UnitName) (names : List UnitName) where
  pub with_itself : Contains (with_name name names) name
  with_itself = Contains-append_right (below name names) (name ∷ above name names) name (0, omega arith, refl)

  -- what stood there still does
  pub with_keeps : (n : UnitName) → Contains names n → Contains (with_name name names) n
  with_keeps n has = by (by_id n name) refl
    where
      by : (o : Ordering) → by_id n name ≡ o → Contains (with_name name names) n
      by Less e =
          Contains-append_left (below name names) (name ∷ above name names) n (Contains-filter (λ m. is_lt (by_id m name)) names n has (ap is_lt e))
      by Equal e = subst (Contains (with_name name names)) (sym (by_id-equal n name e)) with_itself
      by Greater e =
          let there = Contains-filter (λ m. is_gt (by_id m name)) names n has (ap is_gt e) in
          Contains-append_right (below name names) (name ∷ above name names) n (let low = there.1 in (suc there.0, omega arith, there.2))

  -- and nothing else comes
  pub with_all : (P : UnitName → Type 0) → All P names → P name → All P (with_name name names)
  with_all P all has =
      All-append P (below name names) (name ∷ above name names) (All-filter (λ m. is_lt (by_id m name)) P names all)
      (All-cons P name (above name names) has (All-filter (λ m. is_gt (by_id m name)) P names all))

  are_below : All (λ n. by_id n name ≡ Less) (below name names)
  are_below = All-weaker (λ n. is_lt (by_id n name) ≡ true) (λ n. by_id n name ≡ Less) (λ n e. is_less (by_id n name) e) (below name names) (filter_passes (λ m. is_lt (by_id m name)) names)

  are_above : All (λ n. by_id name n ≡ Less) (above name names)
  are_above =
      All-weaker (λ n. is_gt (by_id n name) ≡ true) (λ n. by_id name n ≡ Less) (λ n e. turned_less (by_id n name) (by_id name n) (by_id-total.antisymm name n) e) (above name names)
      (filter_passes (λ m. is_gt (by_id m name)) names)

  pub with_rises : AreRising names → AreRising (with_name name names)
  with_rises rising =
      AllPairs-append (λ a b. by_id a b ≡ Less) (below name names) (name ∷ above name names)
      (AllPairs-filter (λ a b. by_id a b ≡ Less) (λ m. is_lt (by_id m name)) names rising)
      (AllPairs-cons (λ a b. by_id a b ≡ Less) name (above name names) are_above (AllPairs-filter (λ a b. by_id a b ≡ Less) (λ m. is_gt (by_id m name)) names rising))
      (All-weaker (λ n. by_id n name ≡ Less) (λ n. All (λ m. by_id n m ≡ Less) (name ∷ above name names))
      (λ n low. All-cons (λ m. by_id n m ≡ Less) name (above name names) low
      (All-weaker (λ m. by_id name m ≡ Less) (λ m. by_id n m ≡ Less) (λ m high. by_id-total.trans n name m low high) (above name names) are_above))
      (below name names) are_below)

-- ---- in a loop

module _ (p : UnitName → Bool) (before items joined : List UnitName) (i : ℕ) (d : UnitName) (inside : i < length items) (same : joined ≡ before ++ filter p (take i items)) where
  next : (b : Bool) → p (get_or items i d) ≡ b → before ++ filter p (take (i + 1) items) ≡ joined ++ cond b (get_or items i d ∷ []) []
  next b e =
      ap (λ ys. before ++ ys) (filter_more p items i d inside ∙ ap (λ c. filter p (take i items) ++ cond c (get_or items i d ∷ []) []) e)
      ∙ (sym (append_assoc before (filter p (take i items)) (cond b (get_or items i d ∷ []) [])) ∙ ap (λ ys. ys ++ cond b (get_or items i d ∷ []) []) (sym same))

  pub next_passes : p (get_or items i d) ≡ true → joined ++ get_or items i d ∷ [] ≡ before ++ filter p (take (i + 1) items)
  next_passes e = sym (next true e)

  pub next_fails : p (get_or items i d) ≡ false → joined ≡ before ++ filter p (take (i + 1) items)
  next_fails e = sym (next false e ∙ append-nil joined)
