-- The part of a map behind a path, in which what stands below the path comes first.
use Rattle.std.specs.Prelude.{map}
use Rattle.std.proofs.Common.{◌≡◌, ◌≢◌, ◌⊎◌, ◌↔◌, inl, inr, ⊎_elim, ℕ, zero, suc, Bool, true, false, cond, not, ◌&&◌, List, [], ◌∷◌, ◌++◌, Bor, Option, Some, None, Ordering, IsTrue, refl, sym, ◌∙◌, ap, subst, arith, append_assoc}
use Rattle.std.specs.List.{All, AllByRecursion, Contains, filter}
use Rattle.std.specs.List.Sorted.{IsStrictlySortedBy}
use Rattle.std.specs.Map.{keys_of, lookup}
use Rattle.std.specs.Map.Iter.{TakesLast, deref_pair}
use Rattle.std.specs.Option.{IsSome, MatchOption}
use Rattle.std.specs.Ordering.{eq_by_cmp, is_lt}
use Rattle.std.specs.BTreeMap.{BTreeMap, IsOrdered, get, is_at, keys}
use Rattle.std.specs.BTreeMap.Range.{IsEntryInRange, IsRangeOf, entries_between, range_contains}
use Rattle.std.specs.declared.cmp.Ordering.TheVariants.{Greater}
use Rattle.std.specs.declared.ops.Bound.TheVariants.{Excluded, Unbounded}
use Rattle.std.proofs.lemmas.Bool.{cases_Bool, false≢true}
use Rattle.std.proofs.lemmas.List.{append-nil}
use Rattle.std.proofs.lemmas.List.Elements.{All-head, All-tail}
use Rattle.std.proofs.lemmas.List.Kept.{IsStrictlySortedBy-filter}
use Rattle.std.proofs.lemmas.Map.Entries.{lookup-filter-keys}
use Rattle.std.proofs.lemmas.Map.Views.{Contains-keys_from_lookup, tells_apart}
use Rattle.folder_core.specs.Path.{IsBelow}
use Rattle.folder_core.specs.PathOrder.{path_cmp, IsPathBefore}
use Rattle.folder_memory.specs.Below.{IsFirstBelow}
use Rattle.folder_memory.specs.Places.{HasBelow, HasFrom, IsLastBefore, NothingBefore}
use Rattle.folder_memory.proofs.Kids.{AnyOf, Gathers}
use Rattle.folder_memory.proofs.Order.{apart_before, before_not_after, below_is_after, between}
use Rattle.folder_memory.proofs.Listed.{exact_paths}

abbrev Place : Type 0
Place = List (List ℕ)

pub AnyOf-map : {T : Type 0} (P Q : T → Type 0) → ((x : T) → P x → Q x) → (xs : List T) → AnyOf P xs → AnyOf Q xs
AnyOf-map P Q f [] any = absurd any
AnyOf-map P Q f (x ∷ xs) (inl here) = inl (f x here)
AnyOf-map P Q f (x ∷ xs) (inr there) = inr (AnyOf-map P Q f xs there)

all_at : {T : Type 0} (P : T → Type 0) (xs : List T) (x : T) → AllByRecursion P xs → Contains xs x → P x
all_at P [] x all (k, below, at) = absurd (omega arith)
all_at P (y ∷ xs) x all (zero, below, at) = subst P at all.0
all_at P (y ∷ xs) x all (suc k, below, at) = all_at P xs x all.1 (k, omega arith, at)

all_middle : {T : Type 0} (P : T → Type 0) (front : List T) (x : T) (rest : List T) → All P (front ++ x ∷ rest) → P x
all_middle P [] x rest all = All-head P x rest all
all_middle P (y ∷ front) x rest all = all_middle P front x rest (All-tail P y (front ++ x ∷ rest) all)

-- a place of a list in order is before this one, or this one, or behind it
in_order : (front : List Place) (place : Place) (rest : List Place) → IsStrictlySortedBy path_cmp (front ++ place ∷ rest) → (other : Place) → Contains (front ++ place ∷ rest) other
    → Contains front other ⊎ ((other ≡ place) ⊎ IsPathBefore place other)
unfolding IsStrictlySortedBy
in_order [] place rest sorted other (zero, below, at) = inr (inl (sym at))
in_order [] place rest sorted other (suc k, below, at) = inr (inr (all_at (λ p. IsPathBefore place p) rest other sorted.0 (k, omega arith, at)))
in_order (x ∷ front) place rest sorted other (zero, below, at) = inl (0, omega arith, at)
in_order (x ∷ front) place rest sorted other (suc k, below, at) =
    ⊎_elim (λ has. inl (suc has.0, omega (arith, has.1), has.2)) (λ e. inr e) (in_order front place rest sorted.1 other (k, omega arith, at))

module _ {V : Type 0} where
  keys_filter : (test : Place → Bool) (es : List (Place × V)) → keys_of (filter (λ e. test e.0) es) ≡ filter test (keys_of es)
  keys_filter test [] = refl
  keys_filter test (e ∷ es) = elim (cases_Bool (test e.0)) [
    | inl is ↦
        ap (λ (b : Bool). keys_of (cond b (e ∷ filter (λ e. test e.0) es) (filter (λ e. test e.0) es))) is
        ∙ ap (λ (l : List Place). e.0 ∷ l) (keys_filter test es)
        ∙ sym (ap (λ (b : Bool). cond b (e.0 ∷ filter test (keys_of es)) (filter test (keys_of es))) is)
    | inr other ↦
        ap (λ (b : Bool). keys_of (cond b (e ∷ filter (λ e. test e.0) es) (filter (λ e. test e.0) es))) other
        ∙ keys_filter test es
        ∙ sym (ap (λ (b : Bool). cond b (e.0 ∷ filter test (keys_of es)) (filter test (keys_of es))) other)
  ]

  keys_append : (es fs : List (Place × V)) → keys_of (es ++ fs) ≡ keys_of es ++ keys_of fs
  keys_append [] fs = refl
  keys_append (e ∷ es) fs = ap (λ (l : List Place). e.0 ∷ l) (keys_append es fs)

  -- a key of the pairs so far is the place of one of them
  any_key : (xs : List (Bor Place × Bor V)) (place : Place) → Contains (keys_of (map deref_pair xs)) place → AnyOf (λ x. x.0.now ≡ place) xs
  any_key [] place (k, below, at) = absurd (omega arith)
  any_key (x ∷ xs) place (zero, below, at) = inl at
  any_key (x ∷ xs) place (suc k, below, at) = inr (any_key xs place (k, omega arith, at))

module _ {V : Type 0} (places : BTreeMap Place V) (path : Place) (part : List (Place × V)) (ordered : IsOrdered path_cmp places)
    (is_part : part ≡ entries_between path_cmp (Excluded path) Unbounded places.entries)
    (all : All (IsEntryInRange path_cmp (Excluded path) Unbounded places) part) where
  abbrev Behind : Place × V → Type 0
  Behind = IsEntryInRange path_cmp (Excluded path) Unbounded places

  abbrev is_behind : Place → Bool
  is_behind place = range_contains path_cmp (Excluded path) Unbounded place

  behind_below : (place : Place) → IsBelow path place → is_behind place ≡ true
  behind_below place below = ap (λ (o : Ordering). is_lt o && not false) (below_is_after path place below)

  looked_up : (place : Place) → IsBelow path place → lookup (is_at (path_cmp place)) part ≡ get path_cmp places place
  looked_up place below =
      ap (λ (es : List (Place × V)). lookup (is_at (path_cmp place)) es) is_part
      ∙ lookup-filter-keys (is_at (path_cmp place)) is_behind true
      (λ other at. subst (λ p. is_behind p ≡ true) (tells_apart exact_paths place other at) (behind_below place below)) places.entries

  in_part : (place : Place) → IsBelow path place → IsSome (get path_cmp places place) → Contains (keys_of part) place
  in_part place below some =
      Contains-keys_from_lookup {eq = eq_by_cmp path_cmp} (tells_apart exact_paths) place part (subst (λ (v : Option V). IsSome v) (sym (looked_up place below)) some)

  sorted : IsStrictlySortedBy path_cmp (keys_of part)
  sorted =
      subst (IsStrictlySortedBy path_cmp) (sym (ap (λ (es : List (Place × V)). keys_of es) is_part ∙ keys_filter is_behind places.entries))
      (IsStrictlySortedBy-filter path_cmp is_behind (keys places) ordered)

  -- one of the pairs so far stands at its place
  pub standing : (P : Place → Type 0) (xs : List (Bor Place × Bor V)) (rest : List (Place × V)) → part ≡ map deref_pair xs ++ rest → AnyOf (λ x. P x.0.now) xs → (place : Place) × P place × IsSome (get path_cmp places place)
  standing P xs rest split any = at xs (subst (All Behind) split all) any
    where
      at : (ys : List (Bor Place × Bor V)) → All Behind (map deref_pair ys ++ rest) → AnyOf (λ x. P x.0.now) ys → (place : Place) × P place × IsSome (get path_cmp places place)
      at [] all_ys none = absurd none
      at (y ∷ ys) all_ys (inl here) =
          (y.0.now, here, subst (λ (v : Option V). IsSome v) (sym (All-head Behind (deref_pair y) (map deref_pair ys ++ rest) all_ys).1) refl)
      at (y ∷ ys) all_ys (inr there) = at ys (All-tail Behind (deref_pair y) (map deref_pair ys ++ rest) all_ys) there

  -- at the end all were seen
  pub all_seen : (xs : List (Bor Place × Bor V)) → part ≡ map deref_pair xs → (place : Place) → IsBelow path place → IsSome (get path_cmp places place) → AnyOf (λ x. x.0.now ≡ place) xs
  all_seen xs whole place below some = any_key xs place (subst (λ (es : List (Place × V)). Contains (keys_of es) place) whole (in_part place below some))

  not_below_behind : (place other : Place) → IsPathBefore path place → ¬ (IsBelow path place) → IsBelow path other → ¬ (IsPathBefore place other)
  not_below_behind place other behind apart below before =
      let up_to = subst (λ p. path_cmp place p ≢ Greater) below.2 (before_not_after place other before) in
      at (between path place (below.0 ∷ below.1) (before_not_after path place behind) up_to)
    where
      at : (more : Place) × (place ≡ path ++ more) → ⊥
      at ([], is) = apart_before path (subst (λ p. IsPathBefore path p) (is ∙ append-nil path) behind)
      at (name ∷ rest, is) = apart (name, rest, is)

  -- where a place isn't below the path, all that are were seen
  pub all_passed : (xs : List (Bor Place × Bor V)) (pair : Place × V) (rest : List (Place × V)) → part ≡ map deref_pair xs ++ pair ∷ rest → ¬ (IsBelow path pair.0) → (place : Place) → IsBelow path place → IsSome (get path_cmp places place) → AnyOf (λ x. x.0.now ≡ place) xs
  all_passed xs pair rest split apart place below some =
      let listed = ap (λ (es : List (Place × V)). keys_of es) split ∙ keys_append (map deref_pair xs) (pair ∷ rest) in
      let behind = (all_middle Behind (map deref_pair xs) pair rest (subst (All Behind) split all)).0.0 in
      ⊎_elim
      (λ has. any_key xs place has)
      (λ other. absurd (⊎_elim
      (λ is. apart (subst (IsBelow path) is below))
      (not_below_behind pair.0 place behind apart below)
      other))
      (in_order (keys_of (map deref_pair xs)) pair.0 (keys_of rest) (subst (IsStrictlySortedBy path_cmp) listed sorted) place (subst (λ l. Contains l place) listed (in_part place below some)))

  -- a set of the names that the places so far give, where all that are below were seen
  pub names_gathered : (xs : List (Bor Place × Bor V)) (rest : List (Place × V)) (has : List ℕ → Bool) → part ≡ map deref_pair xs ++ rest
      → ((place : Place) → IsBelow path place → IsSome (get path_cmp places place) → AnyOf (λ x. x.0.now ≡ place) xs)
      → Gathers (λ x name. IsFirstBelow path name x.0.now) has xs
      → (name : List ℕ) → IsTrue (has name) ↔ HasFrom places (path ++ name ∷ [])
  names_gathered xs rest has split seen gathers name = (there, back)
    where
      there : IsTrue (has name) → HasFrom places (path ++ name ∷ [])
      there is =
          let found = standing (λ p. IsFirstBelow path name p) xs rest split ((gathers name).0 is) in
          (found.1.0, subst (λ p. IsSome (get path_cmp places p)) (found.1.1 ∙ sym (append_assoc path (name ∷ []) found.1.0)) found.2)

      back : HasFrom places (path ++ name ∷ []) → IsTrue (has name)
      back from =
          let place = (path ++ name ∷ []) ++ from.0 in
          let is = append_assoc path (name ∷ []) from.0 in
          (gathers name).1 (AnyOf-map (λ x. x.0.now ≡ place) (λ x. IsFirstBelow path name x.0.now) (λ x at. (from.0, at ∙ is)) xs (seen place (name, from.0, is) from.1))

  -- whether the first place of the part is below the path
  pub first_is_below : (pair : Place × V) (rest : List (Place × V)) → part ≡ pair ∷ rest → IsBelow path pair.0 → HasBelow places path
  first_is_below pair rest split below =
      let here = All-head Behind pair rest (subst (All Behind) split all) in
      (pair.0, below, subst (λ (v : Option V). IsSome v) (sym here.1) refl)

  pub first_apart : (pair : Place × V) (rest : List (Place × V)) → part ≡ pair ∷ rest → ¬ (IsBelow path pair.0) → ¬ (HasBelow places path)
  first_apart pair rest split apart has = all_passed [] pair rest split apart has.0 has.1 has.2

  pub nothing_behind : part ≡ [] → ¬ (HasBelow places path)
  nothing_behind none has = all_seen [] none has.0 has.1 has.2

  -- what a test of the first place tells
  pub first_tells : (pair : Place × V) (rest : List (Place × V)) → part ≡ pair ∷ rest → (found : Bool) → (IsTrue found → IsBelow path pair.0) → (found ≡ false → ¬ (IsBelow path pair.0)) → IsTrue found ↔ HasBelow places path
  first_tells pair rest split true below apart = (λ always. first_is_below pair rest split (below always), λ has. refl)
  first_tells pair rest split false below apart = (λ never. absurd (false≢true never), λ has. absurd (first_apart pair rest split (apart refl) has))

-- ---- the last before a path

module _ {V : Type 0} (places : BTreeMap Place V) (path : Place) (part : List (Place × V)) (range : IsRangeOf path_cmp Unbounded (Excluded path) places part) where
  not_some : (value : Option V) → value ≡ None → ¬ (IsSome value)
  not_some None is some = let bad : ⊥ = cc in bad
  not_some (Some v) is some = let bad : ⊥ = cc in bad

  pub last_found : (found : Option (Bor Place × Bor V)) (rest : List (Place × V)) → TakesLast deref_pair part found rest
      → MatchOption found (NothingBefore places path) (λ f. IsLastBefore places path f.0.now f.1.now)
  last_found None rest step = λ other before some. not_some (get path_cmp places other) (range.5 step.0 other (tt, before)) some
  last_found (Some f) rest step = record {
    stands = (range.3 (deref_pair f) rest step).1;
    before = (range.3 (deref_pair f) rest step).0.1;
    last = λ other before some is. false≢true (sym (range.4 (deref_pair f) rest step other (tt, before) some) ∙ ap (λ (o : Ordering). is_lt o) is);
  }
