-- Members of one id stand together.
use Rattle.std.proofs.Common.{◌≡◌, ◌≢◌, ℕ, zero, suc, ◌+◌, ◌-◌, ◌<◌, ◌≤◌, inl, inr, ◌&&◌, not, Bool, true, false, Some, List, [], ◌∷◌, ◌++◌, length, get_or, drop, map, All, AllPairs, Contains, refl, sym, ◌∙◌, ap, subst, arith}
use mathlib.Core.Bool.{beq}
use Rattle.std.specs.List.{slice_get, flat_map, dedup_from}
use Rattle.std.specs.Option.{option_map_or}
use Rattle.std.specs.Ordering.{nat_cmp, is_gt, ordering_then, ordering_reverse}
use Rattle.std.specs.Str.{bytes_eq}
use Rattle.std.specs.Cmp.Lexicographic.{slice_cmp}
use Rattle.std.specs.declared.cmp.Ordering.{Ordering}
use Rattle.std.specs.declared.cmp.Ordering.TheVariants.{Less, Equal, Greater}
use Rattle.std.proofs.lemmas.Cmp.{nat_cmp_total, lists_total}
use Rattle.std.proofs.lemmas.Bool.{cases_lt}
use Rattle.std.proofs.lemmas.List.Elements.{All-weaker, All-push, Contains-append_left, Contains-push}
use Rattle.std.proofs.lemmas.List.Quantifiers.{all_pairs_push}
use Rattle.std.proofs.lemmas.Option.{same_Some, slice_get-get_or, slice_get_within}
use Rattle.std.proofs.lemmas.Slice.Eq.{bytes_eq-Decides}
use Rattle.osgi_version.proofs.VersionOrderLaws.{bytes_equal}
use Rattle.unit_model.specs.declared.unit.Unit.{Unit as Package}
use Rattle.pb_rows.specs.Members.{variables}
use Rattle.pb_rows.specs.Rows.{id_rows, ids}
use Rattle.pb_rows.proofs.VariableLaws.{IsVariableOf, are_variables}
use Rattle.unit_catalog.specs.Order.{by_id}
use Rattle.pb_encode.specs.Places.{id_at, IsFirstOfId, IsRun, of_id}

abbrev Rise : List Package → Type 0
Rise ms = AllPairs (λ u v. by_id u.name v.name ≡ Less) ms

id_cmp : List ℕ → List ℕ → Ordering
id_cmp = slice_cmp nat_cmp

pub id_of : (ms : List Package) (k : ℕ) (u : Package) → slice_get ms k ≡ Some u → id_at ms k ≡ u.name.id
id_of ms k u e = ap (λ o. option_map_or (λ (v : Package). v.name.id) o []) e

not_above : (o p : Ordering) → ordering_then o p ≡ Less → is_gt o ≡ false
not_above Less p e = refl
not_above Equal p e = refl
not_above Greater p e = absurd (cc)

ids_rise : (ms : List Package) (i j : ℕ) → Rise ms → i < j → j < length ms → is_gt (slice_cmp nat_cmp (id_at ms i) (id_at ms j)) ≡ false
ids_rise [] i j rise lt h = absurd (omega arith)
ids_rise (w ∷ ms) i j rise lt h =
    let within : i < length (w ∷ ms) = omega arith in
    let u = get_or (w ∷ ms) i w in
    let v = get_or (w ∷ ms) j w in
    let first = id_of (w ∷ ms) i u (slice_get-get_or (w ∷ ms) i w within) in
    let second = id_of (w ∷ ms) j v (slice_get-get_or (w ∷ ms) j w h) in
    let above = not_above (slice_cmp nat_cmp u.name.id v.name.id) _ (rise i j w lt h) in
    rw (first, second) above

same_order : (o p : Ordering) → o ≡ ordering_reverse p → is_gt o ≡ false → is_gt p ≡ false → o ≡ Equal
same_order Less Less e f g = absurd (cc)
same_order Less Equal e f g = absurd (cc)
same_order Less Greater e f g = absurd (cc)
same_order Equal p e f g = refl
same_order Greater p e f g = absurd (cc)

ids_same : (xs ys : List ℕ) → is_gt (slice_cmp nat_cmp xs ys) ≡ false → is_gt (slice_cmp nat_cmp ys xs) ≡ false → xs ≡ ys
ids_same xs ys f g = bytes_equal xs ys (same_order (slice_cmp nat_cmp xs ys) (slice_cmp nat_cmp ys xs) ((lists_total nat_cmp_total).antisymm xs ys) f g)

-- between two members of one id stands none of another
ids_between : (ms : List Package) (i j k : ℕ) → Rise ms → i < j → j < k → k < length ms → id_at ms i ≡ id_at ms k → id_at ms j ≡ id_at ms i
ids_between ms i j k rise lt lt' h e =
    let first : is_gt (slice_cmp nat_cmp (id_at ms i) (id_at ms j)) ≡ false = ids_rise ms i j rise lt (omega arith) in
    let last : is_gt (slice_cmp nat_cmp (id_at ms j) (id_at ms k)) ≡ false = ids_rise ms j k rise lt' h in
    sym (ids_same (id_at ms i) (id_at ms j) first (rw e last))

pub run_made : (ms : List Package) (from to : ℕ) → Rise ms → from < to → to ≤ length ms → IsFirstOfId ms from → ((k : ℕ) → from ≤ k → k < to → id_at ms k ≡ id_at ms from) → (to < length ms → id_at ms to ≢ id_at ms from) → IsRun ms from to
run_made ms from to rise some within first same next = record { some = some; within = within; each = each }
  where
    each : (k : ℕ) → k < length ms → ((id_at ms k ≡ id_at ms from → (from ≤ k) × (k < to)) × ((from ≤ k) × (k < to) → id_at ms k ≡ id_at ms from))
    each k h = (
      λ e.
          let not_early : (k < from → ⊥) = λ early. first k early (omega arith) e in
          let not_at : (k ≡ to → ⊥) = λ at. next (omega arith) (subst (λ i. id_at ms i ≡ id_at ms from) at e) in
          let not_late : (to < k → ⊥) = λ late. next (omega arith) (ids_between ms from to k rise some late h (sym e)) in
          (grind (arith, not_early), grind (arith, not_at, not_late)),
      λ both. same k both.0 both.1,
    )

pub next_first : (ms : List Package) (from to : ℕ) → Rise ms → IsRun ms from to → IsFirstOfId ms from → IsFirstOfId ms to
next_first ms from to rise run first k early h = λ e.
    let some = run.some in
    let none : (id_at ms to ≡ id_at ms from → ⊥) = λ f. absurd (let both = (run.each to h).0 f in omega (arith, both)) in
    let before : (k < from → ⊥) = λ lt. none (e' lt some e) in
    let inside : (from ≤ k → ⊥) = λ le. none (sym e ∙ (run.each k (omega arith)).1 (le, early)) in
    grind (arith, before, inside)
  where
    e' : k < from → from < to → id_at ms k ≡ id_at ms to → id_at ms to ≡ id_at ms from
    e' lt some e = sym e ∙ sym (ids_between ms k from to rise lt some h e)

-- ---- the ids, each once

same_bytes : (xs ys : List ℕ) → xs ≡ ys → bytes_eq xs ys ≡ true
same_bytes xs ys e = (bytes_eq-Decides xs ys).1 e

other_bytes : (xs ys : List ℕ) → xs ≢ ys → bytes_eq xs ys ≡ false
other_bytes xs ys ne = by (bytes_eq xs ys) refl
  where
    by : (b : Bool) → bytes_eq xs ys ≡ b → b ≡ false
    by true e = absurd (ne ((bytes_eq-Decides xs ys).0 e))
    by false e = refl

run_once : (id : List ℕ) (n : ℕ) (ms : List Package) → n ≤ length ms → ((k : ℕ) → k < n → id_at ms k ≡ id) → (n < length ms → id_at ms n ≢ id) → dedup_from bytes_eq id (map (λ (u : Package). u.name.id) ms) ≡ id ∷ ids (drop n ms)
run_once id zero [] h same next = refl
run_once id (suc n) [] h same next = absurd (omega arith)
run_once id zero (u ∷ ms) h same next =
    let other : bytes_eq u.name.id id ≡ false = other_bytes u.name.id id (next (omega arith)) in
    rw other refl
run_once id (suc n) (u ∷ ms) h same next =
    let one : bytes_eq u.name.id id ≡ true = same_bytes u.name.id id (same 0 (omega arith)) in
    rw one (run_once id n ms (omega arith) (λ k lt. same (suc k) (omega arith)) (λ lt. next (omega arith)))

ids_after : (from n to : ℕ) (ms : List Package) → to ≡ from + 1 + n → to ≤ length ms → ((k j : ℕ) → k < n → j ≡ from + 1 + k → id_at ms j ≡ id_at ms from) → (to < length ms → id_at ms to ≢ id_at ms from) → ids (drop from ms) ≡ id_at ms from ∷ ids (drop to ms)
ids_after from n to [] e h same next = absurd (omega arith)
ids_after zero n to (u ∷ ms) e h same next =
    let last : to ≡ suc n = omega arith in
    rw last
    (run_once u.name.id n ms (omega arith) (λ k less. same k (suc k) less (omega arith))
    (λ less. subst (λ t. id_at (u ∷ ms) t ≢ u.name.id) last (next (omega arith))))
ids_after (suc from) n zero (u ∷ ms) e h same next = absurd (omega arith)
ids_after (suc from) n (suc to) (u ∷ ms) e h same next =
    ids_after from n to ms (omega arith) (omega arith) (λ k j less f. same k (suc j) less (omega arith)) (λ less. next (omega arith))

pub ids_of_run : (ms : List Package) (from to : ℕ) → IsRun ms from to → ids (drop from ms) ≡ id_at ms from ∷ ids (drop to ms)
ids_of_run ms from to run =
    let some = run.some in
    let within = run.within in
    ids_after from (to - from - 1) to ms (omega arith) within
    (λ k j less e. (run.each j (omega arith)).1 (omega arith, omega arith))
    (λ less. λ e. let both = (run.each to less).0 e in absurd (let no : to < to = both.1 in omega arith))

pub run_rows : (ms : List Package) (from to : ℕ) → IsRun ms from to → id_rows ms (id_at ms from) ++ flat_map (id_rows ms) (ids (drop to ms)) ≡ flat_map (id_rows ms) (ids (drop from ms))
run_rows ms from to run = ap (flat_map (id_rows ms)) (sym (ids_of_run ms from to run))

-- ---- the variables of one id

-- What was found of the members from one place up to another.
pub record IsFoundUpTo (ms : List Package) (id : List ℕ) (singleton : Bool) (from to : ℕ) (found : List ℕ) : Type 0 where
  pub rising : AllPairs (λ v w. v < w) found
  pub below : All (λ v. v ≤ to) found
  pub each : All (IsVariableOf (of_id id singleton) ms) found
  pub every : (k : ℕ) (u : Package) → from ≤ k → k < to → slice_get ms k ≡ Some u → u.singleton ≡ singleton → Contains found (k + 1)

passes : (id : List ℕ) (singleton : Bool) (u : Package) → u.name.id ≡ id → u.singleton ≡ singleton → of_id id singleton u ≡ true
passes id true u e f = let same : bytes_eq u.name.id id ≡ true = same_bytes u.name.id id e in rw (same, f) refl
passes id false u e f = let same : bytes_eq u.name.id id ≡ true = same_bytes u.name.id id e in rw (same, f) refl

pub same_truth : (a b : Bool) → beq a b ≡ true → a ≡ b
same_truth true true e = refl
same_truth true false e = absurd (cc)
same_truth false true e = absurd (cc)
same_truth false false e = refl

pub other_truth : (a b : Bool) → beq a b ≡ false → a ≡ b → ⊥
other_truth true true e f = cc
other_truth true false e f = cc
other_truth false true e f = cc
other_truth false false e f = cc

both_parts : (a b : Bool) → (a && b) ≡ true → (a ≡ true) × (b ≡ true)
both_parts true true e = (refl, refl)
both_parts true false e = absurd (cc)
both_parts false b e = absurd (cc)

not_true : (b : Bool) → not b ≡ true → b ≡ false
not_true true e = absurd (cc)
not_true false e = refl

passed : (id : List ℕ) (singleton : Bool) (u : Package) → of_id id singleton u ≡ true → (u.name.id ≡ id) × (u.singleton ≡ singleton)
passed id true u e = let both = both_parts (bytes_eq u.name.id id) u.singleton e in ((bytes_eq-Decides u.name.id id).0 both.0, both.1)
passed id false u e = let both = both_parts (bytes_eq u.name.id id) (not u.singleton) e in ((bytes_eq-Decides u.name.id id).0 both.0, not_true u.singleton both.1)

pub found_push : (ms : List Package) (from to : ℕ) (singleton : Bool) (p : ℕ) (found : List ℕ) (u : Package) → IsRun ms from to → from ≤ p → p < to → slice_get ms p ≡ Some u → u.singleton ≡ singleton → IsFoundUpTo ms (id_at ms from) singleton from p found → IsFoundUpTo ms (id_at ms from) singleton from (p + 1) (found ++ (p + 1) ∷ [])
found_push ms from to singleton p found u run le lt here is old =
    let within : p < length ms = slice_get_within ms p u here in
    let id : u.name.id ≡ id_at ms from = sym (id_of ms p u here) ∙ (run.each p within).1 (le, lt) in
    record {
      rising = all_pairs_push (λ v w. v < w) found (p + 1) old.rising (λ k d h. let below = old.below k d h in omega arith);
      below = All-push (λ v. v ≤ p + 1) found (p + 1) (All-weaker (λ v. v ≤ p) (λ v. v ≤ p + 1) (λ v low. omega arith) found old.below) (omega arith);
      each = All-push (IsVariableOf (of_id (id_at ms from) singleton) ms) found (p + 1) old.each
          (record { place = p; unit = u; here = here; passes = passes (id_at ms from) singleton u id is; is = refl });
      every = every;
    }
  where
    every : (k : ℕ) (w : Package) → from ≤ k → k < p + 1 → slice_get ms k ≡ Some w → w.singleton ≡ singleton → Contains (found ++ (p + 1) ∷ []) (k + 1)
    every k w low high there e = elim (cases_lt k p) [
      | inl early ↦ Contains-append_left found ((p + 1) ∷ []) (k + 1) (old.every k w low early there e)
      | inr late ↦ let last : p ≡ k = omega arith in subst (λ i. Contains (found ++ (p + 1) ∷ []) (i + 1)) last (Contains-push found (p + 1))
    ]

pub found_skip : (ms : List Package) (from : ℕ) (singleton : Bool) (p : ℕ) (found : List ℕ) (u : Package) → slice_get ms p ≡ Some u → (u.singleton ≡ singleton → ⊥) → IsFoundUpTo ms (id_at ms from) singleton from p found → IsFoundUpTo ms (id_at ms from) singleton from (p + 1) found
found_skip ms from singleton p found u here other old = record {
  rising = old.rising;
  below = All-weaker (λ v. v ≤ p) (λ v. v ≤ p + 1) (λ v low. omega arith) found old.below;
  each = old.each;
  every = every;
}
  where
    every : (k : ℕ) (w : Package) → from ≤ k → k < p + 1 → slice_get ms k ≡ Some w → w.singleton ≡ singleton → Contains found (k + 1)
    every k w low high there e = elim (cases_lt k p) [
      | inl early ↦ old.every k w low early there e
      | inr late ↦
          let last : k ≡ p = omega arith in
          let same : w ≡ u = same_Some w u (sym there ∙ (ap (slice_get ms) last ∙ here)) in
          absurd (other (sym (ap (λ (v : Package). v.singleton) same) ∙ e))
    ]

pub found_all : (ms : List Package) (from to : ℕ) (singleton : Bool) (found : List ℕ) → IsRun ms from to → IsFoundUpTo ms (id_at ms from) singleton from to found → found ≡ variables (of_id (id_at ms from) singleton) ms
found_all ms from to singleton found run is =
    are_variables (of_id (id_at ms from) singleton) ms found is.rising is.each
    (λ v var.
    let both = passed (id_at ms from) singleton var.unit var.passes in
    let within = slice_get_within ms var.place var.unit var.here in
    let inside = (run.each var.place within).0 (id_of ms var.place var.unit var.here ∙ both.0) in
    subst (Contains found) (sym var.is) (is.every var.place var.unit inside.0 inside.1 var.here both.1))
