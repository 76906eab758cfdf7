-- A member's rows are satisfied exactly where it isn't selected or each of its requirements is met: the row of what it
-- needs is the lower bound, and the row of what it allows the upper one.
use Rattle.std.proofs.Common.{◌≡◌, ℕ, ◌-◌, ◌<◌, ◌≤◌, inl, inr, Bool, true, false, cond, eqb, leb, List, [], ◌∷◌, ◌++◌, length, count_by, ℤ, pos, ◌≤ℤ◌, ◌+ℤ◌, All, ◌↔◌, refl, sym, ◌∙◌, arith}
use Rattle.std.specs.Bool.{Decides}
use Rattle.std.specs.List.{enumerate_from}
use Rattle.std.proofs.lemmas.Bool.Decides.{nat_tests}
use Rattle.std.proofs.lemmas.Int.{ints}
use Rattle.std.proofs.lemmas.List.Elements.{All-nil, All-cons, All-head, All-append}
use Rattle.std.proofs.lemmas.List.Sums.{count_by-le-length}
use Rattle.ldap_filter.specs.EnvPairs.{EnvPair}
use Rattle.unit_model.specs.Applies.{filter_true}
use Rattle.unit_model.specs.Matches.{Matches}
use Rattle.unit_model.specs.Met.{HasCount, IsMet}
use Rattle.unit_model.specs.declared.required.Required.{Required}
use Rattle.unit_model.specs.declared.unit.Unit.{Unit as Package}
use Rattle.pb_rows.specs.Deciding.{matches}
use Rattle.pb_rows.specs.Members.{numbered, variables, selected}
use Rattle.pb_rows.specs.Normalising.{Satisfies}
use Rattle.pb_rows.specs.Rows.{Row, term, positives, negatives, need_rows, most_rows, required_rows, unit_rows, requirement_rows}
use Rattle.pb_core.specs.Normalised.{signed_share, signed_sum}
use Rattle.pb_core.specs.declared.constraint.Origin.TheVariants as origin
use Rattle.pb_rows.proofs.CountingLaws.{signed_cons, positives_sum, negatives_sum, negative_true, negative_false, crossed, count_yes, count_no}
use Rattle.pb_rows.proofs.DecidingLaws.{Decides-matches}
use Rattle.pb_rows.proofs.ListLaws.{All-left, All-right, All-flat_map, All-enumerate, All-from_enumerate, All-where_true}

-- ---- a weight that a false variable gives

-- where the variable is true, the others reach the degree alone; where it is false, it reaches the degree alone
weighed : (full : ℕ → Bool) (v n : ℕ) (share sum : ℤ) → (full v ≡ true → share ≡ pos 0) → (full v ≡ false → share ≡ pos n) → pos 0 ≤ℤ sum → (pos n ≤ℤ (share +ℤ sum)) ↔ (full v ≡ true → pos n ≤ℤ sum)
weighed full v n share sum when_true when_false low = by (full v) refl
  where
    by : (b : Bool) → full v ≡ b → (pos n ≤ℤ (share +ℤ sum)) ↔ (full v ≡ true → pos n ≤ℤ sum)
    by true e = let none = when_true e in (λ h t. omega (arith, ints), λ f. let reached = f e in omega (arith, ints))
    by false e = let all = when_false e in (λ h t. absurd (cc), λ f. omega (arith, ints))

one_row : (full : ℕ → Bool) (row : Row) (Q : Type 0) → Satisfies full row ↔ Q → All (Satisfies full) (row ∷ []) ↔ Q
one_row full row Q same = (
  λ all. same.0 (All-head (Satisfies full) row [] all),
  λ q. All-cons (Satisfies full) row [] (same.1 q) (All-nil (Satisfies full)),
)

-- ---- at least min

need_holds : (full : ℕ → Bool) (v row min : ℕ) (matching : List ℕ) → All (Satisfies full) (need_rows v row min matching) ↔ (full v ≡ true → min ≤ count_by full matching)
need_holds full v row min matching = by (eqb min 0) refl
  where
    sum : signed_sum full (positives matching) ≡ pos (count_by full matching)
    sum = positives_sum full matching

    line : signed_sum full (term min false v ∷ positives matching) ≡ signed_share full (term min false v) +ℤ signed_sum full (positives matching)
    line = signed_cons full (term min false v) (positives matching)

    least : (pos min ≤ℤ signed_sum full (term min false v ∷ positives matching)) ↔ (full v ≡ true → min ≤ count_by full matching)
    least =
        let w = weighed full v min (signed_share full (term min false v)) (signed_sum full (positives matching)) (negative_true full min v) (negative_false full min v) (rw sum (omega (arith, ints))) in (
          λ h t. let reached = w.0 (rw line at h) t in omega (arith, ints, sum),
          λ f. rw line (w.1 (λ t. let reached = f t in omega (arith, ints, sum))),
        )

    by : (b : Bool) → eqb min 0 ≡ b → All (Satisfies full) (cond b [] (record { terms = term min false v ∷ positives matching; degree = pos min; origin = origin.Need v row } ∷ [])) ↔ (full v ≡ true → min ≤ count_by full matching)
    by true e = let none : min ≡ 0 = grind (arith, nat_tests) in (λ all t. omega arith, λ f. All-nil (Satisfies full))
    by false e = one_row full (record { terms = term min false v ∷ positives matching; degree = pos min; origin = origin.Need v row }) (full v ≡ true → min ≤ count_by full matching) least

-- ---- at most max

most_holds : (full : ℕ → Bool) (v row max : ℕ) (matching : List ℕ) → All (Satisfies full) (most_rows v row max matching) ↔ (full v ≡ true → count_by full matching ≤ max)
most_holds full v row max matching = by (leb (length matching) max) refl
  where
    few : count_by full matching ≤ length matching
    few = count_by-le-length full matching

    sum : signed_sum full (negatives matching) +ℤ pos (count_by full matching) ≡ pos (length matching)
    sum = negatives_sum full matching

    line : signed_sum full (term (length matching - max) false v ∷ negatives matching) ≡ signed_share full (term (length matching - max) false v) +ℤ signed_sum full (negatives matching)
    line = signed_cons full (term (length matching - max) false v) (negatives matching)

    greatest : max < length matching → (pos (length matching - max) ≤ℤ signed_sum full (term (length matching - max) false v ∷ negatives matching)) ↔ (full v ≡ true → count_by full matching ≤ max)
    greatest many =
        let w = weighed full v (length matching - max) (signed_share full (term (length matching - max) false v)) (signed_sum full (negatives matching)) (negative_true full (length matching - max) v) (negative_false full (length matching - max) v) (omega (arith, ints, sum, few)) in (
          λ h t. let reached = w.0 (rw line at h) t in omega (arith, ints, sum),
          λ f. rw line (w.1 (λ t. let reached = f t in omega (arith, ints, sum))),
        )

    by : (b : Bool) → leb (length matching) max ≡ b → All (Satisfies full) (cond b [] (record { terms = term (length matching - max) false v ∷ negatives matching; degree = pos (length matching - max); origin = origin.Most v row } ∷ [])) ↔ (full v ≡ true → count_by full matching ≤ max)
    by true e = let all_allowed : length matching ≤ max = grind (arith, nat_tests) in (λ all t. omega (arith, few), λ f. All-nil (Satisfies full))
    by false e =
        let many : max < length matching = grind (arith, nat_tests) in
        one_row full (record { terms = term (length matching - max) false v ∷ negatives matching; degree = pos (length matching - max); origin = origin.Most v row }) (full v ≡ true → count_by full matching ≤ max) (greatest many)

-- ---- counts of what has a property that a test decides

HasCount-is : {X : Type 0} (P : X → Type 0) (p : X → Bool) → ((x : X) → Decides (p x) (P x)) → (xs : List X) (n : ℕ) → n ≡ count_by p xs → HasCount P xs n
HasCount-is P p each [] n e = e
HasCount-is P p each (x ∷ xs) n e = by (HasCount-is P p each xs) (p x) refl
  where
    by : ((m : ℕ) → m ≡ count_by p xs → HasCount P xs m) → (b : Bool) → p x ≡ b → HasCount P (x ∷ xs) n
    by rest true f =
        let more = count_yes p x xs f in
        inl ((each x).0 f, count_by p xs, omega arith, rest (count_by p xs) refl)
    by rest false f = inr (λ holds. let other : p x ≡ true = (each x).1 holds in cc, rest n (e ∙ count_no p x xs f))

count_is : {X : Type 0} (P : X → Type 0) (p : X → Bool) → ((x : X) → Decides (p x) (P x)) → (xs : List X) (n : ℕ) → HasCount P xs n → n ≡ count_by p xs
count_is P p each [] n h = h
count_is P p each (x ∷ xs) n h = elim h [
  | inl y ↦ let rest = count_is P p each xs y.1 y.3 in let one = count_yes p x xs ((each x).1 y.0) in let more = y.2 in omega arith
  | inr y ↦ count_is P p each xs n y.1 ∙ sym (skip y.0 (p x) refl)
]
  where
    skip : ¬ (P x) → (b : Bool) → p x ≡ b → count_by p (x ∷ xs) ≡ count_by p xs
    skip fails true f = absurd (fails ((each x).0 f))
    skip fails false f = count_no p x xs f

-- ---- one requirement

required_holds : (full : ℕ → Bool) (members : List Package) (env : List EnvPair) (v : ℕ) (m : ℕ × Required) → All (Satisfies full) (required_rows members env v m) ↔ (full v ≡ true → IsMet m.1 (selected full members) env)
required_holds full members env v m = by (filter_true env m.1.filter) refl
  where
    cross : count_by full (variables (matches m.1) members) ≡ count_by (matches m.1) (selected full members)
    cross = crossed full (matches m.1) (numbered members)

    enough : filter_true env m.1.filter ≡ true → IsMet m.1 (selected full members) env → (m.1.min ≤ count_by full (variables (matches m.1) members)) × (count_by full (variables (matches m.1) members) ≤ m.1.max)
    enough e met = elim met [
      | inl off ↦ absurd (cc)
      | inr h ↦
          let count = count_is (Matches m.1) (matches m.1) (Decides-matches m.1) (selected full members) h.count h.counted in
          let least = h.least in
          let most = h.most in
          (omega (arith, cross, count), omega (arith, cross, count))
    ]

    by : (b : Bool) → filter_true env m.1.filter ≡ b → All (Satisfies full) (cond b (need_rows v m.0 m.1.min (variables (matches m.1) members) ++ most_rows v m.0 m.1.max (variables (matches m.1) members)) []) ↔ (full v ≡ true → IsMet m.1 (selected full members) env)
    by false e = (λ all t. inl e, λ met. All-nil (Satisfies full))
    by true e =
        let needs = need_rows v m.0 m.1.min (variables (matches m.1) members) in
        let mosts = most_rows v m.0 m.1.max (variables (matches m.1) members) in
        let need = need_holds full v m.0 m.1.min (variables (matches m.1) members) in
        let most = most_holds full v m.0 m.1.max (variables (matches m.1) members) in (
          λ all t. inr (record {
            count = count_by (matches m.1) (selected full members);
            counted = HasCount-is (Matches m.1) (matches m.1) (Decides-matches m.1) (selected full members) (count_by (matches m.1) (selected full members)) refl;
            least = let low = need.0 (All-left (Satisfies full) needs mosts all) t in omega (arith, cross);
            most = let high = most.0 (All-right (Satisfies full) needs mosts all) t in omega (arith, cross);
          }),
          λ met. All-append (Satisfies full) needs mosts (need.1 (λ t. (enough e (met t)).0)) (most.1 (λ t. (enough e (met t)).1)),
        )

unit_holds : (full : ℕ → Bool) (members : List Package) (env : List EnvPair) (m : ℕ × Package) → All (Satisfies full) (unit_rows members env m) ↔ (full m.0 ≡ true → All (λ r. IsMet r (selected full members) env) m.1.required)
unit_holds full members env m =
    let each = All-flat_map (Satisfies full) (required_rows members env m.0) (λ k. full m.0 ≡ true → IsMet k.1 (selected full members) env) (required_holds full members env m.0) (enumerate_from 1 m.1.required) in (
      λ all t. All-from_enumerate (λ r. IsMet r (selected full members) env) 1 m.1.required
          (λ k d h. each.0 all k d h t),
      λ met. each.1 (λ k d h t. All-enumerate (λ r. IsMet r (selected full members) env) 1 m.1.required (met t) k d h),
    )

pub requirements_hold : (full : ℕ → Bool) (members : List Package) (env : List EnvPair) → All (Satisfies full) (requirement_rows members env) ↔ All (λ u. All (λ r. IsMet r (selected full members) env) u.required) (selected full members)
requirements_hold full members env =
    let rows = All-flat_map (Satisfies full) (unit_rows members env) (λ m. full m.0 ≡ true → All (λ r. IsMet r (selected full members) env) m.1.required) (unit_holds full members env) (numbered members) in
    let units = All-where_true (λ u. All (λ r. IsMet r (selected full members) env) u.required) full (numbered members) in
    (λ all. units.0 (rows.0 all), λ met. rows.1 (units.1 met))
