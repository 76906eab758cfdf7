-- An id's rows are satisfied exactly where at most one of its singletons is selected, and none beside another unit of
-- the id. Where that holds of each id, no two selected members collide.
use Rattle.std.proofs.Common.{◌≡◌, ℕ, suc, ◌+◌, ◌-◌, ◌<◌, ◌≤◌, inl, inr, ◌&&◌, Bool, true, false, not, cond, eqb, leb, List, [], ◌∷◌, ◌++◌, length, get_or, map, count_by, pos, ◌+ℤ◌, All, AllPairs, Contains, ◌↔◌, refl, sym, ◌∙◌, ap, arith}
use Rattle.std.specs.Str.{bytes_eq}
use Rattle.std.specs.Cmp.Lexicographic.{nat_list_eq_equiv}
use Rattle.std.proofs.lemmas.Bool.{cases_lt}
use Rattle.std.proofs.lemmas.Bool.Decides.{nat_tests}
use Rattle.std.proofs.lemmas.Int.{ints}
use Rattle.std.proofs.lemmas.List.{get_or-map, length-map}
use Rattle.std.proofs.lemmas.List.Elements.{All-nil, All-cons, All-head, All-map, All-contains}
use Rattle.std.proofs.lemmas.List.Kept.{Contains-dedup}
use Rattle.std.proofs.lemmas.List.Sums.{count_by-le-length}
use Rattle.std.proofs.lemmas.Slice.Eq.{bytes_eq-Decides}
use Rattle.unit_model.specs.Valid.{Collide}
use Rattle.unit_model.specs.declared.unit.Unit.{Unit as Package}
use Rattle.pb_rows.specs.Deciding.{is_single, is_other}
use Rattle.pb_rows.specs.Members.{numbered, variables, selected}
use Rattle.pb_rows.specs.Normalising.{Satisfies}
use Rattle.pb_rows.specs.Rows.{Row, term, negatives, beside, apart_rows, id_rows, ids, singleton_rows}
use Rattle.pb_core.specs.Normalised.{signed_share, signed_sum}
use Rattle.pb_core.specs.declared.constraint.Origin.TheVariants as origin
use Rattle.pb_rows.proofs.CountingLaws.{one_where_true, none_where_false, count_yes, count_no, count_none, count_some, count_two, crossed, signed_cons, signed_append, negatives_sum, negative_true, negative_false}
use Rattle.pb_rows.proofs.DecidingLaws.{true_from, from_true}
use Rattle.pb_rows.proofs.ListLaws.{All-from_map, All-flat_map, All-selected}

-- At most one singleton, and then no other.
abbrev pub IsAlone : ℕ → ℕ → Type 0
IsAlone singles others = (singles ≤ 1) × (1 ≤ singles → others ≡ 0)

-- ---- rows of one id

one_row : (full : ℕ → Bool) (row : Row) (Q : Type 0) → Satisfies full row ↔ Q → All (Satisfies full) (row ∷ []) ↔ Q
one_row full row Q same = (
  λ all. same.0 (All-head (Satisfies full) row [] all),
  λ q. All-cons (Satisfies full) row [] (same.1 q) (All-nil (Satisfies full)),
)

beside_holds : (full : ℕ → Bool) (id singles : List ℕ) (n : ℕ) → Satisfies full (beside id singles n) ↔ (count_by full singles + cond (full n) 1 0 ≤ 1)
beside_holds full id singles n = by (full n) refl
  where
    sum : signed_sum full (negatives singles) +ℤ pos (count_by full singles) ≡ pos (length singles)
    sum = negatives_sum full singles

    line : signed_sum full (negatives singles ++ term 1 false n ∷ []) ≡ signed_sum full (negatives singles) +ℤ signed_share full (term 1 false n)
    line = signed_append full (negatives singles) (term 1 false n ∷ []) ∙ ap (λ z. signed_sum full (negatives singles) +ℤ z) (signed_cons full (term 1 false n) [] ∙ omega (arith, ints))

    by : (b : Bool) → full n ≡ b → Satisfies full (beside id singles n) ↔ (count_by full singles + cond (full n) 1 0 ≤ 1)
    by true e =
        let share = negative_true full 1 n e in
        let one = one_where_true (full n) e in
        (λ h. omega (arith, ints, sum, line), λ h. omega (arith, ints, sum, line))
    by false e =
        let share = negative_false full 1 n e in
        let none = none_where_false (full n) e in
        (λ h. omega (arith, ints, sum, line), λ h. omega (arith, ints, sum, line))

apart_holds : (full : ℕ → Bool) (id singles others : List ℕ) → All (Satisfies full) (apart_rows id singles others) ↔ IsAlone (count_by full singles) (count_by full others)
apart_holds full id singles [] = by (leb (length singles) 1) refl
  where
    few : count_by full singles ≤ length singles
    few = count_by-le-length full singles

    sum : signed_sum full (negatives singles) +ℤ pos (count_by full singles) ≡ pos (length singles)
    sum = negatives_sum full singles

    by : (b : Bool) → leb (length singles) 1 ≡ b → All (Satisfies full) (cond b [] (record { terms = negatives singles; degree = pos (length singles - 1); origin = origin.One id } ∷ [])) ↔ IsAlone (count_by full singles) 0
    by true e =
        let one : length singles ≤ 1 = grind (arith, nat_tests) in
        (λ all. (omega (arith, few), λ h. refl), λ alone. All-nil (Satisfies full))
    by false e =
        let many : 1 < length singles = grind (arith, nat_tests) in
        one_row full (record { terms = negatives singles; degree = pos (length singles - 1); origin = origin.One id }) (IsAlone (count_by full singles) 0)
        (λ h. (omega (arith, ints, sum), λ some. refl), λ alone. let most = alone.0 in omega (arith, ints, sum))
apart_holds full id singles (other ∷ others) = by (eqb (length singles) 0) refl
  where
    few : count_by full singles ≤ length singles
    few = count_by-le-length full singles

    each : All (λ n. count_by full singles + cond (full n) 1 0 ≤ 1) (other ∷ others) → (k d : ℕ) → k < length (other ∷ others) → 1 ≤ count_by full singles → full (get_or (other ∷ others) k d) ≡ false
    each all k d h some = case (full (get_or (other ∷ others) k d)) refl
      where
        case : (b : Bool) → full (get_or (other ∷ others) k d) ≡ b → full (get_or (other ∷ others) k d) ≡ false
        case true e =
            let le : count_by full singles + cond (full (get_or (other ∷ others) k d)) 1 0 ≤ 1 = all k d h in
            let one = one_where_true (full (get_or (other ∷ others) k d)) e in
            absurd (omega arith)
        case false e = e

    back : IsAlone (count_by full singles) (count_by full (other ∷ others)) → (k d : ℕ) → k < length (other ∷ others) → count_by full singles + cond (full (get_or (other ∷ others) k d)) 1 0 ≤ 1
    back alone k d h = case (full (get_or (other ∷ others) k d)) refl
      where
        case : (b : Bool) → full (get_or (other ∷ others) k d) ≡ b → count_by full singles + cond (full (get_or (other ∷ others) k d)) 1 0 ≤ 1
        case true e =
            let some = count_some full (other ∷ others) k d h e in
            let one = one_where_true (full (get_or (other ∷ others) k d)) e in
            elim (cases_lt (count_by full singles) 1) [
              | inl none ↦ omega arith
              | inr lone ↦ absurd (omega (arith, alone.1 lone))
            ]
        case false e =
            let most = alone.0 in
            let none = none_where_false (full (get_or (other ∷ others) k d)) e in
            omega arith

    by : (b : Bool) → eqb (length singles) 0 ≡ b → All (Satisfies full) (cond b [] (map (beside id singles) (other ∷ others))) ↔ IsAlone (count_by full singles) (count_by full (other ∷ others))
    by true e =
        let none : length singles ≡ 0 = grind (arith, nat_tests) in
        (λ all. (omega (arith, few), λ some. absurd (omega (arith, few))), λ alone. All-nil (Satisfies full))
    by false e = (
      λ all.
          let kept : All (λ n. count_by full singles + cond (full n) 1 0 ≤ 1) (other ∷ others) = λ k d h. (beside_holds full id singles (get_or (other ∷ others) k d)).0 (All-from_map (Satisfies full) (beside id singles) (other ∷ others) all k d h) in
          let first : count_by full singles + cond (full other) 1 0 ≤ 1 = kept 0 other (omega arith) in
          (omega arith, λ some. count_none full (other ∷ others) (λ k d h. each kept k d h some)),
      λ alone. All-map (Satisfies full) (beside id singles) (other ∷ others) (λ k d h. (beside_holds full id singles (get_or (other ∷ others) k d)).1 (back alone k d h)),
    )

-- The same, counted among the selected members.
abbrev IsAloneAmong : List Package → List ℕ → Type 0
IsAloneAmong units id = IsAlone (count_by (is_single id) units) (count_by (is_other id) units)

id_holds : (full : ℕ → Bool) (members : List Package) (id : List ℕ) → All (Satisfies full) (id_rows members id) ↔ IsAloneAmong (selected full members) id
id_holds full members id =
    rw (crossed full (is_single id) (numbered members), crossed full (is_other id) (numbered members)) at
    (apart_holds full id (variables (is_single id) members) (variables (is_other id) members))

-- ---- tests on one unit

single_from : (id : List ℕ) (u : Package) → u.name.id ≡ id → u.singleton ≡ true → is_single id u ≡ true
single_from id u e s = let same = (bytes_eq-Decides u.name.id id).1 e in rw (same, s) refl

other_from : (id : List ℕ) (u : Package) → u.name.id ≡ id → u.singleton ≡ false → is_other id u ≡ true
other_from id u e s = let same = (bytes_eq-Decides u.name.id id).1 e in rw (same, s) refl

single_tells : (id : List ℕ) (u : Package) → is_single id u ≡ true → (u.name.id ≡ id) × (u.singleton ≡ true)
single_tells id u h = by (bytes_eq u.name.id id) u.singleton refl refl h
  where
    by : (a b : Bool) → bytes_eq u.name.id id ≡ a → u.singleton ≡ b → (a && b) ≡ true → (u.name.id ≡ id) × (u.singleton ≡ true)
    by true true e f g = ((bytes_eq-Decides u.name.id id).0 e, f)
    by true false e f g = absurd (cc)
    by false b e f g = absurd (cc)

other_tells : (id : List ℕ) (u : Package) → is_other id u ≡ true → u.name.id ≡ id
other_tells id u h = by (bytes_eq u.name.id id) u.singleton refl h
  where
    by : (a b : Bool) → bytes_eq u.name.id id ≡ a → (a && not b) ≡ true → u.name.id ≡ id
    by true b e g = (bytes_eq-Decides u.name.id id).0 e
    by false b e g = absurd (cc)

-- ---- no two collide

apart_from_alone : (units : List Package) → All (λ u. IsAloneAmong units u.name.id) units → AllPairs (λ u v. ¬ (Collide u v)) units
apart_from_alone units alone i j d lt h collide = by (get_or units i d).singleton (get_or units j d).singleton refl refl
  where
    within : i < length units
    within = omega arith

    here : IsAloneAmong units (get_or units i d).name.id
    here = alone i d within

    by : (a b : Bool) → (get_or units i d).singleton ≡ a → (get_or units j d).singleton ≡ b → ⊥
    by true true e f =
        let one = single_from (get_or units i d).name.id (get_or units i d) refl e in
        let two = single_from (get_or units i d).name.id (get_or units j d) (sym collide.0) f in
        let both = count_two (is_single (get_or units i d).name.id) units i j d lt h one two in
        omega (arith, both, here.0)
    by true false e f =
        let one = count_some (is_single (get_or units i d).name.id) units i d within (single_from (get_or units i d).name.id (get_or units i d) refl e) in
        let two = count_some (is_other (get_or units i d).name.id) units j d h (other_from (get_or units i d).name.id (get_or units j d) (sym collide.0) f) in
        omega (arith, two, here.1 one)
    by false true e f =
        let one = count_some (is_single (get_or units i d).name.id) units j d h (single_from (get_or units i d).name.id (get_or units j d) (sym collide.0) f) in
        let two = count_some (is_other (get_or units i d).name.id) units i d within (other_from (get_or units i d).name.id (get_or units i d) refl e) in
        omega (arith, two, here.1 one)
    by false false e f = elim collide.1 [
      | inl t ↦ let lone = from_true (get_or units i d).singleton t in cc
      | inr t ↦ let lone = from_true (get_or units j d).singleton t in cc
    ]

alone_from_apart : (id : List ℕ) (units : List Package) → AllPairs (λ u v. ¬ (Collide u v)) units → IsAloneAmong units id
alone_from_apart id [] apart = (omega arith, λ some. refl)
alone_from_apart id (u ∷ us) apart =
    by (alone_from_apart id us (λ i j d lt h. apart (suc i) (suc j) d (omega arith) (omega arith))) (is_single id u) (is_other id u) refl refl
  where
    no_collision : (k : ℕ) (d : Package) → k < length us → Collide u (get_or us k d) → ⊥
    no_collision k d h = apart 0 (suc k) d (omega arith) (omega arith)

    no_single : u.name.id ≡ id → All (λ v. is_single id v ≡ false) us
    no_single same k d h = case (is_single id (get_or us k d)) refl
      where
        case : (b : Bool) → is_single id (get_or us k d) ≡ b → is_single id (get_or us k d) ≡ false
        case true e =
            let tells = single_tells id (get_or us k d) e in
            absurd (no_collision k d h (same ∙ sym tells.0, inr (true_from (get_or us k d).singleton tells.1)))
        case false e = e

    no_other : is_single id u ≡ true → All (λ v. is_other id v ≡ false) us
    no_other single k d h = case (is_other id (get_or us k d)) refl
      where
        case : (b : Bool) → is_other id (get_or us k d) ≡ b → is_other id (get_or us k d) ≡ false
        case true e =
            let tells = single_tells id u single in
            absurd (no_collision k d h (tells.0 ∙ sym (other_tells id (get_or us k d) e), inl (true_from u.singleton tells.1)))
        case false e = e

    -- no unit is both
    not_both : is_single id u ≡ true → is_other id u ≡ true → ⊥
    not_both single other =
        let lone = (single_tells id u single).1 in
        let same = (bytes_eq-Decides u.name.id id).1 (single_tells id u single).0 in
        let computed : is_other id u ≡ false = rw (same, lone) refl in
        cc

    by : IsAloneAmong us id → (a b : Bool) → is_single id u ≡ a → is_other id u ≡ b → IsAloneAmong (u ∷ us) id
    by rest true true e f = absurd (not_both e f)
    by rest true false e f =
        let singles = count_yes (is_single id) u us e in
        let others = count_no (is_other id) u us f in
        let none = count_none (is_single id) us (no_single (single_tells id u e).0) in
        let no_others = count_none (is_other id) us (no_other e) in
        (omega arith, λ some. omega arith)
    by rest false true e f =
        let singles = count_no (is_single id) u us e in
        let none = count_none (is_single id) us (no_single (other_tells id u f)) in
        (omega arith, λ some. absurd (omega arith))
    by rest false false e f =
        let singles = count_no (is_single id) u us e in
        let others = count_no (is_other id) u us f in
        let most = rest.0 in
        (omega arith, λ some. others ∙ rest.1 (omega arith))

each_id : (members : List Package) → All (λ u. Contains (ids members) u.name.id) members
each_id members k d h =
    Contains-dedup nat_list_eq_equiv (λ x y e. (bytes_eq-Decides x y).0 e) (map (λ (u : Package). u.name.id) members) (get_or members k d).name.id
    (k, rw (length-map members (λ (u : Package). u.name.id)) h, get_or-map (λ (u : Package). u.name.id) members k d (get_or members k d).name.id h)

pub singletons_hold : (full : ℕ → Bool) (members : List Package) → All (Satisfies full) (singleton_rows members) ↔ AllPairs (λ u v. ¬ (Collide u v)) (selected full members)
singletons_hold full members =
    let rows = All-flat_map (Satisfies full) (id_rows members) (IsAloneAmong (selected full members)) (id_holds full members) (ids members) in
    let each = All-selected (λ u. Contains (ids members) u.name.id) full members (each_id members) in (
      λ all. apart_from_alone (selected full members) (λ k d h. All-contains (IsAloneAmong (selected full members)) (ids members) (get_or (selected full members) k d).name.id (rows.0 all) (each k d h)),
      λ apart. rows.1 (λ k d h. alone_from_apart (get_or (ids members) k d) (selected full members) apart),
    )
