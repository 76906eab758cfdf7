-- The part of a valid choice that chains lead to is valid, where they may follow all needs.
use Rattle.std.proofs.Common.{◌≡◌, ◌≢◌, ℕ, zero, suc, ◌<◌, ◌≤◌, ◌⊎◌, inl, inr, Bool, true, false, List, [], ◌∷◌, length, get_or, refl, sym, ap, ◌∙◌, subst, arith}
use Rattle.std.specs.Prelude.{All, AllPairs, Contains, IsTrue}
use Rattle.std.proofs.lemmas.List.{get_or-map, length-map, get_or_default}
use Rattle.std.proofs.lemmas.List.Elements.{All-nil, All-cons, All-head, All-tail, All-contains, All-contains_itself, Contains-get_or}
use Rattle.std.proofs.lemmas.Bool.{cases_eq}
use Rattle.std.proofs.lemmas.List.Kept.{AllPairs-cons}
use Rattle.std.proofs.lemmas.Option.{same_Some}
use Rattle.ldap_filter.specs.EnvPairs.{EnvPair}
use Rattle.unit_model.specs.Applies.{filter_true}
use Rattle.unit_model.specs.Matches.{Matches}
use Rattle.unit_model.specs.Met.{HasCount, HasEnough, IsMet}
use Rattle.unit_model.specs.Slice.{LeadsTo, HasChain, Begins, GoesOn, IsGreedy, IsInSlice}
use Rattle.unit_model.specs.Valid.{names, Collide, IsValid}
use Rattle.unit_model.specs.declared.name.UnitName.{UnitName}
use Rattle.unit_model.specs.declared.required.Required.{Required}
use Rattle.unit_model.specs.declared.unit.Unit.{Unit as Package}
use Rattle.unit_catalog.specs.At.{HasAt}
use Rattle.unit_slicer.specs.WholeCatalog.{IsPart, HasParts, NeedsGreedily, KeepsValid}
use Rattle.unit_slicer.specs.Members.{AreOfSlice}
use Rattle.unit_slicer.proofs.OrderLaws.{contains_later}
use Rattle.unit_slicer.proofs.SliceLaws.{at_contained}

-- ---- parts of lists

module _ {X : Type 0} (P : X → Type 0) where
  pub part_all : (Q : X → Type 0) (xs part : List X) → IsPart P xs part → All Q xs → All Q part
  part_all Q [] part is all = subst (All Q) (sym is) (All-nil Q)
  part_all Q (x ∷ xs) part (inl in') all =
      subst (All Q) (sym in'.2) (All-cons Q x in'.1 (All-head Q x xs all) (part_all Q xs in'.1 in'.3 (All-tail Q x xs all)))
  part_all Q (x ∷ xs) part (inr out) all = part_all Q xs part out.1 (All-tail Q x xs all)

  pub part_in : (xs part : List X) → IsPart P xs part → All P part
  part_in [] part is = subst (All P) (sym is) (All-nil P)
  part_in (x ∷ xs) part (inl in') = subst (All P) (sym in'.2) (All-cons P x in'.1 in'.0 (part_in xs in'.1 in'.3))
  part_in (x ∷ xs) part (inr out) = part_in xs part out.1

  pub part_pairs : (R : X → X → Type 0) (xs part : List X) → IsPart P xs part → AllPairs R xs → AllPairs R part
  part_pairs R [] part is pairs = subst (AllPairs R) (sym is) pairs
  part_pairs R (x ∷ xs) part (inl in') pairs =
      let head : All (R x) xs = λ k d inside. pairs 0 (suc k) d (omega arith) (omega arith) in
      let tail : AllPairs R xs = λ i j d below inside. pairs (suc i) (suc j) d (omega arith) (omega arith) in
      subst (AllPairs R) (sym in'.2) (AllPairs-cons R x in'.1 (part_all (R x) xs in'.1 in'.3 head) (part_pairs R xs in'.1 in'.3 tail))
  part_pairs R (x ∷ xs) part (inr out) pairs =
      let tail : AllPairs R xs = λ i j d below inside. pairs (suc i) (suc j) d (omega arith) (omega arith) in
      part_pairs R xs part out.1 tail

  -- an element with the property is in the part
  pub part_has : (xs part : List X) (k : ℕ) (x : X) → IsPart P xs part → k < length xs → get_or xs k x ≡ x → P x → Contains part x
  part_has [] part k x is inside here has = absurd (omega arith)
  part_has (y ∷ xs) part zero x (inl in') inside here has =
      subst (λ (zs : List X). Contains zs x) (sym in'.2) (0, omega arith, here)
  part_has (y ∷ xs) part zero x (inr out) inside here has = absurd (out.0 (subst P (sym here) has))
  part_has (y ∷ xs) part (suc k) x (inl in') inside here has =
      let rest = part_has xs in'.1 k x in'.3 (omega arith) here has in
      let low = rest.1 in
      subst (λ (zs : List X). Contains zs x) (sym in'.2) (suc rest.0, omega arith, rest.2)
  part_has (y ∷ xs) part (suc k) x (inr out) inside here has = part_has xs part k x out.1 (omega arith) here has

  -- in the part no more are counted
  part_count : (Q : X → Type 0) (xs part : List X) (n : ℕ) → IsPart P xs part → HasCount Q xs n → (m : ℕ) × (m ≤ n) × HasCount Q part m
  part_count Q [] part n is none = (n, omega arith, subst (λ (zs : List X). HasCount Q zs n) (sym is) none)
  part_count Q (x ∷ xs) part n (inl in') (inl one) =
      let rest = part_count Q xs in'.1 one.1 in'.3 one.3 in
      let low = rest.1 in
      let is = one.2 in
      let counted : HasCount Q (x ∷ in'.1) (suc rest.0) = inl (one.0, rest.0, refl, rest.2) in
      (suc rest.0, omega arith, subst (λ (zs : List X). HasCount Q zs (suc rest.0)) (sym in'.2) counted)
  part_count Q (x ∷ xs) part n (inl in') (inr none) =
      let rest = part_count Q xs in'.1 n in'.3 none.1 in
      let counted : HasCount Q (x ∷ in'.1) rest.0 = inr (none.0, rest.2) in
      (rest.0, rest.1, subst (λ (zs : List X). HasCount Q zs rest.0) (sym in'.2) counted)
  part_count Q (x ∷ xs) part n (inr out) (inl one) =
      let rest = part_count Q xs part one.1 out.1 one.3 in
      let low = rest.1 in
      let is = one.2 in
      (rest.0, omega arith, rest.2)
  part_count Q (x ∷ xs) part n (inr out) (inr none) = part_count Q xs part n out.1 none.1

  -- where all that are counted are in the part, as many are
  part_count_all : (Q : X → Type 0) (xs part : List X) (n : ℕ) → IsPart P xs part → All (λ x. Q x → P x) xs → HasCount Q xs n → HasCount Q part n
  part_count_all Q [] part n is all none = subst (λ (zs : List X). HasCount Q zs n) (sym is) none
  part_count_all Q (x ∷ xs) part n (inl in') all (inl one) =
      let rest = part_count_all Q xs in'.1 one.1 in'.3 (All-tail (λ y. Q y → P y) x xs all) one.3 in
      let counted : HasCount Q (x ∷ in'.1) n = inl (one.0, one.1, one.2, rest) in
      subst (λ (zs : List X). HasCount Q zs n) (sym in'.2) counted
  part_count_all Q (x ∷ xs) part n (inl in') all (inr none) =
      let rest = part_count_all Q xs in'.1 n in'.3 (All-tail (λ y. Q y → P y) x xs all) none.1 in
      let counted : HasCount Q (x ∷ in'.1) n = inr (none.0, rest) in
      subst (λ (zs : List X). HasCount Q zs n) (sym in'.2) counted
  part_count_all Q (x ∷ xs) part n (inr out) all (inl one) = absurd (out.0 (All-head (λ y. Q y → P y) x xs all one.0))
  part_count_all Q (x ∷ xs) part n (inr out) all (inr none) = part_count_all Q xs part n out.1 (All-tail (λ y. Q y → P y) x xs all) none.1

-- ---- that there is a part

contains_or_not : (xs : List ℕ) (n : ℕ) → Contains xs n ⊎ (Contains xs n → ⊥)
contains_or_not [] n = inr (λ has. let none = has.1 in absurd (omega arith))
contains_or_not (x ∷ xs) n = elim (cases_eq x n) [
  | inl same ↦ inl (0, omega arith, same)
  | inr other ↦
      elim (contains_or_not xs n) [
        | inl there ↦ inl (let low = there.1 in (suc there.0, omega arith, there.2))
        | inr none ↦ inr (λ has. none (contains_later x n xs has.0 has.1 has.2 other))
      ]
]

part_there : {X : Type 0} (P : X → Type 0) (xs : List X) → All (λ x. P x ⊎ ¬ (P x)) xs → (part : List X) × IsPart P xs part
part_there P [] each = ([], refl)
part_there P (x ∷ xs) each =
    let rest = part_there P xs (All-tail (λ y. P y ⊎ ¬ (P y)) x xs each) in
    elim (All-head (λ y. P y ⊎ ¬ (P y)) x xs each) [ inl in' ↦ (x ∷ rest.0, inl (in', rest.0, refl, rest.1)) | inr out ↦ (rest.0, inr (out, rest.1)) ]

pub parts_there : (units : List Package) (roots : List UnitName) (env : List EnvPair) (numbers : List ℕ) → AreOfSlice units roots env numbers → HasParts units roots env
parts_there units roots env numbers all chosen there = part_there (IsInSlice units roots env) chosen (λ k d inside. decided (get_or chosen k d) (there k d inside))
  where
    decided : (u : Package) → Contains units u → IsInSlice units roots env u ⊎ ¬ (IsInSlice units roots env u)
    decided u inside = elim (contains_or_not numbers inside.0) [
      | inl has ↦
          let at = All-contains (HasAt units (IsInSlice units roots env)) numbers inside.0 all.each has in
          inl (subst (IsInSlice units roots env) (same_Some at.unit u (sym at.here ∙ at_contained units u inside)) at.has)
      | inr none ↦ inr (λ in'. none (all.every inside.0 (record { unit = u; here = at_contained units u inside; has = in' })))
    ]

-- ---- names

named_member : (units : List Package) (name : UnitName) → Contains (names units) name → (k : ℕ) × (u : Package) × (k < length units) × (get_or units k u ≡ u) × (u.name ≡ name)
named_member [] name has = let inside = has.1 in absurd (omega arith)
named_member (u ∷ us) name has =
    let f : Package → UnitName = λ v. v.name in
    let inside : has.0 < length (u ∷ us) = rw (← length-map (u ∷ us) f) has.1 in
    let v : Package = get_or (u ∷ us) has.0 u in
    (has.0, v, inside, get_or_default (u ∷ us) has.0 v u inside, sym (get_or-map f (u ∷ us) has.0 u name inside) ∙ has.2)

member_named : (units : List Package) (u : Package) → Contains units u → Contains (names units) u.name
member_named units u has =
    let f : Package → UnitName = λ v. v.name in
    (has.0, rw (length-map units f) has.1, get_or-map f units has.0 u u.name has.1 ∙ ap f has.2)

-- ---- the law

module _ (Allowed : Required → Type 0) (units : List Package) (roots : List UnitName) (env : List EnvPair)
    (followed : (u : Package) → HasChain units Allowed roots env u → All (λ r. IsTrue (filter_true env r.filter) → Allowed r ⊎ (r.min ≡ 0)) u.required)
    (some : List UnitName) (chosen part : List Package) (among : All (Contains roots) some) (there : All (Contains units) chosen) (valid : IsValid chosen some env) (is : IsPart (HasChain units Allowed roots env) chosen part) where
  abbrev IsIn : Package → Type 0
  IsIn = HasChain units Allowed roots env

  has_roots : All (Contains (names part)) some
  has_roots k d inside =
      let root : UnitName = get_or some k d in
      let member = named_member chosen root (valid.roots k d inside) in
      let u : Package = member.1 in
      let own : Contains chosen u = (member.0, member.2, member.3) in
      let in_units : Contains units u = All-contains (Contains units) chosen u there own in
      let applies : IsTrue (filter_true env u.filter) = All-contains (λ v. IsTrue (filter_true env v.filter)) chosen u valid.apply own in
      let in_slice : IsIn u = Begins u in_units applies (subst (Contains roots) (sym member.4) (among k d inside)) in
      subst (Contains (names part)) member.4 (member_named part u (part_has IsIn chosen part member.0 u is member.2 member.3 in_slice))

  met : (u : Package) → Contains chosen u → IsIn u → (r : Required) → Contains u.required r → IsMet r part env
  met u own in_slice r has = by (All-contains (λ q. IsMet q chosen env) u.required r (All-contains (λ v. All (λ q. IsMet q chosen env) v.required) chosen u valid.met own) has)
    where
      own_requirements : All (λ q. IsMet q chosen env) u.required
      own_requirements = All-contains (λ v. All (λ q. IsMet q chosen env) v.required) chosen u valid.met own

      -- where it is followed, all that match are in the slice
      match_in : Allowed r → IsTrue (filter_true env r.filter) → 0 < r.max → All (λ v. Matches r v → IsIn v) chosen
      match_in allowed on positive k d inside matches =
          let v : Package = get_or chosen k d in
          let leads : LeadsTo Allowed env u v = (has.0, r, has.1, has.2, (allowed, on, positive, matches)) in
          GoesOn u v in_slice (there k d inside) (valid.apply k d inside) leads

      fewer : HasEnough r chosen → r.min ≡ 0 → HasEnough r part
      fewer enough none =
          let rest = part_count IsIn (Matches r) chosen part enough.count is enough.counted in
          let low = rest.1 in
          let most = enough.most in
          record { count = rest.0; counted = rest.2; least = omega arith; most = omega arith }

      asked : HasEnough r chosen → IsTrue (filter_true env r.filter) → Allowed r → (r.max ≡ 0) ⊎ (r.max ≢ 0) → HasEnough r part
      asked enough on allowed (inl zero_most) =
          let least = enough.least in
          let most = enough.most in
          fewer enough (omega arith)
      asked enough on allowed (inr positive) = record {
        count = enough.count;
        counted = part_count_all IsIn (Matches r) chosen part enough.count is (match_in allowed on (omega arith)) enough.counted;
        least = enough.least;
        most = enough.most;
      }

      by_filter : (b : Bool) → filter_true env r.filter ≡ b → HasEnough r chosen → IsMet r part env
      by_filter false off enough = inl off
      by_filter true on enough = inr (elim (All-contains (λ q. IsTrue (filter_true env q.filter) → Allowed q ⊎ (q.min ≡ 0)) u.required r (followed u in_slice) has on) [
        | inl allowed ↦ asked enough on allowed (cases_eq r.max 0)
        | inr none ↦ fewer enough none
      ])

      by : IsMet r chosen env → IsMet r part env
      by (inl off) = inl off
      by (inr enough) = by_filter (filter_true env r.filter) refl enough

  all_met : All (λ u. All (λ r. IsMet r part env) u.required) part
  all_met k d inside j e within =
      let u : Package = get_or part k d in
      met u (All-contains (Contains chosen) part u in_chosen (Contains-get_or part k d inside)) (part_in IsIn chosen part is k d inside) (get_or u.required j e) (Contains-get_or u.required j e within)
    where
      in_chosen : All (Contains chosen) part
      in_chosen = part_all IsIn (Contains chosen) chosen part is (All-contains_itself chosen)

  pub part_valid : IsValid part some env
  part_valid = record {
    distinct = part_pairs IsIn (λ u v. u.name ≢ v.name) chosen part is valid.distinct;
    roots = has_roots;
    apply = part_all IsIn (λ u. IsTrue (filter_true env u.filter)) chosen part is valid.apply;
    met = all_met;
    apart = part_pairs IsIn (λ u v. ¬ (Collide u v)) chosen part is valid.apart;
  }

pub keeps_valid : (units : List Package) (roots : List UnitName) (env : List EnvPair) → NeedsGreedily units roots env → KeepsValid units roots env
keeps_valid units roots env greedily some chosen part among there valid is = part_valid IsGreedy units roots env greedily some chosen part among there valid is
