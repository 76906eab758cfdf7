-- Units of one id that stand together.
use Rattle.std.proofs.Common.{◌≡◌, ◌≢◌, ℕ, ◌+◌, ◌<◌, ◌≤◌, ◌⊎◌, inl, inr, List, length, get_or, refl, sym, ◌∙◌, subst, arith}
use Rattle.std.specs.Prelude.{Some, IsTrue, slice_get}
use Rattle.std.proofs.lemmas.Bool.{cases_lt, cases_order}
use Rattle.std.proofs.lemmas.Option.{slice_get-get_or, same_Some}
use Rattle.unit_catalog.specs.Order.{AreInOrder}
use Rattle.unit_model.specs.Valid.{Collide}
use Rattle.unit_model.specs.declared.unit.Unit.{Unit as Package}
use Rattle.unit_judge.specs.Judged.{StandApart, AreColliding}
use Rattle.unit_judge.proofs.InOrder.{same_between}

-- Before this place no two units collide, and the units from `first` on are those that have the id of the last.
pub record AreGrouped (units : List Package) (first place : ℕ) : Type 0 where
  pub bound : first ≤ place
  pub same : (k : ℕ) (u v : Package) → first ≤ k → k < place → slice_get units k ≡ Some u → slice_get units first ≡ Some v → u.name.id ≡ v.name.id
  pub other : (k : ℕ) (u v : Package) → k < first → slice_get units k ≡ Some u → slice_get units first ≡ Some v → u.name.id ≢ v.name.id
  pub apart : (i j : ℕ) (u v : Package) → i < j → j < place → slice_get units i ≡ Some u → slice_get units j ≡ Some v → ¬ (Collide u v)

pub grouped_none : (units : List Package) → AreGrouped units 0 0
grouped_none units = record {
  bound = omega arith;
  same = λ k u v from below here there. absurd (omega arith);
  other = λ k u v below here there. absurd (omega arith);
  apart = λ i j u v below inside here there. absurd (omega arith);
}

-- a unit of another id
pub grouped_new : (units : List Package) (first place : ℕ) (u v : Package) → AreInOrder units → AreGrouped units first place → slice_get units first ≡ Some u → slice_get units place ≡ Some v → u.name.id ≢ v.name.id
    → AreGrouped units place (place + 1)
grouped_new units first place u v order grouped first_is place_is differs = record {
  bound = omega arith;
  same = λ k x y from below here there.
      let at : k ≡ place = omega arith in
      let one : x ≡ y = same_Some x y (sym (subst (λ n. slice_get units n ≡ Some x) at here) ∙ there) in
      ap_id x y one;
  other = λ k x y below here there. λ e.
      let one : y ≡ v = same_Some y v (sym there ∙ place_is) in
      foreign k x below here (subst (λ (w : Package). x.name.id ≡ w.name.id) one e);
  apart = λ i j x y below inside here there. λ collide. by_end i j x y below inside here there collide (cases_lt j place);
}
  where
    ap_id : (x y : Package) → x ≡ y → x.name.id ≡ y.name.id
    ap_id x y e = subst (λ (w : Package). x.name.id ≡ w.name.id) e refl

    foreign : (k : ℕ) (x : Package) → k < place → slice_get units k ≡ Some x → x.name.id ≢ v.name.id
    foreign k x below here = by_size (cases_lt k first)
      where
        by_size : (k < first) ⊎ (first ≤ k) → x.name.id ≢ v.name.id
        by_size (inr high) = λ e. differs (sym (grouped.same k x u high below here first_is) ∙ e)
        by_size (inl low) = by_rest (cases_lt first place)
          where
            by_rest : (first < place) ⊎ (place ≤ first) → x.name.id ≢ v.name.id
            by_rest (inl before) = λ e. grouped.other k x u low here first_is (same_between units order k first place x u v low before here first_is place_is e)
            by_rest (inr after) = λ e.
                let bound = grouped.bound in
                let at : first ≡ place = omega arith in
                let one : u ≡ v = same_Some u v (sym (subst (λ n. slice_get units n ≡ Some u) at first_is) ∙ place_is) in
                differs (ap_id u v one)

    by_end : (i j : ℕ) (x y : Package) → i < j → j < place + 1 → slice_get units i ≡ Some x → slice_get units j ≡ Some y → Collide x y → (j < place) ⊎ (place ≤ j) → ⊥
    by_end i j x y below inside here there collide (inl early) = grouped.apart i j x y below early here there collide
    by_end i j x y below inside here there collide (inr late) =
        let at : j ≡ place = omega arith in
        let one : y ≡ v = same_Some y v (sym (subst (λ n. slice_get units n ≡ Some y) at there) ∙ place_is) in
        foreign i x (omega arith) here (subst (λ (w : Package). x.name.id ≡ w.name.id) one collide.0)

-- one more unit of the id, which doesn't collide with the first of them
pub grouped_more : (units : List Package) (first place : ℕ) (u v : Package) → AreInOrder units → AreGrouped units first place → slice_get units first ≡ Some u → slice_get units place ≡ Some v → u.name.id ≡ v.name.id
    → (first < place → Collide u v → ⊥) → AreGrouped units first (place + 1)
grouped_more units first place u v order grouped first_is place_is same fine = record {
  bound = let bound = grouped.bound in omega arith;
  same = λ k x y from below here there. by_end k x y from below here there (cases_lt k place);
  other = grouped.other;
  apart = λ i j x y below inside here there. λ collide. by_last i j x y below inside here there collide (cases_lt j place);
}
  where
    by_end : (k : ℕ) (x y : Package) → first ≤ k → k < place + 1 → slice_get units k ≡ Some x → slice_get units first ≡ Some y → (k < place) ⊎ (place ≤ k) → x.name.id ≡ y.name.id
    by_end k x y from below here there (inl early) = grouped.same k x y from early here there
    by_end k x y from below here there (inr late) =
        let at : k ≡ place = omega arith in
        let last : x ≡ v = same_Some x v (sym (subst (λ n. slice_get units n ≡ Some x) at here) ∙ place_is) in
        let begin : u ≡ y = same_Some u y (sym first_is ∙ there) in
        subst (λ (w : Package). x.name.id ≡ w.name.id) begin (subst (λ (w : Package). w.name.id ≡ u.name.id) (sym last) (sym same))

    -- neither is a singleton, or one is beside the first
    by_kind : (x : Package) → x.name.id ≡ u.name.id → (Collide u x → ⊥) → first < place → IsTrue x.singleton ⊎ IsTrue v.singleton → ⊥
    by_kind x equal free later (inl single) = free (sym equal, inr single)
    by_kind x equal free later (inr single) = fine later (same, inr single)

    by_last : (i j : ℕ) (x y : Package) → i < j → j < place + 1 → slice_get units i ≡ Some x → slice_get units j ≡ Some y → Collide x y → (j < place) ⊎ (place ≤ j) → ⊥
    by_last i j x y below inside here there collide (inl early) = grouped.apart i j x y below early here there collide
    by_last i j x y below inside here there collide (inr late) =
        let at : j ≡ place = omega arith in
        let one : y ≡ v = same_Some y v (sym (subst (λ n. slice_get units n ≡ Some y) at there) ∙ place_is) in
        let both : Collide x v = subst (λ (w : Package). Collide x w) one collide in
        let equal : x.name.id ≡ u.name.id = both.0 ∙ sym same in
        by_first (cases_order i first) both equal
      where
        by_first : (i ≡ first) ⊎ ((i < first) ⊎ (first < i)) → Collide x v → x.name.id ≡ u.name.id → ⊥
        by_first (inl at) both equal =
            let begin : x ≡ u = same_Some x u (sym (subst (λ n. slice_get units n ≡ Some x) at here) ∙ first_is) in
            fine (omega arith) (subst (λ (w : Package). Collide w v) begin both)
        by_first (inr (inl low)) both equal = grouped.other i x u low here first_is equal
        by_first (inr (inr high)) both equal = by_kind x equal (grouped.apart first i u x high (omega arith) first_is here) (omega arith) both.1

pub grouped_all : (units : List Package) (first place : ℕ) → AreGrouped units first place → length units ≤ place → StandApart units
grouped_all units first place grouped whole = λ i j d below inside.
    grouped.apart i j (get_or units i d) (get_or units j d) below (omega arith) (slice_get-get_or units i d (omega arith)) (slice_get-get_or units j d inside)

-- the first two that collide
pub grouped_found : (units : List Package) (first place : ℕ) (u v : Package) → AreInOrder units → AreGrouped units first place → slice_get units first ≡ Some u → slice_get units place ≡ Some v → first < place
    → Collide u v → AreColliding units u v
grouped_found units first place u v order grouped first_is place_is later collide = record {
  first = first;
  second = place;
  order = later;
  first_is = first_is;
  second_is = place_is;
  collide = collide;
  before = λ i j w x below ahead here there. λ both. by_end i j w x below ahead here there both (cases_lt j place);
  between = λ j x after below there. grouped.apart first j u x after below first_is there;
}
  where
    by_end : (i j : ℕ) (w x : Package) → i < first → i < j → slice_get units i ≡ Some w → slice_get units j ≡ Some x → Collide w x → (j < place) ⊎ (place ≤ j) → ⊥
    by_end i j w x below ahead here there both (inl early) = grouped.apart i j w x ahead early here there both
    by_end i j w x below ahead here there both (inr late) =
        grouped.other i w u below here first_is (same_between units order i first j w u x below (omega arith) here first_is there both.0)
