-- The test of ids and the form of ids.
use Rattle.std.proofs.Common.{◌≡◌, ◌≢◌, ◌↔◌, ℕ, ◌≤◌, ◌&&◌, nat_le, Bool, true, false, not, IsTrue, List, [], ◌∷◌, length, codes, refl, sym, ap, ◌∙◌, arith}
use Rattle.std.specs.Str.{bytes_eq}
use Rattle.std.proofs.lemmas.Bool.{false≢true}
use Rattle.std.proofs.lemmas.Bool.Decides.{nat_tests}
use Rattle.std.proofs.lemmas.List.Sums.{AllPass-from_list_all, list_all-from_AllPass}
use Rattle.std.proofs.lemmas.Slice.Eq.{bytes_eq-Decides}
use Rattle.unit_model.specs.UnitId.{IsUnitId, is_id_byte}
use Rattle.inf_values.specs.Host.{is_empty, is_id}

and_left : (x y : Bool) → (x && y) ≡ true → x ≡ true
and_left true y h = refl
and_left false y h = h

and_right : (x y : Bool) → (x && y) ≡ true → y ≡ true
and_right true y h = h
and_right false y h = absurd (false≢true h)

decided : (b : Bool) → (b ≡ true → ⊥) → b ≡ false
decided true h = absurd (h refl)
decided false h = refl

differs : (a b : List ℕ) → not (bytes_eq a b) ≡ true → a ≢ b
differs a b h e = false≢true (sym (ap not ((bytes_eq-Decides a b).1 e)) ∙ h)

same_not : (a b : List ℕ) → a ≢ b → bytes_eq a b ≡ false
same_not a b h = decided (bytes_eq a b) (λ e. h ((bytes_eq-Decides a b).0 e))

some_true : (id : List ℕ) → id ≢ [] → is_empty id ≡ false
some_true [] h = absurd (h refl)
some_true (b ∷ id) h = refl

at_most : (m n : ℕ) → nat_le m n ≡ true → m ≤ n
at_most m n h = grind (arith, nat_tests)

at_most_true : (m n : ℕ) → m ≤ n → nat_le m n ≡ true
at_most_true m n h = grind (arith, nat_tests)

pub is_id-sound : (id : List ℕ) → is_id id ≡ true → IsUnitId id
unfolding is_id
is_id-sound id h =
    let front = and_left _ _ h in
    let third = and_left _ _ front in
    let second = and_left _ _ third in
    record {
      some = λ e. false≢true (sym (ap (λ x. not (is_empty x)) e) ∙ and_left _ _ second);
      short = at_most (length id) 140 (and_right _ _ second);
      each = AllPass-from_list_all is_id_byte id (and_right _ _ third);
      not_dot = differs id (codes ".") (and_right _ _ front);
      not_dots = differs id (codes "..") (and_right _ _ h);
    }

is_id-complete : (id : List ℕ) → IsUnitId id → is_id id ≡ true
unfolding is_id
is_id-complete id form =
    let some = some_true id form.some in
    let short = at_most_true (length id) 140 form.short in
    let each = list_all-from_AllPass is_id_byte id form.each in
    let dot = same_not id (codes ".") form.not_dot in
    let dots = same_not id (codes "..") form.not_dots in
    rw (some, short, each, dot, dots) refl

pub is_id-same : (b : Bool) (id : List ℕ) → (IsTrue b ↔ IsUnitId id) → b ≡ is_id id
is_id-same true id h = sym (is_id-complete id (h.0 refl))
is_id-same false id h = sym (decided (is_id id) (λ e. false≢true (h.1 (is_id-sound id e))))
