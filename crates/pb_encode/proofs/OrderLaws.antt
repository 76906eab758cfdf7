-- Numbers that are each behind the one before.
use Rattle.std.proofs.Common.{◌≡◌, ℕ, zero, suc, ◌+◌, ◌-◌, ◌<◌, ◌≤◌, List, length, get_or, subst, arith}
use Rattle.std.specs.List.{slice_index}
use Rattle.std.proofs.lemmas.List.{get_or_default}
use Rattle.unit_model.specs.declared.unit.Unit.{Unit as Package}
use Rattle.unit_catalog.specs.Order.{IsBefore, AreMembers}
use Rattle.pb_encode.specs.InPlace.{IsInPlace}
use Rattle.pb_encode.proofs.MemberLaws.{unit_there, names_total}

chain : (units : List Package) (numbers : List ℕ) → ((k : ℕ) → k < length numbers → IsInPlace units numbers k) → (i n j : ℕ) → j ≡ i + 1 + n → j < length numbers → IsBefore units (slice_index numbers i) (slice_index numbers j)
chain units numbers each i zero j e h = (each j h).1 i (omega arith)
chain units numbers each i (suc n) zero e h = absurd (omega arith)
chain units numbers each i (suc n) (suc j) e h = λ u v first last.
    let mid = unit_there units (slice_index numbers j) (each j (omega arith)).0 in
    names_total.trans u.name mid.0.name v.name (chain units numbers each i n j (omega arith) (omega arith) u mid.0 first mid.1)
    ((each (suc j) h).1 j (omega arith) mid.0 v mid.1 last)

pub members_are : (units : List Package) (numbers : List ℕ) → length numbers ≤ 8192 → ((k : ℕ) → k < length numbers → IsInPlace units numbers k) → AreMembers units numbers
members_are units numbers few each = record {
  few = few;
  there = λ k d h. let same = get_or_default numbers k d 0 h in let within = (each k h).0 in omega (arith, same, within);
  rising = λ i j d lt h.
      let P : ℕ → Type 0 = λ m. IsBefore units m (get_or numbers j d) in
      let Q : ℕ → Type 0 = λ n. IsBefore units (slice_index numbers i) n in
      subst P (get_or_default numbers i 0 d (omega arith)) (subst Q (get_or_default numbers j 0 d h) (chain units numbers each i (j - i - 1) j (omega arith) h));
}
