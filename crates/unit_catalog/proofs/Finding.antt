-- From the units that an index leads to, to all units.
use Rattle.std.proofs.Common.{◌≡◌, ℕ, ◌<◌, List, [], ◌∷◌, ◌++◌, length, get_or, take, sym, ◌∙◌, subst, arith}
use Rattle.std.specs.Prelude.{Option, Some, None, All, Contains, slice_get}
use Rattle.std.proofs.lemmas.List.{get_or-take, length-take-le, get_or_default}
use Rattle.std.proofs.lemmas.List.Elements.{All-push, All-contains, Contains-append_left, Contains-push}
use Rattle.std.proofs.lemmas.List.Quantifiers.{all_pairs_push}
use Rattle.std.proofs.lemmas.Option.{slice_get-get_or, same_Some}
use Rattle.unit_model.specs.Matches.{Matches}
use Rattle.unit_model.specs.declared.name.UnitName.{UnitName}
use Rattle.unit_model.specs.declared.required.Required.{Required}
use Rattle.unit_model.specs.declared.unit.Unit.{Unit as Package}
use Rattle.unit_catalog.specs.At.{HasAt}
use Rattle.unit_catalog.specs.Greatest.{IsUpTo, IsGreatest}
use Rattle.unit_catalog.specs.Listed.{IsRising}
use Rattle.unit_catalog.specs.Looking.{IsFoundAmong, IsAbove, IsNoHigher, IsGreatestOf, IsGreatestAmong, AreMatching}
use Rattle.unit_catalog.specs.Named.{IsNumberOf}
use Rattle.unit_catalog.specs.Providers.{AreProviders}
use Rattle.unit_catalog.proofs.Versions.{up_to_itself, up_to_both, up_to_greater}

-- The numbers of all units with the property are among these.
abbrev pub HasAll : List Package → (Package → Type 0) → List ℕ → Type 0
HasAll units P numbers = (n : ℕ) (u : Package) → slice_get units n ≡ Some u → P u → Contains numbers n

pub none_has : (units : List Package) (P : Package → Type 0) (numbers : List ℕ) → HasAll units P numbers → All (λ n. ¬ (HasAt units P n)) numbers → All (λ u. ¬ (P u)) units
none_has units P numbers every none k d inside = λ has.
    let here = slice_get-get_or units k d inside in
    All-contains (λ n. ¬ (HasAt units P n)) numbers k none (every k (get_or units k d) here has) (record { unit = get_or units k d; here = here; has = has })

pub named_of_all : (units : List Package) (name : UnitName) (numbers : List ℕ) (answer : Option ℕ) → HasAll units (λ u. u.name ≡ name) numbers → IsFoundAmong units (λ u. u.name ≡ name) numbers answer → IsNumberOf units name answer
named_of_all units name numbers None every none = none_has units (λ u. u.name ≡ name) numbers every none
named_of_all units name numbers (Some n) every has = has

pub greatest_of_all : (units : List Package) (P : Package → Type 0) (numbers : List ℕ) (answer : Option ℕ) → HasAll units P numbers → IsGreatestAmong units P numbers answer → IsGreatest units P answer
greatest_of_all units P numbers None every best = none_has units P numbers every best
greatest_of_all units P numbers (Some n) every best = record {
  unit = best.unit;
  here = best.here;
  wanted = best.wanted;
  most = λ k d inside. λ wanted.
      let here = slice_get-get_or units k d inside in
      All-contains (λ m. (v : Package) → slice_get units m ≡ Some v → P v → IsUpTo v.name best.unit.name) numbers k best.most (every k (get_or units k d) here wanted) (get_or units k d) here wanted;
}

pub all_providers : (units : List Package) (r : Required) (numbers found : List ℕ) → HasAll units (Matches r) numbers → AreMatching units r numbers found → AreProviders units r found
all_providers units r numbers found every some = record {
  rising = some.rising;
  each = some.each;
  every = λ n has. All-contains (λ m. HasAt units (Matches r) m → Contains found m) numbers n some.every (every n has.unit has.here has.has) has;
}

-- One number more among those that are looked at.

pub unwanted_more : (units : List Package) (P : Package → Type 0) (numbers : List ℕ) (n : ℕ) (best : Option ℕ) → (HasAt units P n → ⊥) → IsGreatestAmong units P numbers best → IsGreatestAmong units P (numbers ++ n ∷ []) best
unwanted_more units P numbers n None fails none = All-push (λ m. ¬ (HasAt units P m)) numbers n none fails
unwanted_more units P numbers n (Some b) fails best = record {
  unit = best.unit;
  here = best.here;
  wanted = best.wanted;
  most = All-push (λ m. (v : Package) → slice_get units m ≡ Some v → P v → IsUpTo v.name best.unit.name) numbers n best.most (λ v here has. absurd (fails (record { unit = v; here = here; has = has })));
}

pub lower_more : (units : List Package) (P : Package → Type 0) (numbers : List ℕ) (n : ℕ) (best : Option ℕ) → IsNoHigher units n best → IsGreatestAmong units P numbers best → IsGreatestAmong units P (numbers ++ n ∷ []) best
lower_more units P numbers n None low none = absurd low
lower_more units P numbers n (Some b) low best = record {
  unit = best.unit;
  here = best.here;
  wanted = best.wanted;
  most = All-push (λ m. (v : Package) → slice_get units m ≡ Some v → P v → IsUpTo v.name best.unit.name) numbers n best.most (λ v here has. low v best.unit here best.here);
}

pub higher_more : (units : List Package) (P : Package → Type 0) (numbers : List ℕ) (n : ℕ) (best : Option ℕ) → HasAt units P n → IsAbove units n best → IsGreatestAmong units P numbers best → IsGreatestOf units P (numbers ++ n ∷ []) n
higher_more units P numbers n best has above earlier = record {
  unit = has.unit;
  here = has.here;
  wanted = has.has;
  most = All-push (λ m. (v : Package) → slice_get units m ≡ Some v → P v → IsUpTo v.name has.unit.name) numbers n (before best above earlier)
      (λ v here wanted. subst (λ (u : Package). IsUpTo u.name has.unit.name) (same_Some has.unit v (sym has.here ∙ here)) (up_to_itself has.unit.name));
}
  where
    before : (b : Option ℕ) → IsAbove units n b → IsGreatestAmong units P numbers b → All (λ m. (v : Package) → slice_get units m ≡ Some v → P v → IsUpTo v.name has.unit.name) numbers
    before None over none = λ k d inside. λ v here wanted. absurd (none k d inside (record { unit = v; here = here; has = wanted }))
    before (Some b) over best = λ k d inside. λ v here wanted.
        up_to_both v.name best.unit.name has.unit.name (best.most k d inside v here wanted) (up_to_greater has.unit.name best.unit.name (over has.unit best.unit has.here best.here))

pub matching_none : (units : List Package) (r : Required) → AreMatching units r [] []
matching_none units r = record {
  rising = λ i j d before inside. absurd (omega arith);
  among = λ k d inside. absurd (omega arith);
  each = λ k d inside. absurd (omega arith);
  every = λ k d inside. absurd (omega arith);
}

pub matching_skip : (units : List Package) (r : Required) (numbers found : List ℕ) (n : ℕ) → (HasAt units (Matches r) n → ⊥) → AreMatching units r numbers found → AreMatching units r (numbers ++ n ∷ []) found
matching_skip units r numbers found n fails some = record {
  rising = some.rising;
  among = λ k d inside. Contains-append_left numbers (n ∷ []) (get_or found k d) (some.among k d inside);
  each = some.each;
  every = All-push (λ m. HasAt units (Matches r) m → Contains found m) numbers n some.every (λ has. absurd (fails has));
}

pub matching_more : (units : List Package) (r : Required) (numbers found : List ℕ) (n : ℕ) → HasAt units (Matches r) n → All (λ m. m < n) numbers → AreMatching units r numbers found → AreMatching units r (numbers ++ n ∷ []) (found ++ n ∷ [])
matching_more units r numbers found n has below some = record {
  rising = all_pairs_push (λ a b. a < b) found n some.rising (λ k d inside. All-contains (λ m. m < n) numbers (get_or found k d) below (some.among k d inside));
  among = All-push (Contains (numbers ++ n ∷ [])) found n (λ k d inside. Contains-append_left numbers (n ∷ []) (get_or found k d) (some.among k d inside)) (Contains-push numbers n);
  each = All-push (HasAt units (Matches r)) found n some.each has;
  every = All-push (λ m. HasAt units (Matches r) m → Contains (found ++ n ∷ []) m) numbers n (λ k d inside. λ had. Contains-append_left found (n ∷ []) (get_or numbers k d) (some.every k d inside had)) (λ had. Contains-push found n);
}

-- The numbers before a place of rising ones lie below the one there.
pub below_place : (numbers : List ℕ) (i : ℕ) → IsRising numbers → i < length numbers → All (λ m. m < get_or numbers i 0) (take i numbers)
below_place numbers i rising inside k d low =
    let long : length (take i numbers) ≡ i = length-take-le i numbers (omega arith) in
    let early : k < i = omega arith in
    let below : get_or numbers k d < get_or numbers i d = rising k i d early inside in
    let same : get_or numbers i d ≡ get_or numbers i 0 = get_or_default numbers i d 0 inside in
    rw (get_or-take i numbers k d early) (omega arith)
