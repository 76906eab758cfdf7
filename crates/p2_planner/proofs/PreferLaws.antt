-- The variables of installed units.
use Rattle.std.proofs.Common.{◌≡◌, ◌≢◌, ℕ, ◌+◌, ◌<◌, ◌≤◌, true, Some, List, [], ◌∷◌, ◌++◌, length, get_or, refl, sym, subst, arith}
use Rattle.std.specs.Prelude.{◌==◌, ◌↔◌, All, AllPairs, Contains, slice_get}
use Rattle.std.proofs.lemmas.Bool.Decides.{nat_tests}
use Rattle.std.proofs.lemmas.List.Elements.{All-nil, All-push, All-weaker, All-contains, Contains-append_left, Contains-push}
use Rattle.std.proofs.lemmas.List.Folds.{Any-from_list_any, list_any-from_Any}
use Rattle.std.proofs.lemmas.Option.{slice_get-get_or, slice_get_within, get_or_from_slice_get}
use Rattle.pb_encode.specs.Places.{IsVariableOfNumber, IsVariableAmong}
use Rattle.pb_encode.proofs.MemberLaws.{same_place}
use Rattle.pb_solver.specs.Wanted.{is_wanted}
use Rattle.unit_slicer.specs.WholeCatalog.{IsPart}
use Rattle.p2_planner.specs.Preferring.{ArePreferred}
use Rattle.p2_planner.specs.Selecting.{picked}
use Rattle.p2_planner.proofs.PickLaws.{pick_part}

pub preferred_none : (slice : List ℕ) → ArePreferred slice [] []
preferred_none slice = record { each = All-nil (IsVariableAmong slice []); every = All-nil (λ n. (v : ℕ) → IsVariableOfNumber slice n v → Contains [] v) }

-- a number has one variable among numbers that differ; here the variable that was found is the number's
among_more : (slice given : List ℕ) (n v : ℕ) → IsVariableAmong slice given v → IsVariableAmong slice (given ++ n ∷ []) v
among_more slice given n v is = record { number = is.number; stands = Contains-append_left given (n ∷ []) is.number is.stands; variable = is.variable }

pub preferred_more : (slice given found : List ℕ) (n v : ℕ) → AllPairs (λ m k. m ≢ k) slice → IsVariableOfNumber slice n v → ArePreferred slice given found → ArePreferred slice (given ++ n ∷ []) (found ++ v ∷ [])
preferred_more slice given found n v apart is old = record {
  each = All-push (IsVariableAmong slice (given ++ n ∷ [])) found v
      (All-weaker (IsVariableAmong slice given) (IsVariableAmong slice (given ++ n ∷ [])) (λ w among. among_more slice given n w among) found old.each)
      (record { number = n; stands = Contains-push given n; variable = is });
  every = All-push (λ m. (w : ℕ) → IsVariableOfNumber slice m w → Contains (found ++ v ∷ []) w) given n
      (λ k d h. λ w var. Contains-append_left found (v ∷ []) w (old.every k d h w var))
      (λ w var. subst (Contains (found ++ v ∷ [])) (same_variable w var) (Contains-push found v));
}
  where
    same_variable : (w : ℕ) → IsVariableOfNumber slice n w → v ≡ w
    same_variable w var =
        let places : is.place ≡ var.place = same_place slice is.place var.place n apart is.here var.here in
        omega (arith, is.is, var.is)

pub preferred_same : (slice given found : List ℕ) (n : ℕ) → ((k : ℕ) → slice_get slice k ≢ Some n) → ArePreferred slice given found → ArePreferred slice (given ++ n ∷ []) found
preferred_same slice given found n none old = record {
  each = All-weaker (IsVariableAmong slice given) (IsVariableAmong slice (given ++ n ∷ [])) (λ w among. among_more slice given n w among) found old.each;
  every = All-push (λ m. (w : ℕ) → IsVariableOfNumber slice m w → Contains found w) given n old.every (λ w var. absurd (none var.place var.here));
}

-- ---- which assignment is tried first

is_same : (w v : ℕ) → (w == v) ≡ true → w ≡ v
is_same w v e = grind (arith, nat_tests)

same_is : (w v : ℕ) → w ≡ v → (w == v) ≡ true
same_is w v e = grind (arith, nat_tests)

wanted_contains : (order : List ℕ) (v : ℕ) → is_wanted order v ≡ true → Contains order v
wanted_contains order v e =
    let any = Any-from_list_any (λ w. w == v) order e in
    let same : any.1 ≡ v = is_same any.1 v any.4 in
    (any.0, any.2, subst (λ w. get_or order any.0 w ≡ w) same any.3)

contains_wanted : (order : List ℕ) (v : ℕ) → Contains order v → is_wanted order v ≡ true
contains_wanted order v has = list_any-from_Any (λ w. w == v) order (has.0, v, has.1, has.2, same_is v v refl)

-- The installed units of the slice are what is picked by the wish.
pub held_picked : (slice installed order held : List ℕ) → ArePreferred slice installed order → IsPart (Contains installed) slice held → held ≡ picked (is_wanted order) slice
held_picked slice installed order held are is = pick_part (Contains installed) 1 (is_wanted order) slice held is test
  where
    test : (j d : ℕ) → j < length slice → (is_wanted order (1 + j) ≡ true) ↔ Contains installed (get_or slice j d)
    test j d inside = (
      λ yes.
          let among = All-contains (IsVariableAmong slice installed) order (1 + j) are.each (wanted_contains order (1 + j) yes) in
          let place : among.variable.place ≡ j = omega (arith, among.variable.is) in
          let here : slice_get slice j ≡ Some among.number = subst (λ k. slice_get slice k ≡ Some among.number) place among.variable.here in
          subst (Contains installed) (sym (get_or_from_slice_get slice j among.number d here)) among.stands,
      λ has.
          let variable : IsVariableOfNumber slice (get_or slice j d) (1 + j) = record { place = j; is = omega arith; here = slice_get-get_or slice j d inside } in
          contains_wanted order (1 + j) (All-contains (λ n. (v : ℕ) → IsVariableOfNumber slice n v → Contains order v) installed (get_or slice j d) are.every has (1 + j) variable),
    )

-- each is one of the slice's variables
pub preferred_within : (slice installed order : List ℕ) → ArePreferred slice installed order → All (λ v. (0 < v) × (v ≤ length slice)) order
preferred_within slice installed order are =
    All-weaker (IsVariableAmong slice installed) (λ v. (0 < v) × (v ≤ length slice))
    (λ v among. let low = slice_get_within slice among.variable.place among.number among.variable.here in let at = among.variable.is in (omega arith, omega arith)) order are.each
