-- Which variables the members that pass a test have.
use Rattle.std.proofs.Common.{◌≡◌, ℕ, zero, suc, ◌+◌, ◌<◌, ◌≤◌, Bool, true, false, cond, Some, List, [], ◌∷◌, length, get_or, map, All, AllPairs, Contains, refl, sym, ◌∙◌, ap, subst, arith}
use Rattle.std.specs.List.{filter, slice_get}
use Rattle.std.proofs.lemmas.Option.{slice_get-get_or, slice_get_within, get_or_from_slice_get}
use Rattle.std.proofs.lemmas.List.{get_or-map, length-map}
use Rattle.std.proofs.lemmas.List.Elements.{All-map, All-filter, All-contains, filter_passes}
use Rattle.std.proofs.lemmas.List.FromFn.{length-enumerate_from, get_or-enumerate_from}
use Rattle.std.proofs.lemmas.List.Kept.{AllPairs-filter}
use Rattle.unit_model.specs.declared.unit.Unit.{Unit as Package}
use Rattle.pb_rows.specs.Members.{numbered, variables}
use Rattle.pb_rows.proofs.ListLaws.{AllPairs-map}

-- The variable of a member that passes the test.
pub record IsVariableOf (test : Package → Bool) (members : List Package) (v : ℕ) : Type 0 where
  pub place : ℕ
  pub unit : Package
  pub here : slice_get members place ≡ Some unit
  pub passes : test unit ≡ true
  pub is : v ≡ place + 1

record IsLocated (members : List Package) (m : ℕ × Package) : Type 0 where
  place : ℕ
  here : slice_get members place ≡ Some m.1
  is : m.0 ≡ place + 1

located : (members : List Package) → All (IsLocated members) (numbered members)
located members k d h =
    let within : k < length members = rw (length-enumerate_from 1 members) at h in
    rw (get_or-enumerate_from 1 members k d within)
    (record { place = k; here = slice_get-get_or members k d.1 within; is = omega arith })

pub each_variable : (test : Package → Bool) (members : List Package) → All (IsVariableOf test members) (variables test members)
each_variable test members =
    All-map (IsVariableOf test members) (λ (m : ℕ × Package). m.0) (filter (λ m. test m.1) (numbered members))
    (λ k d h.
    let pass = filter_passes (λ (m : ℕ × Package). test m.1) (numbered members) k d h in
    let loc = All-filter (λ (m : ℕ × Package). test m.1) (IsLocated members) (numbered members) (located members) k d h in
    record { place = loc.place; unit = (get_or (filter (λ m. test m.1) (numbered members)) k d).1; here = loc.here; passes = pass; is = loc.is })

Contains-filter : {X : Type 0} (p : X → Bool) (xs : List X) (x : X) → Contains xs x → p x ≡ true → Contains (filter p xs) x
Contains-filter p [] x c e = absurd (omega (arith, c.1))
Contains-filter {X} p (y ∷ ys) x (zero, h, is) e =
    let same : p y ≡ true = ap p is ∙ e in
    let P : List X → Type 0 = λ zs. Contains zs x in
    subst P (ap (λ b. cond b (y ∷ filter p ys) (filter p ys)) (sym same)) (0, omega arith, is)
Contains-filter {X} p (y ∷ ys) x (suc k, h, is) e = by (Contains-filter p ys x (k, omega arith, is) e) (p y) refl
  where
    by : Contains (filter p ys) x → (b : Bool) → p y ≡ b → Contains (cond b (y ∷ filter p ys) (filter p ys)) x
    by rest true f = (suc rest.0, omega (arith, rest.1), rest.2)
    by rest false f = rest

Contains-map : {X Y : Type 0} (f : X → Y) (xs : List X) (x : X) → Contains xs x → Contains (map f xs) (f x)
Contains-map f xs x c = (c.0, rw (length-map xs f) c.1, get_or-map f xs c.0 x (f x) c.1 ∙ ap f c.2)

pub every_variable : (test : Package → Bool) (members : List Package) (v : ℕ) → IsVariableOf test members v → Contains (variables test members) v
every_variable test members v is =
    let within : is.place < length members = slice_get_within members is.place is.unit is.here in
    let unit : get_or members is.place is.unit ≡ is.unit = get_or_from_slice_get members is.place is.unit is.unit is.here in
    let one : 1 + is.place ≡ v = omega (arith, is.is) in
    let pair : get_or (numbered members) is.place (v, is.unit) ≡ (v, is.unit) =
    get_or-enumerate_from 1 members is.place (v, is.unit) within ∙ (λ i. (one i, unit i)) in
    let at_place : Contains (numbered members) (v, is.unit) = (is.place, rw (length-enumerate_from 1 members) within, pair) in
    Contains-map (λ (m : ℕ × Package). m.0) (filter (λ m. test m.1) (numbered members)) (v, is.unit)
    (Contains-filter (λ (m : ℕ × Package). test m.1) (numbered members) (v, is.unit) at_place is.passes)

pub variables_rise : (test : Package → Bool) (members : List Package) → AllPairs (λ v w. v < w) (variables test members)
variables_rise test members =
    AllPairs-map (λ v w. v < w) (λ (m : ℕ × Package). m.0) (filter (λ m. test m.1) (numbered members))
    (AllPairs-filter (λ a b. a.0 < b.0) (λ (m : ℕ × Package). test m.1) (numbered members)
    (λ i j d lt h.
    let second : j < length members = rw (length-enumerate_from 1 members) at h in
    let first : i < length members = omega arith in
    rw (get_or-enumerate_from 1 members i d first, get_or-enumerate_from 1 members j d second) (omega arith)))

-- ---- rising lists of the same numbers are one list

rest_of : (x : ℕ) (xs : List ℕ) → AllPairs (λ v w. v < w) (x ∷ xs) → AllPairs (λ v w. v < w) xs
rest_of x xs rise i j d lt h = rise (suc i) (suc j) d (omega arith) (omega arith)

below_rest : (x : ℕ) (xs : List ℕ) (v : ℕ) → AllPairs (λ v w. v < w) (x ∷ xs) → Contains xs v → x < v
below_rest x xs v rise c =
    let lt : x < get_or xs c.0 v = rise 0 (suc c.0) v (omega arith) (omega (arith, c.1)) in
    omega (arith, c.2)

in_cons : {X : Type 0} (x v : X) (xs : List X) → Contains xs v → Contains (x ∷ xs) v
in_cons x v xs c = (suc c.0, omega (arith, c.1), c.2)

head_le : (x y : ℕ) (ys : List ℕ) → AllPairs (λ v w. v < w) (y ∷ ys) → Contains (y ∷ ys) x → y ≤ x
head_le x y ys rise (zero, h, is) = omega (arith, is)
head_le x y ys rise (suc k, h, is) = let lt = below_rest y ys x rise (k, omega arith, is) in omega arith

tail_has : (y v : ℕ) (ys : List ℕ) → y < v → Contains (y ∷ ys) v → Contains ys v
tail_has y v ys lt (zero, h, is) = absurd (omega (arith, is))
tail_has y v ys lt (suc k, h, is) = (k, omega arith, is)

pub same_rising : (xs ys : List ℕ) → AllPairs (λ v w. v < w) xs → AllPairs (λ v w. v < w) ys → ((v : ℕ) → Contains xs v → Contains ys v) → ((v : ℕ) → Contains ys v → Contains xs v) → xs ≡ ys
same_rising [] [] rise_x rise_y there back = refl
same_rising [] (y ∷ ys) rise_x rise_y there back = absurd (omega (arith, (back y (0, omega arith, refl)).1))
same_rising (x ∷ xs) [] rise_x rise_y there back = absurd (omega (arith, (there x (0, omega arith, refl)).1))
same_rising (x ∷ xs) (y ∷ ys) rise_x rise_y there back =
    let one : y ≤ x = head_le x y ys rise_y (there x (0, omega arith, refl)) in
    let other : x ≤ y = head_le y x xs rise_x (back y (0, omega arith, refl)) in
    let same : x ≡ y = omega arith in
    let rest : xs ≡ ys =
    same_rising xs ys (rest_of x xs rise_x) (rest_of y ys rise_y)
    (λ v c. let lt = below_rest x xs v rise_x c in tail_has y v ys (omega arith) (there v (in_cons x v xs c)))
    (λ v c. let lt = below_rest y ys v rise_y c in tail_has x v xs (omega arith) (back v (in_cons y v ys c))) in
    λ i. same i ∷ rest i

-- A rising list of exactly the variables of the members that pass the test is that of them all.
pub are_variables : (test : Package → Bool) (members : List Package) (vs : List ℕ) → AllPairs (λ v w. v < w) vs → All (IsVariableOf test members) vs → ((v : ℕ) → IsVariableOf test members v → Contains vs v) → vs ≡ variables test members
are_variables test members vs rise each every =
    same_rising vs (variables test members) rise (variables_rise test members)
    (λ v c. every_variable test members v (All-contains (IsVariableOf test members) vs v each c))
    (λ v c. every v (All-contains (IsVariableOf test members) (variables test members) v (each_variable test members) c))
