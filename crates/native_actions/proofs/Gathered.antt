-- What a shape has at or below a place is what the map has there.
use Rattle.std.proofs.Common.{◌≡◌, ℕ, zero, suc, ◌+◌, Bool, true, false, cond, List, [], ◌∷◌, ◌++◌, length, get_or, drop, inl, inr, refl, sym, ◌∙◌, ap, subst, arith}
use Rattle.std.specs.Prelude.{◌&&◌, is_some, IsSome}
use Rattle.std.specs.List.{All, AllPairs, Contains, filter}
use Rattle.std.proofs.lemmas.Bool.{cases_Bool}
use Rattle.std.proofs.lemmas.List.{get_or_default}
use Rattle.std.proofs.lemmas.List.Elements.{All-filter, All-contains, filter_passes}
use Rattle.std.proofs.lemmas.List.Kept.{AllPairs-filter}
use Rattle.std.proofs.lemmas.Slice.Eq.{starts_is, bytes_eq-Decides}
use Rattle.folder_core.specs.Folder.{Map}
use Rattle.folder_core.specs.Path.{path_eqb}
use Rattle.folder_core.specs.PathOrder.{IsPathBefore}
use Rattle.folder_core.specs.declared.node.Touch.{Touch}
use Rattle.folder_core.proofs.Maps.{path_eqb-Decides}
use Rattle.install_journal.proofs.Orders.{not_before_itself}
use Rattle.action_core.specs.Standing.{AreRising, IsAtOrBelow, IsUnder, SameNear, is_at_or_below, stands_in, stands_under, under_in}
use Rattle.action_core.proofs.Lookups.{rises_far, stands_first}

pub rest_behind : (place path : List (List ℕ)) → is_at_or_below place path ≡ true → path ≡ place ++ drop (length place) path
rest_behind place path is = (starts_is bytes_eq-Decides path place (is_at_or_below place path) refl).0 is

pub at_or_below : (place path : List (List ℕ)) → is_at_or_below place path ≡ true → IsAtOrBelow place path
at_or_below place path is = (drop (length place) path, rest_behind place path is)

pub at_or_below_true : (place path : List (List ℕ)) → IsAtOrBelow place path → is_at_or_below place path ≡ true
at_or_below_true place path (rest, is) = (starts_is bytes_eq-Decides path place (is_at_or_below place path) refl).1 rest is

pub both_true : (a b : Bool) → (a && b) ≡ true → (a ≡ true) × (b ≡ true)
both_true true true is = (refl, refl)
both_true true false is = absurd (let no : ⊥ = cc in no)
both_true false b is = absurd (let no : ⊥ = cc in no)

pub contains_filter : (p : Touch → Bool) (xs : List Touch) (x : Touch) → Contains xs x → p x ≡ true → Contains (filter p xs) x
contains_filter p [] x (k, below, is) kept = absurd (omega arith)
contains_filter p (y ∷ xs) x (zero, below, is) kept =
    let here : p y ≡ true = ap p is ∙ kept in
    subst (λ (l : List Touch). Contains l x) (sym (ap (λ (b : Bool). cond b (y ∷ filter p xs) (filter p xs)) here)) (0, omega arith, is)
contains_filter p (y ∷ xs) x (suc k, below, is) kept =
    let behind = contains_filter p xs x (k, omega arith, is) kept in
    elim (cases_Bool (p y)) [
      | inl here ↦ subst (λ (l : List Touch). Contains l x) (sym (ap (λ (b : Bool). cond b (y ∷ filter p xs) (filter p xs)) here)) (suc behind.0, let b = behind.1 in omega arith, behind.2)
      | inr other ↦ subst (λ (l : List Touch). Contains l x) (sym (ap (λ (b : Bool). cond b (y ∷ filter p xs) (filter p xs)) other)) behind
    ]

-- what stands in a list is in it
contains_stands : (nodes : List Touch) (path : List (List ℕ)) → IsSome (stands_in nodes path) → Contains nodes (record { path = path; node = stands_in nodes path })
contains_stands [] path some = absurd (let no : ⊥ = cc in no)
contains_stands (touch ∷ nodes) path some = elim (cases_Bool (path_eqb touch.path path)) [
  | inl same ↦
      let is : stands_in (touch ∷ nodes) path ≡ touch.node = ap (λ (b : Bool). cond b touch.node (stands_in nodes path)) same in
      let here : touch.path ≡ path = (path_eqb-Decides touch.path path).0 same in
      (0, omega arith, λ i. record { path = here i; node = sym is i })
  | inr other ↦
      let is : stands_in (touch ∷ nodes) path ≡ stands_in nodes path = ap (λ (b : Bool). cond b touch.node (stands_in nodes path)) other in
      let behind = contains_stands nodes path (sym (ap is_some is) ∙ some) in
      let d : Touch = record { path = path; node = stands_in nodes path } in
      let e : Touch = record { path = path; node = stands_in (touch ∷ nodes) path } in
      let same : d ≡ e = λ i. record { path = path; node = sym is i } in
      (suc behind.0, let b = behind.1 in omega arith, get_or_default nodes behind.0 e d behind.1 ∙ behind.2 ∙ same)
]

module _ (nodes : List Touch) (rising : AreRising nodes) where
  pairs : AllPairs (λ (a b : Touch). IsPathBefore a.path b.path) nodes
  pairs = λ i j d less below. rises_far nodes rising i j d less below

  pub filtered_rise : (p : Touch → Bool) → AreRising (filter p nodes)
  filtered_rise p = λ k d below. AllPairs-filter (λ (a b : Touch). IsPathBefore a.path b.path) p nodes pairs k (k + 1) d (omega arith) below

  -- each of them is what stands at its path
  own_node : All (λ (t : Touch). stands_in nodes t.path ≡ t.node) nodes
  own_node = λ k d below.
      stands_first nodes k d (get_or nodes k d).path
      (λ j less same. not_before_itself (get_or nodes k d).path (subst (λ (p : List (List ℕ)). IsPathBefore p (get_or nodes k d).path) same (rises_far nodes rising j k d less below)))
      below refl

  pub is_under : (m : Map) (place : List (List ℕ)) → SameNear place m (stands_in nodes) → IsUnder m place (under_in nodes place)
  is_under m place near = record {
    rising = filtered_rise (stands_under place);
    each = λ touch has.
        let passes = both_true (is_at_or_below place touch.path) (is_some touch.node) (All-contains (λ t. stands_under place t ≡ true) (under_in nodes place) touch (filter_passes (stands_under place) nodes) has) in
        let own = All-contains (λ (t : Touch). stands_in nodes t.path ≡ t.node) (under_in nodes place) touch (All-filter (stands_under place) (λ (t : Touch). stands_in nodes t.path ≡ t.node) nodes own_node) has in
        (passes.0, passes.1, near touch.path (inl (at_or_below place touch.path passes.0)) ∙ own);
    all = λ path below some.
        let same : m path ≡ stands_in nodes path = near path (inl (at_or_below place path below)) in
        let here : IsSome (stands_in nodes path) = sym (ap is_some same) ∙ some in
        let d : Touch = record { path = path; node = stands_in nodes path } in
        let e : Touch = record { path = path; node = m path } in
        let one : d ≡ e = λ i. record { path = path; node = sym same i } in
        let kept : stands_under place d ≡ true = ap (λ (b : Bool). b && is_some (stands_in nodes path)) below ∙ here in
        subst (Contains (under_in nodes place)) one (contains_filter (stands_under place) nodes d (contains_stands nodes path here) kept);
  }
