-- Marked units, and the chains that lead to them.
use Rattle.std.proofs.Common.{◌≡◌, ℕ, ◌+◌, ◌<◌, ◌≤◌, ◌⊎◌, inl, inr, List, ◌++◌, length, get_or, ap, sym, ◌∙◌, subst, arith}
use Rattle.std.specs.Prelude.{Option, Some, None, MatchOption, IsTrue, Contains, slice_get}
use Rattle.std.proofs.lemmas.Bool.{cases_lt}
use Rattle.std.proofs.lemmas.List.Elements.{All-contains, Contains-append_cases}
use Rattle.std.proofs.lemmas.Option.{slice_get_within, slice_get-get_or, slice_get_cases, get_or_from_slice_get, same_Some, none-some}
use Rattle.ldap_filter.specs.EnvPairs.{EnvPair}
use Rattle.unit_model.specs.Applies.{filter_true}
use Rattle.unit_model.specs.Slice.{LeadsTo, HasChain, Begins, GoesOn, IsAny, AreRooted}
use Rattle.unit_model.specs.declared.name.UnitName.{UnitName}
use Rattle.unit_model.specs.declared.unit.Unit.{Unit as Package}
use Rattle.unit_judge.specs.Judged.{DoesApply, AllApply, IsFirstWithout}
use Rattle.unit_judge.specs.Leading.{FollowsAt, IsRootAt}
use Rattle.unit_judge.specs.Reaching.{IsMarked, IsListed, Marks, HasMarked, IsSound, IsFollowed, IsClosed, IsUnmarkedFirst}
use Rattle.unit_judge.specs.declared.reaching.Reached.{Reached}
use Rattle.unit_judge.proofs.Marking.{still_marked, same_front, longer}

contains_at : (units : List Package) (n : ℕ) (u : Package) → slice_get units n ≡ Some u → Contains units u
contains_at units n u here = (n, slice_get_within units n u here, get_or_from_slice_get units n u u here)

at_contains : (units : List Package) (u : Package) → Contains units u → (n : ℕ) × (slice_get units n ≡ Some u)
at_contains units u has = (has.0, slice_get-get_or units has.0 u has.1 ∙ ap Some has.2)

-- The last unit of a chain is one of the units.
ends_inside : (units : List Package) (roots : List UnitName) (env : List EnvPair) (v : Package) → HasChain units IsAny roots env v → Contains units v
ends_inside units roots env v (Begins u inside applies root) = inside
ends_inside units roots env v (GoesOn u w chain inside applies leads) = inside

-- Where the roots are marked, and all that marked units lead to, each unit with a chain is marked.
complete : (units : List Package) (roots : List UnitName) (env : List EnvPair) (reached : Reached) → length reached.marks.items ≡ length units → HasMarked (IsRootAt units roots) reached → IsClosed units env reached
    → (v : Package) → HasChain units IsAny roots env v → (k : ℕ) → slice_get units k ≡ Some v → IsMarked reached.marks.items k
complete units roots env reached size begun closed v (Begins u inside applies root) k here =
    let within = slice_get_within units k u here in
    begun k (omega arith) (record { unit = u; here = here; has = root })
complete units roots env reached size begun closed v (GoesOn u w chain inside applies leads) k here =
    let place = at_contains units u (ends_inside units roots env u chain) in
    let within = slice_get_within units k w here in
    closed place.0 (complete units roots env reached size begun closed u chain place.0 place.1) u place.1 k (omega arith) (record { unit = w; here = here; has = leads })

applies_at : (units : List Package) (env : List EnvPair) (n : ℕ) (u : Package) → AllApply units env → slice_get units n ≡ Some u → IsTrue (filter_true env u.filter)
applies_at units env n u all here = All-contains (DoesApply env) units u all (contains_at units n u here)

-- Marks on roots stand for chains.
pub sound_roots : (units : List Package) (some roots : List UnitName) (env : List EnvPair) (old new : Reached) → AllApply units env → ((name : UnitName) → Contains some name → Contains roots name)
    → Marks (IsRootAt units some) old new → IsSound units roots env old → IsSound units roots env new
sound_roots units some roots env old new apply among marks sound = λ n u marked here. elim (marks.only n marked) [
  | inl before ↦ sound n u before here
  | inr root ↦
      let same : root.unit ≡ u = same_Some root.unit u (sym root.here ∙ here) in
      Begins u (contains_at units n u here) (applies_at units env n u apply here) (among u.name (subst (λ (w : Package). Contains some w.name) same root.has))
]

-- Marks on what a marked unit leads to stand for chains.
sound_more : (units : List Package) (roots : List UnitName) (env : List EnvPair) (old new : Reached) (n : ℕ) (u : Package) → AllApply units env → IsMarked old.marks.items n → slice_get units n ≡ Some u
    → Marks (FollowsAt units env u) old new → IsSound units roots env old → IsSound units roots env new
sound_more units roots env old new n u apply marked place marks sound = λ k v now here. elim (marks.only k now) [
  | inl before ↦ sound k v before here
  | inr follows ↦
      let same : follows.unit ≡ v = same_Some follows.unit v (sym follows.here ∙ here) in
      GoesOn u v (sound n u marked place) (contains_at units k v here) (applies_at units env k v apply here) (subst (LeadsTo IsAny env u) same follows.has)
]

-- The first of the order were followed.
pub record IsClosing (units : List Package) (env : List EnvPair) (start reached : Reached) (next : ℕ) : Type 0 where
  pub size : length reached.marks.items ≡ length units
  pub listed : IsListed reached
  pub bound : next ≤ length reached.order.items
  pub kept : (n : ℕ) → IsMarked start.marks.items n → IsMarked reached.marks.items n
  pub sound : (roots : List UnitName) → IsSound units roots env start → IsSound units roots env reached
  pub done : (i n : ℕ) → i < next → slice_get reached.order.items i ≡ Some n → IsFollowed units env reached n

pub closing_none : (units : List Package) (env : List EnvPair) (start : Reached) → length start.marks.items ≡ length units → IsListed start → IsClosing units env start start 0
closing_none units env start size listed = record {
  size = size;
  listed = listed;
  bound = omega arith;
  kept = λ n marked. marked;
  sound = λ roots sound. sound;
  done = λ i n below here. absurd (omega arith);
}

pub closing_more : (units : List Package) (env : List EnvPair) (start old new : Reached) (next n : ℕ) (u : Package) → AllApply units env → IsClosing units env start old next → slice_get old.order.items next ≡ Some n
    → slice_get units n ≡ Some u → Marks (FollowsAt units env u) old new → HasMarked (FollowsAt units env u) new → IsClosing units env start new (next + 1)
closing_more units env start old new next n u apply closing place unit marks has = record {
  size = marks.size ∙ closing.size;
  listed = marks.listed closing.listed;
  bound = let inside = slice_get_within old.order.items next n place in let long = longer _ old new marks in omega arith;
  kept = λ k marked. marks.kept k (closing.kept k marked);
  sound = λ roots sound. sound_more units roots env old new n u apply ((closing.listed n).1 (in_order place)) unit marks (closing.sound roots sound);
  done = λ i k below here.
      let inside = slice_get_within old.order.items next n place in
      let before : slice_get old.order.items i ≡ Some k = same_front _ old new marks i k (omega arith) here in
      by_place i k before (cases_lt i next) below;
}
  where
    in_order : slice_get old.order.items next ≡ Some n → Contains old.order.items n
    in_order here = (next, slice_get_within old.order.items next n here, get_or_from_slice_get old.order.items next n n here)

    by_place : (i k : ℕ) → slice_get old.order.items i ≡ Some k → (i < next) ⊎ (next ≤ i) → i < next + 1 → IsFollowed units env new k
    by_place i k before (inl early) below = λ v there. still_marked (FollowsAt units env v) _ old new marks (closing.done i k early before v there)
    by_place i k before (inr late) below = λ v there.
        let at : i ≡ next = omega arith in
        let number : k ≡ n = same_Some k n (sym (subst (λ j. slice_get old.order.items j ≡ Some k) at before) ∙ place) in
        let same : u ≡ v = same_Some u v (sym unit ∙ subst (λ j. slice_get units j ≡ Some v) number there) in
        subst (λ (w : Package). HasMarked (FollowsAt units env w) new) same has

-- a number that no unit has
pub closing_past : (units : List Package) (env : List EnvPair) (start reached : Reached) (next n : ℕ) → IsClosing units env start reached next → slice_get reached.order.items next ≡ Some n
    → ((u : Package) → slice_get units n ≡ Some u → ⊥) → IsClosing units env start reached (next + 1)
closing_past units env start reached next n closing place past = record {
  size = closing.size;
  listed = closing.listed;
  bound = let inside = slice_get_within reached.order.items next n place in omega arith;
  kept = closing.kept;
  sound = closing.sound;
  done = λ i k below here. by_place i k here (cases_lt i next) below;
}
  where
    by_place : (i k : ℕ) → slice_get reached.order.items i ≡ Some k → (i < next) ⊎ (next ≤ i) → i < next + 1 → IsFollowed units env reached k
    by_place i k here (inl early) below = closing.done i k early here
    by_place i k here (inr late) below = λ v there.
        let at : i ≡ next = omega arith in
        let number : k ≡ n = same_Some k n (sym (subst (λ j. slice_get reached.order.items j ≡ Some k) at here) ∙ place) in
        absurd (past v (subst (λ j. slice_get units j ≡ Some v) number there))

pub closing_all : (units : List Package) (env : List EnvPair) (start reached : Reached) (next : ℕ) → IsClosing units env start reached next → length reached.order.items ≤ next → IsClosed units env reached
closing_all units env start reached next closing whole = λ n marked.
    let has = (closing.listed n).0 marked in
    let inside = has.1 in
    closing.done has.0 n (omega arith) (slice_get-get_or reached.order.items has.0 n has.1 ∙ ap Some has.2)

-- What doesn't lie in a list lies behind it.
pub past_all : {X : Type 0} (xs : List X) (i : ℕ) → slice_get xs i ≡ None → length xs ≤ i
past_all xs i none = elim (slice_get_cases xs i).1 [
  | inl at ↦ absurd (none-some at.0 (sym none ∙ at.2))
  | inr past ↦ past.0
]

pub kept_has : (Kind : ℕ → Type 0) (count : ℕ) (old new : Reached) → length old.marks.items ≡ count → length new.marks.items ≡ count → ((n : ℕ) → IsMarked old.marks.items n → IsMarked new.marks.items n)
    → HasMarked Kind old → HasMarked Kind new
kept_has Kind count old new before after kept has = λ n within kind. kept n (has n (omega arith) kind)

pub match_then : {T : Type 0} {P P' : Type 0} {Q Q' : T → Type 0} (o : Option T) → MatchOption o P Q → (P → P') → ((x : T) → Q x → Q' x) → MatchOption o P' Q'
match_then None p none some = none p
match_then (Some x) q none some = some x q

-- All are marked, or the first that isn't has no chain.

pub all_rooted : (units : List Package) (strict optional : List UnitName) (env : List EnvPair) (reached : Reached) → IsSound units (strict ++ optional) env reached → ((n : ℕ) → n < length units → IsMarked reached.marks.items n)
    → AreRooted units strict optional env
all_rooted units strict optional env reached sound all = λ k d inside. sound k (get_or units k d) (all k inside) (slice_get-get_or units k d inside)

pub first_unrooted : (units : List Package) (strict optional : List UnitName) (env : List EnvPair) (reached : Reached) (u : Package) → length reached.marks.items ≡ length units → IsSound units (strict ++ optional) env reached
    → HasMarked (IsRootAt units strict) reached → HasMarked (IsRootAt units optional) reached → IsClosed units env reached → IsUnmarkedFirst units reached.marks.items u
    → IsFirstWithout (HasChain units IsAny (strict ++ optional) env) units u
first_unrooted units strict optional env reached u size sound first second closed found = (
  found.number,
  record {
    here = found.here;
    fails = λ chain. absurd (let marked = complete units (strict ++ optional) env reached size both closed u chain found.number found.here in let clear = found.clear in cc);
    before = λ k y below here. sound k y (found.before k below) here;
  },
)
  where
    both : HasMarked (IsRootAt units (strict ++ optional)) reached
    both n within root = elim (Contains-append_cases strict optional root.unit.name root.has) [
      | inl one ↦ first n within (record { unit = root.unit; here = root.here; has = one })
      | inr other ↦ second n within (record { unit = root.unit; here = root.here; has = other })
    ]
