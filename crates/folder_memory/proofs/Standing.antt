-- What stands in a folder in memory, and what a crash leaves of it.
use Rattle.std.proofs.Common.{◌≡◌, ◌≢◌, ◌⊎◌, ◌↔◌, inl, inr, ℕ, Bool, true, false, not, IsTrue, List, [], ◌∷◌, ◌++◌, Option, Some, None, refl, sym, ◌∙◌, ap, subst, arith, append_assoc}
use Rattle.std.specs.declared.cmp.Ordering.TheVariants.{Greater}
use Rattle.std.specs.List.{Contains}
use Rattle.std.proofs.lemmas.List.{append-nil}
use Rattle.std.specs.Option.{IfSome, IsSome}
use Rattle.std.specs.BTreeMap.{BTreeMap, get}
use Rattle.std.proofs.Math.Logic.{∥∥₁_map}
use Rattle.folder_core.specs.Folder.{Map, Told, IsFormed, CanSet, IsKid, SameBut, set_at}
use Rattle.folder_core.specs.Crash.{IsImage, Touches, Narrows, Elapses}
use Rattle.folder_core.specs.Name.{AreThose}
use Rattle.folder_core.specs.Path.{IsBelow, IsPath}
use Rattle.folder_core.specs.PathOrder.{path_cmp}
use Rattle.folder_core.specs.Node.{IsNode, IsSmallAt}
use Rattle.folder_core.specs.declared.node.Node.{Node}
use Rattle.folder_core.specs.declared.node.Node.TheVariants.{Dir}
use Rattle.folder_core.specs.declared.node.Touch.{Touch}
use Rattle.folder_core.proofs.Paths.{IsPath-nil}
use Rattle.std.proofs.lemmas.Bool.{false≢true}
use Rattle.folder_core.proofs.Maps.{IsFormed-set_at, changed_here, changed_other, parent-push, push_some, same_path}
use Rattle.folder_memory.specs.Moments.{contains_front, contains_middle, image_now, state_of-push}
use Rattle.folder_memory.specs.Nodes.{ShowsDirectory, map_of}
use Rattle.folder_memory.specs.Places.{HasBelow, HasFrom, IsLastBefore, NothingBefore}
use Rattle.folder_memory.specs.Sets.{node_had}
use Rattle.folder_memory.specs.State.{only_root, state_of, after_event, LeftSince, MaySync}
use Rattle.folder_memory.specs.declared.history.Event.{Event}
use Rattle.folder_memory.specs.declared.history.Event.TheVariants.{Set, Sync}
use Rattle.folder_memory.proofs.Order.{before_not_after, below_is_after, between, not_before}
use Rattle.folder_memory.proofs.States.{Stands, contains_cases, elapses_none, elapses_push, touched_set}

abbrev Place : Type 0
Place = List (List ℕ)

abbrev Nodes : Type 0
Nodes = BTreeMap Place Node

pub stands_at : (events : List Event) (nodes : Nodes) → ∥ Stands events nodes ∥₁ → (path : Place) → (state_of events).now path ≡ map_of Dir nodes path
stands_at events nodes had path = node_had _ _ (∥∥₁_map had (λ h. h path))

pub at_root : (root : Node) (nodes : Nodes) → ∥ root ≡ Dir ∥₁ → (path : Place) → map_of Dir nodes path ≡ map_of root nodes path
at_root root nodes had path = node_had _ _ (∥∥₁_map had (λ h. ap (λ (n : Node). map_of n nodes path) (sym h)))

pub at_some : (root : Node) (nodes : Nodes) (path : Place) → path ≢ [] → map_of root nodes path ≡ get path_cmp nodes path
at_some root nodes [] some = absurd (some refl)
at_some root nodes (name ∷ path) some = refl

pub node_there : (m : Map) (path : Place) → IsFormed m → IfSome (m path) IsNode
node_there m path formed = at (m path) (formed.nodes path)
  where
    at : (node : Option Node) → ((n : Node) → node ≡ Some n → IsNode n) → IfSome node IsNode
    at None nodes = tt
    at (Some n) nodes = nodes n refl

-- ---- a sync

pub narrows_sync : (events : List Event) (t : Told) → IsFormed (state_of events).now → t.synced ≡ (state_of events).now → t.touched ≡ [] → Narrows (state_of events) t
narrows_sync events t formed synced none m image = record {
  formed = image.formed;
  untouched = λ path not_touched.
      image.untouched path (λ has. nothing (subst (λ l. Contains l path) none has))
      ∙ ap (λ (n : Map). n path) synced
      ∙ (image_now events formed).untouched path not_touched;
}
  where
    nothing : {path : Place} → ¬ (Contains [] path)
    nothing (k, below, at) = omega arith

pub elapses_sync : (old new : List Event) → MaySync old new → Elapses (state_of old).moment (state_of new).moment (LeftSince old) (LeftSince new) (IsImage (state_of new))
elapses_sync old new (inl pushed) = elapses_push old new Sync pushed
elapses_sync old new (inr same) = elapses_none old new same

-- ---- a set

module _ (old new : List Event) (touch : Touch) (same : new ≡ old ++ Set touch ∷ []) where
  after : state_of new ≡ after_event (state_of old) (Set touch)
  after = ap state_of same ∙ state_of-push old (Set touch)

  pub now_set : (state_of new).now ≡ set_at (state_of old).now touch.path touch.node
  now_set = ap (λ (s : Told). s.now) after

  pub elsewhere_set : SameBut touch.path (state_of old).now (state_of new).now
  elsewhere_set place apart = ap (λ (m : Map). m place) now_set ∙ changed_other (state_of old).now touch.path touch.node place apart

  pub touches_set : Touches touch.path (state_of old) (state_of new)
  touches_set = record {
    synced = ap (λ (s : Told). s.synced) after;
    touched = λ place has. contains_cases (state_of old).touched place touch.path (subst (λ l. Contains l place) (touched_set old new touch same) has);
    kept = λ place has. subst (λ l. Contains l place) (sym (touched_set old new touch same)) (contains_front (state_of old).touched (touch.path ∷ []) place has);
  }

  pub contains_set : Contains (state_of new).touched touch.path
  contains_set = subst (λ l. Contains l touch.path) (sym (touched_set old new touch same)) (contains_middle (state_of old).touched touch.path [])

  pub elapses_set : Elapses (state_of old).moment (state_of new).moment (LeftSince old) (LeftSince new) (IsImage (state_of new))
  elapses_set = elapses_push old new (Set touch) same

  pub formed_set : IsFormed (state_of old).now → CanSet (state_of old).now touch.path → IsPath touch.path → IfSome touch.node IsNode → IfSome touch.node (IsSmallAt touch.path) → IsFormed (state_of new).now
  formed_set formed can is_path node small =
      subst IsFormed (sym now_set) (IsFormed-set_at (state_of old).now touch.path touch.node formed can is_path node small)

  -- a node that stood there is put there
  pub now_kept : touch.node ≡ (state_of old).now touch.path → (state_of new).now ≡ (state_of old).now
  now_kept kept = now_set ∙ (λ i place. at place i)
    where
      at : (place : Place) → set_at (state_of old).now touch.path touch.node place ≡ (state_of old).now place
      at place = elim (same_path place touch.path) [
        | inl here ↦ changed_here (state_of old).now touch.path touch.node place here ∙ kept ∙ ap (state_of old).now (sym here)
        | inr other ↦ changed_other (state_of old).now touch.path touch.node place other
      ]

-- ---- a folder with nothing in it

pub formed_first : IsFormed only_root
formed_first = record {
  root = refl;
  parents = λ path node some is. absurd (none path node some is);
  paths = paths;
  nodes = nodes;
  small = small;
}
  where
    none : (path : Place) (node : Node) → path ≢ [] → only_root path ≡ Some node → ⊥
    none [] node some is = some refl
    none (name ∷ path) node some is = let no : ⊥ = cc in no

    paths : (path : Place) (node : Node) → only_root path ≡ Some node → IsPath path
    paths [] node is = IsPath-nil
    paths (name ∷ path) node is = absurd (let no : ⊥ = cc in no)

    nodes : (path : Place) (node : Node) → only_root path ≡ Some node → IsNode node
    nodes [] node is = subst IsNode (let same : Dir ≡ node = cc in same) tt
    nodes (name ∷ path) node is = absurd (let no : ⊥ = cc in no)

    small : (path : Place) (node : Node) → only_root path ≡ Some node → IsSmallAt path node
    small [] node is = subst (IsSmallAt []) (let same : Dir ≡ node = cc in same) tt
    small (name ∷ path) node is = absurd (let no : ⊥ = cc in no)

-- ---- what stands above another

append_some : (front : Place) (name : List ℕ) (rest : Place) → front ++ name ∷ rest ≢ []
append_some [] name rest e = cc
append_some (x ∷ front) name rest e = cc

above_kid : (m : Map) → IsFormed m → (path : Place) (name : List ℕ) (node : Node) → m (path ++ name ∷ []) ≡ Some node → m path ≡ Some Dir
above_kid m formed path name node is =
    sym (ap m (parent-push (path ++ name ∷ []) path name refl)) ∙ formed.parents (path ++ name ∷ []) node (push_some (path ++ name ∷ []) path name refl) is

pub directory_above : (m : Map) → IsFormed m → (path : Place) (name : List ℕ) (rest : Place) (node : Node) → m (path ++ name ∷ rest) ≡ Some node → m path ≡ Some Dir
directory_above m formed path name [] node is = above_kid m formed path name node is
directory_above m formed path name (next ∷ rest) node is =
    above_kid m formed path name Dir (directory_above m formed (path ++ name ∷ []) next rest node (ap m (append_assoc path (name ∷ []) (next ∷ rest)) ∙ is))

some_is : (node : Option Node) → IsSome node → (n : Node) × (node ≡ Some n)
some_is None some = absurd (let no : ⊥ = cc in no)
some_is (Some n) some = (n, refl)

is_some_of : (node : Option Node) (n : Node) → node ≡ Some n → IsSome node
is_some_of None n is = let no : ⊥ = cc in absurd no
is_some_of (Some m) n is = refl

module _ (events : List Event) (nodes : Nodes) (stands : ∥ Stands events nodes ∥₁) (formed : IsFormed (state_of events).now)
    (path front : Place) (below : IsBelow front path) (some : front ≢ []) where
  at_front : (state_of events).now front ≡ get path_cmp nodes front
  at_front = stands_at events nodes stands front ∙ at_some Dir nodes front some

  stands_front : (state_of events).now front ≡ Some Dir → IsSome (get path_cmp nodes front)
  stands_front is = is_some_of (get path_cmp nodes front) Dir (sym at_front ∙ is)

  pub nothing_shows : NothingBefore nodes path → ¬ ((state_of events).now front ≡ Some Dir)
  nothing_shows none is = none front (below_is_after front path below) (stands_front is)

  pub shown : (place : Place) (node : Node) → IsLastBefore nodes path place node → ShowsDirectory front place node → (state_of events).now front ≡ Some Dir
  shown place node last (rest, is, here) = at rest is here
    where
      at : (rest : Place) → place ≡ front ++ rest → (rest ≡ [] → node ≡ Dir) → (state_of events).now front ≡ Some Dir
      at [] is here = at_front ∙ ap (λ p. get path_cmp nodes p) (sym (is ∙ append-nil front)) ∙ last.stands ∙ ap Some (here refl)
      at (name ∷ rest) is here =
          let there = stands_at events nodes stands (front ++ name ∷ rest) ∙ at_some Dir nodes (front ++ name ∷ rest) (append_some front name rest) in
          directory_above (state_of events).now formed front name rest node (there ∙ ap (λ p. get path_cmp nodes p) (sym is) ∙ last.stands)

  pub must_show : (place : Place) (node : Node) → IsLastBefore nodes path place node → (state_of events).now front ≡ Some Dir → ShowsDirectory front place node
  must_show place node last dir =
      let up_to = subst (λ p. path_cmp place p ≢ Greater) below.2 (before_not_after place path last.before) in
      let from = not_before place front (last.last front (below_is_after front path below) (stands_front dir)) in
      let behind = between front place (below.0 ∷ below.1) from up_to in
      (behind.0, behind.1, λ none. at (behind.1 ∙ ap (λ (l : Place). front ++ l) none ∙ append-nil front))
    where
      at : place ≡ front → node ≡ Dir
      at same = let both : Some node ≡ Some Dir = sym last.stands ∙ ap (λ p. get path_cmp nodes p) same ∙ sym at_front ∙ dir in cc

-- ---- whether a node may be put

module _ (events : List Event) (nodes : Nodes) (stands : ∥ Stands events nodes ∥₁) (path : Place) where
  there : (name : List ℕ) (rest : Place) → (state_of events).now (path ++ name ∷ rest) ≡ get path_cmp nodes (path ++ name ∷ rest)
  there name rest = stands_at events nodes stands (path ++ name ∷ rest) ∙ at_some Dir nodes (path ++ name ∷ rest) (append_some path name rest)

  nothing_below : ¬ (HasBelow nodes path) → (name : List ℕ) (rest : Place) → (state_of events).now (path ++ name ∷ rest) ≡ None
  nothing_below none name rest = there name rest ∙ at (get path_cmp nodes (path ++ name ∷ rest)) refl
    where
      at : (node : Option Node) → get path_cmp nodes (path ++ name ∷ rest) ≡ node → get path_cmp nodes (path ++ name ∷ rest) ≡ None
      at None is = is
      at (Some n) is = absurd (none (path ++ name ∷ rest, (name, rest, refl), subst (λ (v : Option Node). IsSome v) (sym is) refl))

  some_below : HasBelow nodes path → ¬ (CanSet (state_of events).now path)
  some_below below can =
      let name = below.1.0 in
      let rest = below.1.1 in
      let none = sym (there name rest) ∙ can.nothing_below name rest in
      let some : IsSome (get path_cmp nodes (path ++ name ∷ rest)) = subst (λ p. IsSome (get path_cmp nodes p)) below.1.2 below.2 in
      no_node (get path_cmp nodes (path ++ name ∷ rest)) none some
    where
      no_node : (node : Option Node) → node ≡ None → IsSome node → ⊥
      no_node None is some = let no : ⊥ = cc in no
      no_node (Some n) is some = let no : ⊥ = cc in no

  pub can_set_iff : (front : Place) (last : List ℕ) (below : Bool) → path ≡ front ++ last ∷ [] → (state_of events).now front ≡ Some Dir → (IsTrue below ↔ HasBelow nodes path) → (IsTrue (not below) ↔ CanSet (state_of events).now path)
  can_set_iff front last true split dir test = (λ never. absurd (false≢true never), λ can. absurd (some_below (test.0 refl) can))
  can_set_iff front last false split dir test = (
    λ always. record {
      not_root = push_some path front last split;
      parent = ap (state_of events).now (parent-push path front last split) ∙ dir;
      nothing_below = nothing_below (λ has. false≢true (test.1 has));
    },
    λ can. refl,
  )

  pub kids_told : IsFormed (state_of events).now → (names : List (List ℕ)) → (state_of events).now path ≡ Some Dir → AreThose (λ name. HasFrom nodes (path ++ name ∷ [])) names → AreThose (IsKid (state_of events).now path) names
  kids_told formed names dir those name = (
    λ had. let from = (those name).0 had in record { directory = dir; stands = at from.0 from.1 },
    λ kid. (those name).1 ([], subst (λ (v : Option Node). IsSome v) (there name [] ∙ ap (λ p. get path_cmp nodes p) (sym (append-nil (path ++ name ∷ [])))) kid.stands),
  )
    where
      at : (rest : Place) → IsSome (get path_cmp nodes ((path ++ name ∷ []) ++ rest)) → IsSome ((state_of events).now (path ++ name ∷ []))
      at [] some = subst (λ (v : Option Node). IsSome v) (ap (λ p. get path_cmp nodes p) (append-nil (path ++ name ∷ [])) ∙ sym (there name [])) some
      at (next ∷ rest) some =
          let same = append_assoc path (name ∷ []) (next ∷ rest) in
          let found = some_is _ some in
          let told = ap (state_of events).now same ∙ there name (next ∷ rest) ∙ ap (λ p. get path_cmp nodes p) (sym same) ∙ found.1 in
          is_some_of _ Dir (directory_above (state_of events).now formed (path ++ name ∷ []) next rest found.0 told)

-- ---- after a set that was recorded, or wasn't

pub formed_kept : (old new : List Event) (touch : Touch) → (new ≡ old ++ Set touch ∷ []) ⊎ (new ≡ old) → touch.node ≡ (state_of old).now touch.path → IsFormed (state_of old).now → IsFormed (state_of new).now
formed_kept old new touch (inl set) kept formed = subst IsFormed (sym (now_kept old new touch set kept)) formed
formed_kept old new touch (inr same) kept formed = subst (λ es. IsFormed (state_of es).now) (sym same) formed

pub formed_put : (old new : List Event) (touch : Touch) → (new ≡ old ++ Set touch ∷ []) ⊎ (new ≡ old) → IsFormed (state_of old).now → CanSet (state_of old).now touch.path → IsPath touch.path → IfSome touch.node IsNode → IfSome touch.node (IsSmallAt touch.path) → IsFormed (state_of new).now
formed_put old new touch (inl set) formed can is_path node small = formed_set old new touch set formed can is_path node small
formed_put old new touch (inr same) formed can is_path node small = subst (λ es. IsFormed (state_of es).now) (sym same) formed
