-- What stood at the last sync, and what choices make of it.
use Rattle.std.specs.Prelude.{map}
use Rattle.std.proofs.Common.{◌≡◌, ◌≢◌, ◌⊎◌, inl, inr, ⊎_elim, ℕ, zero, suc, ◌+◌, ◌<◌, List, [], ◌∷◌, ◌++◌, Bor, length, take, drop, get_or, Option, Some, None, refl, sym, ◌∙◌, ap, subst, arith}
use Rattle.std.specs.List.{Contains, ContainsAt, fold}
use Rattle.std.specs.Option.{IsSome}
use Rattle.std.specs.BTreeMap.{BTreeMap, keys}
use Rattle.std.specs.Map.Iter.{deref}
use Rattle.std.proofs.Math.Logic.{∥∥₁_elim, ∥∥₁_map}
use Rattle.std.proofs.lemmas.List.{get_or_default, take-append-drop}
use Rattle.std.proofs.lemmas.List.Sums.{fold_push}
use Rattle.folder_core.specs.Crash.{IsImage}
use Rattle.folder_core.specs.Folder.{Map, Told, IsFormed, set_at}
use Rattle.folder_core.specs.Path.{IsPath}
use Rattle.folder_core.specs.Node.{IsNode, IsSmallAt}
use Rattle.folder_core.specs.declared.node.Node.{Node}
use Rattle.folder_core.specs.declared.node.Node.TheVariants.{Dir}
use Rattle.folder_core.specs.declared.node.Touch.{Touch}
use Rattle.folder_core.proofs.Maps.{changed_other, same_path}
use Rattle.folder_core.proofs.Paths.{IsPath-nil}
use Rattle.folder_memory.specs.Formed.{IsWellAt}
use Rattle.folder_memory.specs.Image.{AreTouched, IsChoiceOf, IsFirstUntouched, chosen_of, set_all}
use Rattle.folder_memory.specs.Moments.{contains_front, state_of-push}
use Rattle.folder_memory.specs.Nodes.{map_of}
use Rattle.folder_memory.specs.State.{first_state, after_event, state_of}
use Rattle.folder_memory.specs.declared.history.Event.{Event}
use Rattle.folder_memory.specs.declared.history.Event.TheVariants.{Set, Sync}
use Rattle.folder_memory.proofs.Kids.{AnyOf, AnyOf-cases, take_next}
use Rattle.folder_memory.proofs.Listed.{any_seen, listed_there}
use Rattle.folder_memory.proofs.Standing.{at_some, now_set}
use Rattle.folder_memory.proofs.States.{contains_cases}

abbrev Place : Type 0
Place = List (List ℕ)

contains_later : {T : Type 0} (xs : List T) (x y : T) → Contains xs x → Contains (y ∷ xs) x
contains_later xs x y (k, below, at) = (suc k, omega (arith, below), at)

pub contains_any : {T : Type 0} (xs : List T) (x : T) → ContainsAt xs x → Contains xs x
contains_any xs x (k, below, at) = (k, below, at x)

pub contains_each : {T : Type 0} (xs : List T) (x : T) → Contains xs x → ContainsAt xs x
contains_each xs x (k, below, at) = (k, below, λ d. get_or_default xs k d x below ∙ at)

-- ---- the root is never set

abbrev pub NoRoot : List Event → Type 0
NoRoot events = (touch : Touch) → Contains events (Set touch) → touch.path ≢ []

⊥-prop : IsProp ⊥
⊥-prop a b = absurd a

pub no_root_had : (events : List Event) → ∥ NoRoot events ∥₁ → NoRoot events
no_root_had events had touch has is = ∥∥₁_elim had ⊥-prop (λ h. h touch has is)

abbrev path_of : Event → Place
path_of (Set touch) = touch.path
path_of Sync = []

pub no_root_same : (old new : List Event) → new ≡ old → ∥ NoRoot old ∥₁ → ∥ NoRoot new ∥₁
no_root_same old new same had = subst (λ es. ∥ NoRoot es ∥₁) (sym same) had

pub no_root_set : (old new : List Event) (touch : Touch) → new ≡ old ++ Set touch ∷ [] → touch.path ≢ [] → ∥ NoRoot old ∥₁ → ∥ NoRoot new ∥₁
no_root_set old new touch same some had = ∥∥₁_map had (λ h t has.
    ⊎_elim (λ earlier. h t earlier) (λ is e. some (sym (ap path_of is) ∙ e))
    (contains_cases old (Set t) (Set touch) (subst (λ es. Contains es (Set t)) same has)))

pub no_root_sync : (old new : List Event) → new ≡ old ++ Sync ∷ [] → ∥ NoRoot old ∥₁ → ∥ NoRoot new ∥₁
no_root_sync old new same had = ∥∥₁_map had (λ h t has.
    ⊎_elim (λ earlier. h t earlier) (λ is e. let no : ⊥ = cc in no)
    (contains_cases old (Set t) Sync (subst (λ es. Contains es (Set t)) same has)))

nothing_in : {T : Type 0} (x : T) → ¬ (Contains [] x)
nothing_in x (k, below, at) = omega arith

step_some : (s : Told) (event : Event) → ¬ (Contains s.touched []) → ((touch : Touch) → event ≡ Set touch → touch.path ≢ []) → ¬ (Contains (after_event s event).touched [])
step_some s (Set touch) none some has = ⊎_elim none (λ is. some touch refl (sym is)) (contains_cases s.touched [] touch.path has)
step_some s Sync none some has = nothing_in [] has

touched_from : (s : Told) (events : List Event) → ¬ (Contains s.touched []) → NoRoot events → ¬ (Contains (fold after_event s events).touched [])
touched_from s [] none some = none
touched_from s (event ∷ events) none some =
    touched_from (after_event s event) events (step_some s event none (λ touch is. some touch (0, omega arith, is)))
    (λ touch has. some touch (contains_later events (Set touch) event has))

-- a path that was touched isn't the root
pub touched_some : (events : List Event) → ∥ NoRoot events ∥₁ → (path : Place) → Contains (state_of events).touched path → path ≢ []
touched_some events had path has is =
    touched_from first_state events (nothing_in []) (no_root_had events had) (subst (λ p. Contains (state_of events).touched p) is has)

-- ---- the record up to the last sync

module _ (events : List Event) (i : ℕ) (event : Event) (below : i < length events) (at : event ≡ get_or events i event) where
  next_state : state_of (take (i + 1) events) ≡ after_event (state_of (take i events)) event
  next_state = ap state_of (take_next events i event below at) ∙ state_of-push (take i events) event

  pub at_sync : event ≡ Sync → (state_of (take (i + 1) events)).now ≡ (state_of (take (i + 1) events)).synced
  at_sync is =
      let next = next_state ∙ ap (after_event (state_of (take i events))) is in
      ap (λ (s : Told). s.now) next ∙ sym (ap (λ (s : Told). s.synced) next)

  pub after_sync : event ≡ Sync → (state_of (take (i + 1) events)).now ≡ (state_of (take i events)).now
  after_sync is = ap (λ (s : Told). s.now) (next_state ∙ ap (after_event (state_of (take i events))) is)

  synced_kept : (e : Event) → e ≢ Sync → (after_event (state_of (take i events)) e).synced ≡ (state_of (take i events)).synced
  synced_kept (Set touch) other = refl
  synced_kept Sync other = absurd (other refl)

  pub at_set : event ≢ Sync → (state_of (take (i + 1) events)).synced ≡ (state_of (take i events)).synced
  at_set other = ap (λ (s : Told). s.synced) next_state ∙ synced_kept event other

  -- the same is set in another record
  pub replayed : (touch : Touch) (old new : List Event) → event ≡ Set touch → new ≡ old ++ Set touch ∷ [] → (state_of old).now ≡ (state_of (take i events)).now → (state_of new).now ≡ (state_of (take (i + 1) events)).now
  replayed touch old new is same so_far =
      now_set old new touch same
      ∙ ap (λ (m : Map). set_at m touch.path touch.node) so_far
      ∙ sym (ap (λ (s : Told). s.now) (next_state ∙ ap (after_event (state_of (take i events))) is))

-- an event of a front of the record is one of the record
pub recorded : (events : List Event) (n i : ℕ) (event : Event) → i < length (take n events) → event ≡ get_or (take n events) i event → Contains events event
recorded events n i event below at =
    subst (λ es. Contains es event) (take-append-drop n events) (contains_front (take n events) (drop n events) event (i, below, sym at))

-- ---- one choice after another

pub set_all-next : (m : Map) (choice : List Touch) (i : ℕ) (touch : Touch) → i < length choice → touch ≡ get_or choice i touch → set_all m (take (i + 1) choice) ≡ set_at (set_all m (take i choice)) touch.path touch.node
set_all-next m choice i touch below at =
    ap (λ (ts : List Touch). set_all m ts) (take_next choice i touch below at)
    ∙ fold_push (λ (n : Map) (t : Touch). set_at n t.path t.node) m (take i choice) touch

-- a record that goes on with one more choice
pub chosen_next : (old new : List Event) (m : Map) (choice : List Touch) (i : ℕ) (touch : Touch) → i < length choice → touch ≡ get_or choice i touch → new ≡ old ++ Set touch ∷ [] → (state_of old).now ≡ set_all m (take i choice) → (state_of new).now ≡ set_all m (take (i + 1) choice)
chosen_next old new m choice i touch below at same so_far =
    now_set old new touch same ∙ ap (λ (n : Map). set_at n touch.path touch.node) so_far ∙ sym (set_all-next m choice i touch below at)

-- a path that no choice is for stays as it was
pub unchosen : (m : Map) (touched : List Place) (choice : List Touch) (path : Place) → AreTouched touched choice → ¬ (Contains touched path) → set_all m choice path ≡ m path
unchosen m touched [] path all apart = refl
unchosen m touched (touch ∷ choice) path all apart =
    unchosen (set_at m touch.path touch.node) touched choice path (λ k d below. all (suc k) d (omega (arith, below))) apart
    ∙ changed_other m touch.path touch.node path (λ is. apart (subst (λ p. Contains touched p) (sym is) (all 0 touch (omega arith))))

pub chosen_image : (s : Told) (choice : List Touch) (m : Map) → m ≡ chosen_of s choice → AreTouched s.touched choice → IsFormed m → IsImage s m
chosen_image s choice m is all formed = record {
  formed = formed;
  untouched = λ path apart. ap (λ (n : Map). n path) is ∙ unchosen s.synced s.touched choice path all apart;
}

touched_or_not : (touched : List Place) (path : Place) → Contains touched path ⊎ ¬ (Contains touched path)
touched_or_not [] path = inr (nothing_in path)
touched_or_not (first ∷ touched) path = elim (same_path first path) [
  | inl here ↦ inl (0, omega arith, here)
  | inr other ↦ ⊎_elim (λ e. inl (contains_later touched path first e)) (λ none. inr (λ has. apart none other has)) (touched_or_not touched path)
]
  where
    apart : ¬ (Contains touched path) → first ≢ path → ¬ (Contains (first ∷ touched) path)
    apart none other (zero, below, at) = other at
    apart none other (suc k, below, at) = none (k, omega (arith, below), at)

-- an image is what its choices make
pub image_chosen : (s : Told) (m : Map) (choice : List Touch) → IsImage s m → IsChoiceOf s m choice → chosen_of s choice ≡ m
image_chosen s m choice image chosen = λ i path. at path i
  where
    at : (path : Place) → chosen_of s choice path ≡ m path
    at path = ⊎_elim (λ has. chosen.nodes path has)
        (λ apart. unchosen s.synced s.touched choice path chosen.are_touched apart ∙ sym (image.untouched path apart))
        (touched_or_not s.touched path)

-- ---- whether what stands is well formed

-- each path of these stands well, and is a path
abbrev pub AreWell : Map → List (Bor Place) → Type 0
AreWell m seen = (path : Place) → AnyOf (λ (x : Bor Place). x.now ≡ path) seen → IsWellAt m path × IsPath path

pub AreWell-next : (m : Map) (seen : List (Bor Place)) (x : Bor Place) → AreWell m seen → IsWellAt m x.now → IsPath x.now → AreWell m (seen ++ x ∷ [])
AreWell-next m seen x well here is_path path any = ⊎_elim (well path)
    (λ is. subst (λ p. IsWellAt m p × IsPath p) is (here, is_path))
    (AnyOf-cases (λ (x : Bor Place). x.now ≡ path) seen x any)

pub well_at : (m : Map) (path : Place) → IsFormed m → IsWellAt m path
well_at m path formed node some is = record {
  parent = formed.parents path node some is;
  is_node = formed.nodes path node is;
  small = formed.small path node is;
}

dir_at_root : (m : Map) (node : Node) → m [] ≡ Some Dir → m [] ≡ Some node → Dir ≡ node
dir_at_root m node root is = let same : Some Dir ≡ Some node = sym root ∙ is in cc

pub formed_of : (m : Map) (nodes : BTreeMap Place Node) (seen : List (Bor Place)) → ((path : Place) → m path ≡ map_of Dir nodes path) → map deref seen ≡ keys nodes → AreWell m seen → IsFormed m
formed_of m nodes seen stands whole well = record {
  root = root;
  parents = λ path node some is. ((there path node some is).0 node some is).parent;
  paths = λ path node is. elim (same_path path []) [
    | inl none ↦ subst IsPath (sym none) IsPath-nil
    | inr some ↦ (there path node some is).1
  ];
  nodes = λ path node is. elim (same_path path []) [
    | inl none ↦ subst IsNode (dir_at_root m node root (ap m (sym none) ∙ is)) tt
    | inr some ↦ ((there path node some is).0 node some is).is_node
  ];
  small = λ path node is. elim (same_path path []) [
    | inl none ↦ subst (IsSmallAt path) (dir_at_root m node root (ap m (sym none) ∙ is)) tt
    | inr some ↦ ((there path node some is).0 node some is).small
  ];
}
  where
    root : m [] ≡ Some Dir
    root = stands []

    is_some_of : (value : Option Node) (node : Node) → value ≡ Some node → IsSome value
    is_some_of None node is = cc
    is_some_of (Some other) node is = refl

    there : (path : Place) (node : Node) → path ≢ [] → m path ≡ Some node → IsWellAt m path × IsPath path
    there path node some is =
        let found = sym (stands path ∙ at_some Dir nodes path some) ∙ is in
        well path (any_seen (λ p. p ≡ path) seen path (subst (λ l. Contains l path) (sym whole) (listed_there nodes path (is_some_of _ node found))) refl)

-- ---- the choices of a call

pub same_touched : (touched all : List Place) (choice given : List Touch) → touched ≡ all → choice ≡ given → AreTouched touched choice → AreTouched all given
same_touched touched all choice given same_all same_given are = subst (λ l. AreTouched all l) same_given (subst (λ l. AreTouched l choice) same_all are)

pub first_apart : (touched all : List Place) (choice given : List Touch) (place : ℕ) → touched ≡ all → choice ≡ given → IsFirstUntouched touched choice place → ¬ (AreTouched all given)
first_apart touched all choice given place same_all same_given first are =
    let nowhere : Touch = record { path = []; node = None } in
    first.here nowhere (same_touched all touched given choice (sym same_all) (sym same_given) are place nowhere first.within)

pub made_of : (m base synced : Map) (choice given : List Touch) → m ≡ set_all base choice → base ≡ synced → choice ≡ given → m ≡ set_all synced given
made_of m base synced choice given is same_base same_given = is ∙ ap (λ (n : Map). set_all n choice) same_base ∙ ap (λ (l : List Touch). set_all synced l) same_given
