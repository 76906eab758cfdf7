-- What is told by the record of a folder's calls.
use Rattle.std.proofs.Common.{◌≡◌, ◌≢◌, ◌⊎◌, inl, inr, ⊎_elim, ℕ, zero, suc, ◌<◌, ◌≤◌, leb, ◌==◌, Bool, true, cond, List, [], ◌∷◌, ◌++◌, length, Option, refl, sym, ◌∙◌, ap, subst, arith, length-append}
use Rattle.std.specs.List.{Contains}
use Rattle.std.specs.BTreeMap.{BTreeMap, get, is_at}
use Rattle.std.proofs.Math.Logic.{∥∥₁_map}
use Rattle.std.specs.Cmp.{both_ways}
use Rattle.std.proofs.lemmas.List.{take_all, take-append-le}
use Rattle.folder_core.specs.Folder.{Map, Told, set_at}
use Rattle.folder_core.specs.Crash.{IsImage, Elapses}
use Rattle.folder_core.specs.Path.{path_eqb}
use Rattle.folder_core.specs.PathOrder.{path_cmp}
use Rattle.folder_core.specs.declared.node.Node.{Node}
use Rattle.folder_core.specs.declared.node.Touch.{Touch}
use Rattle.std.proofs.lemmas.Bool.{cases_Bool}
use borrow.Author.Tests.{eqb-true, leb-true, leb-false}
use Rattle.folder_core.specs.declared.node.Node.TheVariants.{Dir}
use Rattle.folder_core.proofs.Maps.{changed_other, path_eqb-Decides}
use Rattle.folder_memory.specs.Nodes.{map_of}
use Rattle.folder_memory.specs.State.{state_of, LeftSince}
use Rattle.folder_memory.specs.declared.history.Event.{Event}
use Rattle.folder_memory.specs.declared.history.Event.TheVariants.{Set, Sync}
use Rattle.folder_memory.specs.Moments.{moment_of, untouched_since, state_of-push}
use Rattle.folder_memory.proofs.Listed.{same_test}

abbrev Place : Type 0
Place = List (List ℕ)

pub contains_cases : {T : Type 0} (xs : List T) (x y : T) → Contains (xs ++ y ∷ []) x → Contains xs x ⊎ (x ≡ y)
contains_cases [] x y (zero, below, at) = inr (sym at)
contains_cases [] x y (suc k, below, at) = absurd (omega arith)
contains_cases (z ∷ xs) x y (zero, below, at) = inl (0, omega arith, at)
contains_cases (z ∷ xs) x y (suc k, below, at) = ⊎_elim (λ e. inl (suc e.0, omega (arith, e.1), e.2)) (λ e. inr e) (contains_cases xs x y (k, omega arith, at))

-- ---- nodes in a map

pub at_test : (path place : Place) → is_at (path_cmp path) place ≡ path_eqb place path
at_test path place =
    same_test path place
    ∙ both_ways (path_eqb path place) (path_eqb place path) (λ e. (path_eqb-Decides place path).1 (sym ((path_eqb-Decides path place).0 e))) (λ e. (path_eqb-Decides path place).1 (sym ((path_eqb-Decides place path).0 e)))

module _ (root : Node) (old new : BTreeMap Place Node) (path : Place) (node : Option Node) (some : path ≢ []) (updates : (q : Place) → get path_cmp new q ≡ cond (is_at (path_cmp path) q) node (get path_cmp old q)) where
  updated_at : (place : Place) → map_of root new place ≡ set_at (map_of root old) path node place
  updated_at [] = sym (changed_other (map_of root old) path node [] (λ e. some (sym e)))
  updated_at (name ∷ place) = updates (name ∷ place) ∙ ap (λ (b : Bool). cond b node (get path_cmp old (name ∷ place))) (at_test path (name ∷ place))

  pub updated : map_of root new ≡ set_at (map_of root old) path node
  updated = λ i place. updated_at place i

module _ (root : Node) (old new : BTreeMap Place Node) (path : Place) (node : Option Node) (some : path ≢ []) where
  -- the same, from what a call says of equal values
  pub updated_by : (key : Place) (value : Option Node) → key ≡ path → value ≡ node → ((q : Place) → get path_cmp new q ≡ cond (is_at (path_cmp key) q) value (get path_cmp old q)) → map_of root new ≡ set_at (map_of root old) path node
  updated_by key value same_key same_value updates =
      updated root old new path node some (λ q. updates q ∙ ap (λ (k : Place). cond (is_at (path_cmp k) q) value (get path_cmp old q)) same_key ∙ ap (λ (v : Option Node). cond (is_at (path_cmp path) q) v (get path_cmp old q)) same_value)

module _ {T : Type 0} where
  nothing_in : (x : T) → ¬ (Contains [] x)
  nothing_in x (k, below, at) = omega arith

-- the synced map is the map now where nothing was touched
pub all_synced : (events : List Event) → (state_of events).touched ≡ [] → (state_of events).synced ≡ (state_of events).now
all_synced events none = λ i path. sym (untouched_since events path (λ has. nothing_in path (subst (λ l. Contains l path) none has))) i

-- ---- time

le_or_above : (a b : ℕ) → (a ≤ b) ⊎ (b < a)
le_or_above a b = elim (cases_Bool (leb a b)) [
  | inl within ↦ inl (leb-true a b within)
  | inr above ↦ inr (leb-false a b above)
]

-- no call, or one that changes nothing
pub elapses_none : (old new : List Event) → new ≡ old → Elapses (state_of old).moment (state_of new).moment (LeftSince old) (LeftSince new) (IsImage (state_of new))
elapses_none old new same = subst (λ es. Elapses (state_of old).moment (state_of es).moment (LeftSince old) (LeftSince es) (IsImage (state_of es))) (sym same) (record {
  later = omega arith;
  nothing_else = λ moment m earlier left. inl left;
  keeps = λ moment m earlier left. left;
})

pushed_else : (events : List Event) (event : Event) (moment : ℕ) (m : Map) → LeftSince (events ++ event ∷ []) moment m → LeftSince events moment m ⊎ IsImage (state_of (events ++ event ∷ [])) m
pushed_else events event moment m (k, later, within, image) = ⊎_elim
    (λ below. inl (k, later, below, subst (λ es. IsImage (state_of es) m) (take-append-le k events (event ∷ []) below) image))
    (λ above. inr (subst (λ es. IsImage (state_of es) m) (take_all k (events ++ event ∷ []) (omega (arith, above, length-append events (event ∷ [])))) image))
    (le_or_above k (length events))

pub elapses_push : (old new : List Event) (event : Event) → new ≡ old ++ event ∷ [] → Elapses (state_of old).moment (state_of new).moment (LeftSince old) (LeftSince new) (IsImage (state_of new))
elapses_push old new event same = subst (λ es. Elapses (state_of old).moment (state_of es).moment (LeftSince old) (LeftSince es) (IsImage (state_of es))) (sym same) (record {
  later = omega (arith, moment_of old, moment_of (old ++ event ∷ []), length-append old (event ∷ []));
  nothing_else = λ moment m earlier left. pushed_else old event moment m left;
  keeps = λ moment m earlier left.
      (left.0, left.1, omega (arith, left.2, length-append old (event ∷ [])), subst (λ es. IsImage (state_of es) m) (sym (take-append-le left.0 old (event ∷ []) left.2)) left.3);
})

-- ---- what stands is what was told to stand

abbrev pub Stands : List Event → BTreeMap Place Node → Type 0
Stands events nodes = (path : Place) → (state_of events).now path ≡ map_of Dir nodes path

module _ (old new : List Event) (a b : BTreeMap Place Node) where
  pub stands_same : new ≡ old → map_of Dir b ≡ map_of Dir a → ∥ Stands old a ∥₁ → ∥ Stands new b ∥₁
  stands_same same same_map had =
      ∥∥₁_map had (λ h path. ap (λ (es : List Event). (state_of es).now path) same ∙ h path ∙ ap (λ (m : Map). m path) (sym same_map))

  pub stands_set : (touch : Touch) → new ≡ old ++ Set touch ∷ [] → map_of Dir b ≡ set_at (map_of Dir a) touch.path touch.node → ∥ Stands old a ∥₁ → ∥ Stands new b ∥₁
  stands_set touch same same_map had =
      ∥∥₁_map had (λ h path.
      ap (λ (es : List Event). (state_of es).now path) same
      ∙ ap (λ (s : Told). s.now path) (state_of-push old (Set touch))
      ∙ ap (λ (n : Option Node). cond (path_eqb path touch.path) touch.node n) (h path)
      ∙ ap (λ (m : Map). m path) (sym same_map))

pub now_sync : (old new : List Event) → new ≡ old ++ Sync ∷ [] → (state_of new).now ≡ (state_of old).now
now_sync old new same = ap (λ (es : List Event). (state_of es).now) same ∙ ap (λ (s : Told). s.now) (state_of-push old Sync)

pub synced_sync : (old new : List Event) → new ≡ old ++ Sync ∷ [] → (state_of new).synced ≡ (state_of old).now
synced_sync old new same = ap (λ (es : List Event). (state_of es).synced) same ∙ ap (λ (s : Told). s.synced) (state_of-push old Sync)

pub touched_sync : (old new : List Event) → new ≡ old ++ Sync ∷ [] → (state_of new).touched ≡ []
touched_sync old new same = ap (λ (es : List Event). (state_of es).touched) same ∙ ap (λ (s : Told). s.touched) (state_of-push old Sync)

pub touched_set : (old new : List Event) (touch : Touch) → new ≡ old ++ Set touch ∷ [] → (state_of new).touched ≡ (state_of old).touched ++ touch.path ∷ []
touched_set old new touch same = ap (λ (es : List Event). (state_of es).touched) same ∙ ap (λ (s : Told). s.touched) (state_of-push old (Set touch))

pub stands_sync : (old new : List Event) (nodes : BTreeMap Place Node) → new ≡ old ++ Sync ∷ [] → ∥ Stands old nodes ∥₁ → ∥ Stands new nodes ∥₁
stands_sync old new nodes same had = ∥∥₁_map had (λ h path. ap (λ (m : Map). m path) (now_sync old new same) ∙ h path)

pub none_there : {T : Type 0} (xs : List T) → (length xs == 0) ≡ true → xs ≡ []
none_there [] test = refl
none_there (x ∷ xs) test = absurd (omega (arith, eqb-true (length (x ∷ xs)) 0 test))
