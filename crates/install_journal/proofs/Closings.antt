-- The gate is closed.
use Rattle.std.proofs.Common.{◌≡◌, ◌≢◌, ℕ, List, [], ◌∷◌, ◌++◌, Option, Some, None, Result, Ok, Err, OnErr, Contains, ⊎_elim, refl, sym, ◌∙◌, ap, subst, arith, append_assoc}
use Rattle.folder_core.specs.Folder.{Map, Told, IsFormed, CanSet}
use Rattle.folder_core.specs.Crash.{IsImage, Touches, Narrows, Elapses, LeavesOnly}
use Rattle.folder_core.specs.Step.{OnTold, Step}
use Rattle.folder_core.specs.declared.node.Node.{Node}
use Rattle.folder_core.specs.declared.node.Node.TheVariants.{File, Dir}
use Rattle.folder_core.proofs.Maps.{parent-push}
use Rattle.backup_store.specs.Held.{IsFileOf, gate_text, IsOpen as OpensGate}
use Rattle.backup_store.specs.Places.{gate_path}
use Rattle.install_journal.specs.Closing.{IsSynced, IsButGate, TouchesGate}
use Rattle.install_journal.proofs.Opens.{image_back}
use Rattle.install_journal.proofs.Runs.{on_told, at_told, step_both, step_then, step_from, Ran, start_at, one}

none_or_some : (o : Option Node) → ((x : Node) → o ≡ Some x → ⊥) → o ≡ None
none_or_some None h = refl
none_or_some (Some x) h = absurd (h x refl)

longer_some : (path : List (List ℕ)) (name : List ℕ) (rest : List (List ℕ)) → path ++ name ∷ rest ≢ []
longer_some [] name rest e = cc
longer_some (x ∷ path) name rest e = cc

not_dir : (m : Map) (path : List (List ℕ)) → m path ≡ None → ¬ (m path ≡ Some Dir)
not_dir m path none is = let no : ⊥ = cc in no

nothing_directly : (m : Map) (path : List (List ℕ)) (name : List ℕ) → IsFormed m → ¬ (m path ≡ Some Dir) → m (path ++ name ∷ []) ≡ None
nothing_directly m path name formed other = none_or_some (m (path ++ name ∷ [])) (λ stands is.
    other (ap m (sym (parent-push (path ++ name ∷ []) path name refl)) ∙ formed.parents (path ++ name ∷ []) stands (longer_some path name []) is))

-- nothing stands below what is no directory
pub nothing_below_other : (m : Map) (rest path : List (List ℕ)) (name : List ℕ) → IsFormed m → ¬ (m path ≡ Some Dir) → m (path ++ name ∷ rest) ≡ None
nothing_below_other m [] path name formed other = nothing_directly m path name formed other
nothing_below_other m (next ∷ rest) path name formed other =
    let here : m (path ++ name ∷ []) ≡ None = nothing_directly m path name formed other in
    ap m (sym (append_assoc path (name ∷ []) (next ∷ rest)))
    ∙ nothing_below_other m rest (path ++ name ∷ []) next formed (not_dir m (path ++ name ∷ []) here)

file_no_dir : (stands : Option Node) (bytes : List ℕ) → IsFileOf bytes stands → ¬ (stands ≡ Some Dir)
file_no_dir stands bytes file is = let e = file.1 in let no : ⊥ = cc in no

-- an open gate can be taken away
pub can_close : (m : Map) → IsFormed m → OpensGate m → CanSet m gate_path
can_close m formed opens = record {
  not_root = λ e. cc;
  parent = formed.parents gate_path (File opens.0 gate_text) (λ e. cc) opens.1;
  nothing_below = λ name rest. nothing_below_other m rest gate_path name formed (file_no_dir (m gate_path) gate_text opens);
}

pub on_err : {E : Type 0} (result : Result (Unit {0}) E) (P : Type 0) → P → OnErr result P
on_err (Ok done) P p = tt
on_err (Err e) P p = p

pub nothing_touched : (path : List (List ℕ)) (l : List (List (List ℕ))) → l ≡ [] → ¬ (Contains l path)
nothing_touched path l is (k, below, at) = let same = subst (λ (x : List (List (List ℕ))). Contains x path) is (k, below, at) in absurd (omega (arith, same.1))

pub touches_gate : (path : List (List ℕ)) (s t : Told) → path ≡ gate_path → IsSynced s → Touches path s t → TouchesGate s t
touches_gate path s t is synced touches = record {
  synced = touches.synced;
  touched = λ place at. ⊎_elim (λ had. absurd (nothing_touched place s.touched synced.settled had)) (λ here. here ∙ is) (touches.touched place at);
}

pub image_but_gate : (s t : Told) (m : Map) → IsSynced s → TouchesGate s t → IsImage t m → IsButGate s.now m
image_but_gate s t m synced touches image = record {
  formed = image.formed;
  elsewhere = λ place apart. image.untouched place (λ at. apart (touches.touched place at)) ∙ ap (λ (x : Map). x place) (touches.synced ∙ synced.synced);
}

image_synced : (s : Told) (m : Map) → IsSynced s → IsImage s m → IsButGate s.now m
image_synced s m synced image = record {
  formed = image.formed;
  elsewhere = λ place apart. image.untouched place (nothing_touched place s.touched synced.settled) ∙ ap (λ (x : Map). x place) synced.synced;
}

module _ {D : Type 0} (told : D → Option Told) (left_since : D → ℕ → Map → Type 0) (old : D) (synced : OnTold (told old) IsSynced)
    (only : OnTold (told old) (λ s. (m : Map) → left_since old s.moment m → IsImage s m)) where
  pub gate_touched : (new : D) (path : List (List ℕ)) → path ≡ gate_path → Step (told old) (told new) (Touches path) → Step (told old) (told new) TouchesGate
  gate_touched new path is touches = step_from (told old) (told new) IsSynced (Touches path) TouchesGate synced touches (λ s t. touches_gate path s t is)

  pub gate_touched_on : (mid new : D) (path : List (List ℕ)) → path ≡ gate_path → Step (told old) (told mid) (Touches path)
      → Step (told mid) (told new) (λ s t. t.synced ≡ s.synced) → Step (told mid) (told new) (λ s t. t.touched ≡ s.touched)
      → Step (told old) (told new) TouchesGate
  gate_touched_on mid new path is touches synced touched =
      step_then (told old) (told mid) (told new) TouchesGate (λ s t. (t.synced ≡ s.synced) × (t.touched ≡ s.touched)) TouchesGate
      (gate_touched mid path is touches) (step_both (told mid) (told new) (λ s t. t.synced ≡ s.synced) (λ s t. t.touched ≡ s.touched) synced touched)
      (λ s t u gate same. record {
        synced = same.0 ∙ gate.synced;
        touched = λ place at. gate.touched place (subst (λ (l : List (List (List ℕ))). Contains l place) same.1 at);
      })

  set_ran : (new : D) (path : List (List ℕ)) (s : Told) → path ≡ gate_path → told old ≡ Some s
      → Step (told old) (told new) (Touches path)
      → Step (told old) (told new) (λ s t. Elapses s.moment t.moment (left_since old) (left_since new) (IsImage t))
      → Ran told left_since old new (TouchesGate s) (IsButGate s.now)
  set_ran new path s is e touches time =
      let here : IsSynced s = at_told (told old) s IsSynced e synced in
      one told left_since old old new (λ t. t ≡ s) (TouchesGate s) (IsButGate s.now) (Touches path)
      (start_at told left_since old s (IsButGate s.now) only e (λ m. image_synced s m here))
      touches time
      (λ t u same touch. touches_gate path s u is here (subst (λ (x : Told). Touches path x u) same touch))
      (λ u m gate. image_but_gate s u m here gate)

  pub set_leaves : (new : D) (path : List (List ℕ)) → path ≡ gate_path
      → Step (told old) (told new) (Touches path)
      → Step (told old) (told new) (λ s t. Elapses s.moment t.moment (left_since old) (left_since new) (IsImage t))
      → OnTold (told old) (λ s. LeavesOnly told left_since old new (IsButGate s.now))
  set_leaves new path is touches time = on_told (told old) _ (λ s e. (set_ran new path s is e touches time).leaves)

  -- where no memory was found, the images are those before
  pub none_leaves : (new : D)
      → Step (told old) (told new) (λ s t. t.synced ≡ s.synced)
      → Step (told old) (told new) (λ s t. (t.now ≡ s.now) × (t.touched ≡ s.touched))
      → Step (told old) (told new) (λ s t. Elapses s.moment t.moment (left_since old) (left_since new) (IsImage t))
      → OnTold (told old) (λ s. LeavesOnly told left_since old new (IsImage s))
  none_leaves new synced_same same time = on_told (told old) _ (λ s e.
      (one told left_since old old new (λ t. t ≡ s) (λ t. (t.synced ≡ s.synced) × (t.touched ≡ s.touched)) (IsImage s) (λ t u. (u.synced ≡ t.synced) × ((u.now ≡ t.now) × (u.touched ≡ t.touched)))
      (start_at told left_since old s (IsImage s) only e (λ m image. image))
      (step_both (told old) (told new) (λ t u. u.synced ≡ t.synced) (λ t u. (u.now ≡ t.now) × (u.touched ≡ t.touched)) synced_same same)
      time
      (λ t u at call. (call.0 ∙ ap (λ (x : Told). x.synced) at, call.1.1 ∙ ap (λ (x : Told). x.touched) at))
      (λ u m at image. image_back s u m at.0 at.1 image)).leaves)

  pub sync_leaves : (mid new : D) (path : List (List ℕ)) → path ≡ gate_path
      → Step (told old) (told mid) (Touches path)
      → Step (told old) (told mid) (λ s t. Elapses s.moment t.moment (left_since old) (left_since mid) (IsImage t))
      → Step (told mid) (told new) Narrows
      → Step (told mid) (told new) (λ s t. Elapses s.moment t.moment (left_since mid) (left_since new) (IsImage t))
      → OnTold (told old) (λ s. LeavesOnly told left_since old new (IsButGate s.now))
  sync_leaves mid new path is touches time narrows later = on_told (told old) _ (λ s e.
      let here : IsSynced s = at_told (told old) s IsSynced e synced in
      (one told left_since old mid new (TouchesGate s) (λ t. (m : Map) → IsImage t m → IsButGate s.now m) (IsButGate s.now) Narrows
      (set_ran mid path s is e touches time)
      narrows later
      (λ t u gate narrow m image. image_but_gate s t m here gate (narrow m image))
      (λ u m each. each m)).leaves)
