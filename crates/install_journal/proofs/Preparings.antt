-- What stands before the gate is opened.
use Rattle.std.proofs.Common.{◌≡◌, ◌≢◌, ℕ, List, [], Option, Some, None, Result, Ok, Err, OnOk, inl, inr, refl, sym, ◌∙◌, ap, subst}
use Rattle.folder_core.specs.Folder.{Map, Told, CanSet, SameBut, set_at}
use Rattle.folder_core.specs.Crash.{IsImage, Touches, Elapses, LeavesOnly}
use Rattle.folder_core.specs.Path.{parent}
use Rattle.folder_core.specs.Step.{OnTold, Step}
use Rattle.folder_core.specs.declared.node.Node.{Node}
use Rattle.folder_core.specs.declared.node.Node.TheVariants.{Dir}
use Rattle.folder_core.proofs.Maps.{changed_here}
use Rattle.backup_store.specs.Held.{IsFileOf, gate_text, IsOpen as OpensGate}
use Rattle.backup_store.specs.Places.{gate_path}
use Rattle.install_journal.specs.Fixed.{IsFixed}
use Rattle.install_journal.specs.Looks.{Looks, OnlyLooks}
use Rattle.install_journal.specs.Preparing.{IsLeft, IsPrepared, Moves, IsClosedOld, LeavesClosed}
use Rattle.install_journal.specs.Restored.{RestoresTo}
use Rattle.install_journal.proofs.Closings.{nothing_below_other}
use Rattle.install_journal.proofs.Counting.{closed_restores, restored_same}
use Rattle.install_journal.proofs.Fixing.{fixed_image, fixed_touches, fixed_same}
use Rattle.install_journal.proofs.Runs.{on_told, on_each, on_both, at_told, step_on, step_both, step_each, step_then, start_at, one, more}

pub moves_prepared : (s t : Told) → IsPrepared s → Moves s t → IsPrepared t
moves_prepared s t prepared moves = record {
  rest = λ path left. subst (IsFixed t path) (sym (moves.now path left)) (moves.fixed path left (s.now path) (prepared.rest path left));
  closed = λ opens. prepared.closed (subst (IsFileOf gate_text) (moves.now gate_path (inr (inl refl))) opens);
}

pub moves_then : (s t u : Told) → Moves s t → Moves t u → Moves s u
moves_then s t u first second = record {
  fixed = λ path left stands fixed. second.fixed path left stands (first.fixed path left stands fixed);
  now = λ path left. second.now path left ∙ first.now path left;
}

pub moves_looks : (s t : Told) (past since : ℕ → Map → Type 0) → Looks past since s t → Moves s t
moves_looks s t past since looks = record {
  fixed = λ path left stands fixed. fixed_same s t path stands looks.synced looks.touched fixed;
  now = λ path left. ap (λ (m : Map). m path) looks.now;
}

pub moves_set : (s t : Told) (path : List (List ℕ)) → ¬ (IsLeft path) → Touches path s t → SameBut path s.now t.now → Moves s t
moves_set s t path inside touches but = record {
  fixed = λ place left stands fixed. fixed_touches s t path place stands touches (λ e. inside (subst IsLeft e left)) fixed;
  now = λ place left. but place (λ e. inside (subst IsLeft e left));
}

pub prepared_closed : (s t : Told) (m : Map) → IsPrepared s → Moves s t → IsImage t m → IsClosedOld s.now m
prepared_closed s t m prepared moves image =
    let at : (path : List (List ℕ)) → IsLeft path → m path ≡ s.now path = λ path left. fixed_image t m path (s.now path) (moves.fixed path left (s.now path) (prepared.rest path left)) image in
    let shut : ¬ (OpensGate m) = λ opens. prepared.closed (subst (IsFileOf gate_text) (at gate_path (inr (inl refl))) opens) in (
      record {
        restores = closed_restores m s.now shut (λ path outside. sym (at path (inl outside)));
        foreign = λ path foreign. at path (inr (inr foreign));
      },
      shut,
    )

pub moves_itself : (s : Told) → Moves s s
moves_itself s = record { fixed = λ path left stands fixed. fixed; now = λ path left. refl }

-- what restores to the installation after some moves restores to that before them
pub moved_back : (s t : Told) (m : Map) → Moves s t → RestoresTo t.now m → RestoresTo s.now m
moved_back s t m moves restores = record {
  restores = restored_same m t.now s.now (λ path outside. sym (moves.now path (inl outside))) restores.restores;
  foreign = λ path foreign. restores.foreign path foreign ∙ moves.now path (inr (inr foreign));
}

closed_back : (s t : Told) (m : Map) → Moves s t → IsClosedOld t.now m → IsClosedOld s.now m
closed_back s t m moves closed = (moved_back s t m moves closed.0, closed.1)

step_at : (a b : Option Told) (s : Told) (R : Told → Told → Type 0) → a ≡ Some s → Step a b R → OnTold b (R s)
step_at None b s R is step = absurd (let f : ⊥ = cc in f)
step_at (Some t) None s R is step = tt
step_at (Some t) (Some u) s R is step = subst (λ (x : Told). R x u) (let e : t ≡ s = cc in e) step

made_at : (a b : Option Told) (path : List (List ℕ)) → Step a b (λ s t. t.now ≡ set_at s.now path (Some Dir)) → OnTold b (λ t. t.now path ≡ Some Dir)
made_at a None path made = tt
made_at None (Some t) path made = absurd made
made_at (Some s) (Some t) path made = ap (λ (m : Map). m path) made ∙ changed_here s.now path (Some Dir) path refl

module _ {D : Type 0} (told : D → Option Told) (left_since : D → ℕ → Map → Type 0) where
  pub still_prepared : (old new : D) → OnTold (told old) IsPrepared → Step (told old) (told new) Moves → OnTold (told new) IsPrepared
  still_prepared old new prepared moves = step_on (told old) (told new) IsPrepared IsPrepared Moves prepared moves (λ s t is move. moves_prepared s t is move)

  pub both_move : (old mid new : D) → Step (told old) (told mid) Moves → Step (told mid) (told new) Moves → Step (told old) (told new) Moves
  both_move old mid new first second = step_then (told old) (told mid) (told new) Moves Moves Moves first second (λ s t u p q. moves_then s t u p q)

  pub looks_move : (old new : D) → OnlyLooks told left_since old new → Step (told old) (told new) Moves
  looks_move old new looks = step_each (told old) (told new) (Looks (left_since old) (left_since new)) Moves (λ s t look. moves_looks s t (left_since old) (left_since new) look) looks

  pub set_moves : (old new : D) (path : List (List ℕ)) → ¬ (IsLeft path) → Step (told old) (told new) (Touches path) → Step (told old) (told new) (λ s t. SameBut path s.now t.now) → Step (told old) (told new) Moves
  set_moves old new path inside touches but = step_each (told old) (told new) (λ s t. Touches path s t × SameBut path s.now t.now) Moves (λ s t both. moves_set s t path inside both.0 both.1)
      (step_both (told old) (told new) (Touches path) (λ s t. SameBut path s.now t.now) touches but)

  -- before the first call
  pub none_closed : (old : D) → OnTold (told old) IsPrepared → OnTold (told old) (λ s. (m : Map) → left_since old s.moment m → IsImage s m) → LeavesClosed told left_since old old
  none_closed old prepared only = on_told (told old) _ (λ s e.
      let is : IsPrepared s = at_told (told old) s IsPrepared e prepared in
      (start_at told left_since old s (IsClosedOld s.now) only e (λ m image. prepared_closed s s m is (moves_itself s) image)).leaves)

  -- one call of the folder
  pub one_closed : (old new : D) → OnTold (told old) IsPrepared → OnTold (told old) (λ s. (m : Map) → left_since old s.moment m → IsImage s m)
      → Step (told old) (told new) Moves
      → Step (told old) (told new) (λ s t. Elapses s.moment t.moment (left_since old) (left_since new) (IsImage t))
      → LeavesClosed told left_since old new
  one_closed old new prepared only moves time = on_told (told old) _ (λ s e.
      let is : IsPrepared s = at_told (told old) s IsPrepared e prepared in
      (one told left_since old old new (λ t. t ≡ s) (Moves s) (IsClosedOld s.now) Moves
      (start_at told left_since old s (IsClosedOld s.now) only e (λ m image. prepared_closed s s m is (moves_itself s) image))
      moves time
      (λ t u same move. subst (λ (x : Told). Moves x u) same move)
      (λ u m move image. prepared_closed s u m is move image)).leaves)

  -- one run after another
  pub closed_then : (old mid new : D) → Step (told old) (told mid) Moves → LeavesClosed told left_since old mid → (C : Told → Told → Type 0) → Step (told mid) (told new) C → LeavesClosed told left_since mid new → LeavesClosed told left_since old new
  closed_then old mid new moves first C call second = on_told (told old) _ (λ s e.
      (more told left_since old mid new (Moves s) (λ t. Unit {0}) (IsClosedOld s.now) C (λ t. IsClosedOld t.now)
      (record { holds = step_at (told old) (told mid) s Moves e moves; leaves = at_told (told old) s (λ t. LeavesOnly told left_since old mid (IsClosedOld t.now)) e first })
      call second (λ t u move did. tt)
      (λ t m move closed. closed_back s t m move closed)).leaves)

  pub can_make : (old : D) (path : List (List ℕ)) (found : Option Node) → path ≢ [] → (found ≡ Some Dir → ⊥) → OnTold (told old) (λ s. IsImage s s.now)
      → OnTold (told old) (λ s. s.now (parent path) ≡ Some Dir) → OnTold (told old) (λ s. s.now path ≡ found) → OnTold (told old) (λ s. CanSet s.now path)
  can_make old path found some other image above at = on_each (told old) (λ s. (IsImage s s.now × (s.now (parent path) ≡ Some Dir)) × (s.now path ≡ found)) (λ s. CanSet s.now path)
      (λ s all. record {
        not_root = some;
        parent = all.0.1;
        nothing_below = λ name rest. nothing_below_other s.now rest path name all.0.0.formed (λ dir. other (sym all.1 ∙ dir));
      })
      (on_both (told old) (λ s. IsImage s s.now × (s.now (parent path) ≡ Some Dir)) (λ s. s.now path ≡ found)
      (on_both (told old) (λ s. IsImage s s.now) (λ s. s.now (parent path) ≡ Some Dir) image above) at)

  pub looked_on : (old new : D) (P : Map → Type 0) → OnlyLooks told left_since old new → OnTold (told old) (λ s. P s.now) → OnTold (told new) (λ s. P s.now)
  looked_on old new P looks holds = step_on (told old) (told new) (λ s. P s.now) (λ t. P t.now) (Looks (left_since old) (left_since new)) holds looks (λ s t is look. subst P (sym look.now) is)

  pub but_then : (old mid new : D) (path : List (List ℕ)) → Step (told old) (told mid) (λ s t. t.now ≡ s.now) → Step (told mid) (told new) (λ s t. SameBut path s.now t.now) → Step (told old) (told new) (λ s t. SameBut path s.now t.now)
  but_then old mid new path same but = step_then (told old) (told mid) (told new) (λ s t. t.now ≡ s.now) (λ s t. SameBut path s.now t.now) (λ s t. SameBut path s.now t.now) same but
      (λ s t u now apart place away. apart place away ∙ ap (λ (m : Map). m place) now)

  pub made_by : {E : Type 0} (old new : D) (path : List (List ℕ)) (result : Result (Unit {0}) E) → OnOk result (Step (told old) (told new) (λ s t. t.now ≡ set_at s.now path (Some Dir))) → OnOk result (OnTold (told new) (λ t. t.now path ≡ Some Dir))
  made_by old new path (Err e) made = tt
  made_by old new path (Ok done) made = made_at (told old) (told new) path made
