-- A change is abandoned.
use Rattle.std.proofs.Common.{◌≡◌, ℕ, ◌≤◌, [], Option, Some, None, Result, Ok, Err, OnOk, OnErr, ⊎_elim, sym, ◌∙◌, ap, subst}
use Rattle.std.specs.Bool.{⊤}
use Rattle.folder_core.specs.Folder.{Map, Told}
use Rattle.folder_core.specs.Crash.{IsImage, Elapses, LeavesOnly}
use Rattle.folder_core.specs.Step.{OnTold, Step}
use Rattle.folder_core.proofs.Moments.{images_now, holds_now}
use Rattle.backup_store.specs.Held.{gate_text, IsOpen as OpensGate}
use Rattle.backup_store.specs.Places.{gate_path}
use Rattle.install_journal.specs.Abandoning.{SettlesRestored}
use Rattle.install_journal.specs.Closing.{IsSynced, IsButGate, IsClosed, TouchesGate, MayBeOpen}
use Rattle.install_journal.specs.Kept.{AreKept, Undoes}
use Rattle.install_journal.specs.Open.{IsOpen}
use Rattle.install_journal.specs.Overlay.{SameOutside}
use Rattle.install_journal.specs.Restored.{RestoresLike, RestoresSame, IsSettled}
use Rattle.install_journal.specs.declared.change.Change.{Change}
use Rattle.install_journal.proofs.Counting.{restored_one, restored_same, restores_alike, is_file_or_not, same_outside_then, same_outside_sym}
use Rattle.install_journal.proofs.Finishings.{but_gate_old, but_gate_new, but_gate_foreign, settled_closed, mid_ran, mid_opens, mid_synced, synced_at, Synced}
use Rattle.install_journal.proofs.Keeps.{kept_restores}
use Rattle.install_journal.proofs.Runs.{on_told, on_each, on_both, at_told, step_on, step_then, step_from, more}

settled_same : (a b : Map) (t : Told) → SameOutside a b → IsSettled a t → IsSettled b t
settled_same a b t same settled = record {
  now = same_outside_then t.now a b settled.now same;
  restores = λ m image. restored_same m a b (same_outside_sym a b same) (settled.restores m image);
  closed = settled.closed;
}

-- where all entries are put back, what stands now is the old installation
now_old : (change : Change) (s : Told) (began : IsOpen change s) → change.left ≡ 0 → SameOutside s.now began.old
now_old change s began none = subst (λ (n : ℕ). Undoes began.entries n s.now began.old) none began.undoes

settles : (change : Change) (s t u : Told) → change.left ≡ 0 → IsOpen change s → IsImage s s.now → Synced s t → IsClosed t u → SettlesRestored s u
settles change s t u none began image call closed restored is =
    let old : SameOutside s.now restored = λ path outside.
    now_old change s began none path outside ∙ restored_one s.now began.old restored (kept_restores began.entries began.behind began.old s s.now began.kept image) is path outside in
    settled_same s.now restored u old (settled_closed s t u call.0 (record { synced = call.1.0 ∙ sym call.0; settled = call.1.1 }) closed)

but_old : (change : Change) (s : Told) (m : Map) → change.left ≡ 0 → IsOpen change s → IsImage s s.now → IsButGate s.now m → RestoresLike s.now m
but_old change s m none began image but =
    restores_alike s.now m began.old (kept_restores began.entries began.behind began.old s s.now began.kept image)
    (⊎_elim
    (λ opens. but_gate_old began.entries began.behind began.old s s.now m began.kept image but opens)
    (λ closed. restored_same m s.now began.old (same_outside_sym s.now began.old (now_old change s began none)) (but_gate_new s.now m but closed))
    (is_file_or_not gate_text (m gate_path)))
    (but_gate_foreign s.now m but)

-- the synced map is an image, and has an open gate
synced_may_be : (t u : Told) → IsSynced t → IsImage t t.now → OpensGate t.now → TouchesGate t u → MayBeOpen u
synced_may_be t u synced image opens touches =
    let same : u.synced ≡ t.now = touches.synced ∙ synced.synced in
    (t.now, (record { formed = image.formed; untouched = λ path none. ap (λ (m : Map). m path) (sym same) }, opens))

pub on_ok_each : {E : Type 0} (result : Result (Unit {0}) E) (P Q : Type 0) → (P → Q) → OnOk result P → OnOk result Q
on_ok_each (Ok done) P Q f p = f p
on_ok_each (Err e) P Q f p = tt

pub on_err_each : {E : Type 0} (result : Result (Unit {0}) E) (P Q : Type 0) → (P → Q) → OnErr result P → OnErr result Q
on_err_each (Ok done) P Q f p = tt
on_err_each (Err e) P Q f p = f p

module _ {D : Type 0} (told : D → Option Told) (left_since : D → ℕ → Map → Type 0) (change : Change) (old : D)
    (began : OnTold (told old) (IsOpen change))
    (image : OnTold (told old) (λ s. IsImage s s.now))
    (only : OnTold (told old) (λ s. (m : Map) → left_since old s.moment m → IsImage s m))
    (none : change.left ≡ 0)
    (mid : D)
    (stays : Step (told old) (told mid) (λ s t. t.now ≡ s.now))
    (synced : Step (told old) (told mid) (λ s t. t.synced ≡ s.now))
    (settled : Step (told old) (told mid) (λ s t. t.touched ≡ []))
    (time : Step (told old) (told mid) (λ s t. Elapses s.moment t.moment (left_since old) (left_since mid) (IsImage t)))
    (new : D) where
  pub end_settles : Step (told mid) (told new) IsClosed → Step (told old) (told new) SettlesRestored
  end_settles closed = step_from (told old) (told new) (λ s. IsOpen change s × IsImage s s.now) (λ s u. (t : Told) × (Synced s t × IsClosed t u)) SettlesRestored
      (on_both (told old) (IsOpen change) (λ s. IsImage s s.now) began image)
      (step_then (told old) (told mid) (told new) Synced IsClosed (λ s u. (t : Told) × (Synced s t × IsClosed t u)) (synced_at (told old) (told mid) stays synced settled) closed (λ s t u p q. (t, (p, q))))
      (λ s u here run. settles change s run.0 u none here.0 here.1 run.1.0 run.1.1)

  pub end_old : (C : Told → Told → Type 0) → Step (told mid) (told new) C → OnTold (told mid) (λ t. LeavesOnly told left_since mid new (IsButGate t.now)) → RestoresSame told left_since old new
  end_old C call leaves = on_told (told old) _ (λ s e.
      let here : IsOpen change s = at_told (told old) s (IsOpen change) e began in
      let now : IsImage s s.now = at_told (told old) s (λ t. IsImage t t.now) e image in
      (more told left_since old mid new (λ t. AreKept here.entries here.behind here.old t × (t.now ≡ s.now)) (λ t. Unit {0}) (RestoresLike s.now) C (λ t. IsButGate t.now)
      (mid_ran told left_since change old began image only mid stays synced settled time s e here now)
      call leaves (λ t u same so. tt)
      (λ t m same but. but_old change s m none here now (subst (λ (x : Map). IsButGate x m) same.1 but))).leaves)

  pub end_tells : (C : Told → Told → Type 0) → Step (told mid) (told new) C → Step (told old) (told new) (λ s t. ⊤)
  end_tells C call = step_then (told old) (told mid) (told new) (λ s t. t.now ≡ s.now) C (λ s t. ⊤) stays call (λ s t u p q. tt)

  pub end_may_be : OnTold (told mid) (λ t. IsImage t t.now) → Step (told mid) (told new) TouchesGate → OnTold (told new) MayBeOpen
  end_may_be now touches = step_on (told mid) (told new) (λ t. (IsSynced t × IsImage t t.now) × OpensGate t.now) MayBeOpen TouchesGate
      (on_both (told mid) (λ t. IsSynced t × IsImage t t.now) (λ t. OpensGate t.now)
      (on_both (told mid) IsSynced (λ t. IsImage t t.now) (mid_synced told left_since change old began image only mid stays synced settled time) now)
      (mid_opens told left_since change old began image only mid stays synced settled time now))
      touches (λ t u here touch. synced_may_be t u here.0.0 here.0.1 here.1 touch)

module _ {D : Type 0} (told : D → Option Told) (left_since : D → ℕ → Map → Type 0) where
  -- what stands at the end of a run restores to what the map before does
  pub like_now : (old mid : D)
      → OnTold (told mid) (λ t. IsImage t t.now)
      → OnTold (told mid) (λ t. (moment : ℕ) (m : Map) → moment ≤ t.moment → IsImage t m → left_since mid moment m)
      → RestoresSame told left_since old mid
      → Step (told old) (told mid) (λ s t. ⊤)
      → Step (told old) (told mid) (λ s t. RestoresLike s.now t.now)
  like_now old mid image counts restores tells = like_at (told old) (told mid) tells
      (on_each (told old) _ (λ s. OnTold (told mid) (λ t. RestoresLike s.now t.now))
      (λ s leaves. holds_now (told mid) (RestoresLike s.now) image (images_now told left_since old mid (RestoresLike s.now) counts leaves)) restores)
    where
      like_at : (a b : Option Told) → Step a b (λ s t. ⊤) → OnTold a (λ s. OnTold b (λ t. RestoresLike s.now t.now)) → Step a b (λ s t. RestoresLike s.now t.now)
      like_at None None tells each = tt
      like_at None (Some t) tells each = absurd tells
      like_at (Some s) None tells each = absurd tells
      like_at (Some s) (Some t) tells each = each

  pub settles_then : (old mid new : D) → Step (told old) (told mid) (λ s t. RestoresLike s.now t.now) → Step (told mid) (told new) SettlesRestored → Step (told old) (told new) SettlesRestored
  settles_then old mid new like settled = step_then (told old) (told mid) (told new) (λ s t. RestoresLike s.now t.now) SettlesRestored SettlesRestored like settled
      (λ s t u same settle restored is. settle restored (same.restores restored is))
