-- A change is finished.
use Rattle.std.proofs.Common.{◌≡◌, ◌≢◌, ℕ, ◌+◌, List, [], Option, Some, None, inl, inr, refl, sym, ◌∙◌, ap, subst}
use Rattle.folder_core.specs.Folder.{Map, Told, SameBut}
use Rattle.folder_core.specs.Crash.{IsImage, Elapses, LeavesOnly}
use Rattle.folder_core.specs.Step.{OnTold, Step}
use Rattle.folder_core.proofs.Moments.{weaker}
use Rattle.folder_core.proofs.Maps.{changed_here, changed_other}
use Rattle.backup_store.specs.Held.{gate_text, IsOpen as OpensGate}
use Rattle.backup_store.specs.Places.{IsOutside, gate_path, entry_path, mark_path}
use Rattle.backup_store.specs.declared.entry.Entry.{Entry}
use Rattle.install_journal.specs.Closing.{IsSynced, IsButGate, IsClosed, HasNoGate, OldOrNew}
use Rattle.install_journal.specs.Kept.{AreKept}
use Rattle.install_journal.specs.Open.{IsOpen}
use Rattle.install_journal.specs.Overlay.{SameOutside}
use Rattle.install_journal.specs.Restored.{IsRestored, RestoresLike, RestoresSame, IsSettled}
use Rattle.install_journal.specs.Tidy.{SameForeign}
use Rattle.install_journal.specs.declared.change.Change.{Change}
use Rattle.install_journal.proofs.Closings.{nothing_touched}
use Rattle.install_journal.proofs.Counting.{closed_restores, is_file_or_not, restores_alike}
use Rattle.install_journal.proofs.Fixing.{fixed_synced}
use Rattle.install_journal.proofs.Keeps.{kept_shows, kept_restores, kept_alike, kept_goes_on, shows_kept, no_file}
use Rattle.install_journal.proofs.Opens.{open_restores, open_stays}
use Rattle.install_journal.proofs.Runs.{on_told, on_each, on_both, at_told, step_on, step_then, Ran, start_at, one, more, weaken}

-- a map that differs from an image at the gate alone, where the gate is open
pub but_gate_old : (entries : List Entry) (behind : ℕ) (old : Map) (s : Told) (n m : Map) → AreKept entries behind old s → IsImage s n → IsButGate n m → OpensGate m → IsRestored m old
but_gate_old entries behind old s n m kept image but opens =
    let was = kept_shows entries behind old s n kept image in
    let place_same : (path : List (List ℕ)) → path ≢ gate_path → m path ≡ n path = but.elsewhere in
    shows_kept entries behind old s n m kept image
    (record {
      formed = but.formed;
      gate = opens;
      marks = λ place below. let file = was.marks place below in (file.0, place_same (mark_path (place + 1)) (λ e. cc) ∙ file.1);
      texts = λ place below. let text = was.texts place below in record { entry = text.entry; file = (text.file.0, place_same (entry_path (place + 1)) (λ e. cc) ∙ text.file.1) };
      rest = λ path outside none. place_same path (λ e. outside _ e) ∙ was.rest path outside none;
      later = λ number above small. place_same (mark_path number) (λ e. cc) ∙ was.later number above small;
    })
    (λ number. place_same (mark_path number) (λ e. cc)) (λ number. place_same (entry_path number) (λ e. cc))

-- and where it is closed
pub but_gate_new : (n m : Map) → IsButGate n m → ¬ (OpensGate m) → IsRestored m n
but_gate_new n m but closed = closed_restores m n closed (λ path outside. sym (but.elsewhere path (λ e. outside _ e)))

pub but_gate_foreign : (n m : Map) → IsButGate n m → SameForeign n m
but_gate_foreign n m but path foreign = but.elsewhere path foreign.not_gate

pub but_gate : (change : Change) (s : Told) (m : Map) → IsOpen change s → IsImage s s.now → IsButGate s.now m → OldOrNew s.now m
but_gate change s m began image but = elim (is_file_or_not gate_text (m gate_path)) [
  | inl opens ↦ inl (restores_alike s.now m began.old (kept_restores began.entries began.behind began.old s s.now began.kept image) (but_gate_old began.entries began.behind began.old s s.now m began.kept image but opens) (but_gate_foreign s.now m but))
  | inr closed ↦ inr (record { restores = but_gate_new s.now m but closed; foreign = but_gate_foreign s.now m but })
]

-- what a sync leaves of a change
pub kept_synced : (change : Change) (s t : Told) (began : IsOpen change s) → IsImage s s.now → t.synced ≡ s.now → t.touched ≡ [] → AreKept began.entries began.behind began.old t
kept_synced change s t began image synced settled =
    kept_goes_on began.entries began.behind began.old s t began.kept (λ path stands none. fixed_synced s t path stands image synced settled)

pub open_synced : (change : Change) (s t : Told) → IsOpen change s → IsImage s s.now → t.now ≡ s.now → t.synced ≡ s.now → t.touched ≡ [] → IsOpen change t
open_synced change s t began image now synced settled = open_stays change s t began now (λ path stands. fixed_synced s t path stands image synced settled)

pub settled_closed : (s t u : Told) → t.now ≡ s.now → IsSynced t → IsClosed t u → IsSettled s.now u
settled_closed s t u now synced closed =
    let same : (path : List (List ℕ)) → IsOutside path → u.now path ≡ s.now path = λ path outside.
    ap (λ (x : Map). x path) closed.now ∙ changed_other t.now gate_path None path (λ e. outside _ e) ∙ ap (λ (x : Map). x path) now in
    let image_now : (m : Map) → IsImage u m → (path : List (List ℕ)) → m path ≡ u.now path = λ m image path.
    image.untouched path (nothing_touched path u.touched closed.synced.settled) ∙ ap (λ (x : Map). x path) closed.synced.synced in
    let shut : (m : Map) → IsImage u m → ¬ (OpensGate m) = λ m image.
    no_file gate_text (m gate_path) (image_now m image gate_path ∙ ap (λ (x : Map). x gate_path) closed.now ∙ changed_here t.now gate_path None gate_path refl) in
    record {
      now = same;
      restores = λ m image. closed_restores m s.now (shut m image) (λ path outside. sym (image_now m image path ∙ same path outside));
      closed = shut;
    }

-- the gate is gone once it is closed
pub closed_gone : (a b : Option Told) → Step a b IsClosed → OnTold b HasNoGate
closed_gone None None closed = tt
closed_gone None (Some t) closed = absurd closed
closed_gone (Some s) None closed = tt
closed_gone (Some s) (Some t) closed = record {
  gone = ap (λ (m : Map). m gate_path) closed.now ∙ changed_here s.now gate_path None gate_path refl;
  synced = closed.synced;
}

-- where closing found no memory, all is synced
pub none_synced : (a b : Option Told) → Step a b (λ s t. (t.now ≡ s.now) × IsSynced t) → OnTold b IsSynced
none_synced None None same = tt
none_synced None (Some t) same = absurd same
none_synced (Some s) None same = tt
none_synced (Some s) (Some t) same = same.1

abbrev pub Synced : Told → Told → Type 0
Synced s t = (t.now ≡ s.now) × ((t.synced ≡ s.now) × (t.touched ≡ []))

pub synced_at : (a b : Option Told) → Step a b (λ s t. t.now ≡ s.now) → Step a b (λ s t. t.synced ≡ s.now) → Step a b (λ s t. t.touched ≡ []) → Step a b Synced
synced_at None None now synced settled = tt
synced_at None (Some t) now synced settled = absurd now
synced_at (Some s) None now synced settled = absurd now
synced_at (Some s) (Some t) now synced settled = (now, (synced, settled))

module _ {D : Type 0} (told : D → Option Told) (left_since : D → ℕ → Map → Type 0) (change : Change) (old : D)
    (began : OnTold (told old) (IsOpen change))
    (image : OnTold (told old) (λ s. IsImage s s.now))
    (only : OnTold (told old) (λ s. (m : Map) → left_since old s.moment m → IsImage s m)) where
  -- before the first call
  pub same_restores : RestoresSame told left_since old old
  same_restores = on_told (told old) _ (λ s e.
      let here : IsOpen change s = at_told (told old) s (IsOpen change) e began in
      let now : IsImage s s.now = at_told (told old) s (λ t. IsImage t t.now) e image in
      (start_at told left_since old s (RestoresLike s.now) only e (λ m. open_restores change s m here now)).leaves)

  -- what leaves the old installation leaves the old or the new one
  pub old_or_new : (new : D) → RestoresSame told left_since old new → OnTold (told old) (λ s. LeavesOnly told left_since old new (OldOrNew s.now))
  old_or_new new restores = on_each (told old) _ _ (λ s leaves. weaker told left_since old new (RestoresLike s.now) (OldOrNew s.now) (λ m like. inl like) leaves) restores

  module _ (mid : D)
      (stays : Step (told old) (told mid) (λ s t. t.now ≡ s.now))
      (synced : Step (told old) (told mid) (λ s t. t.synced ≡ s.now))
      (settled : Step (told old) (told mid) (λ s t. t.touched ≡ []))
      (time : Step (told old) (told mid) (λ s t. Elapses s.moment t.moment (left_since old) (left_since mid) (IsImage t))) where
    pub mid_open : OnTold (told mid) (IsOpen change)
    mid_open = step_on (told old) (told mid) (λ s. IsOpen change s × IsImage s s.now) (IsOpen change) Synced
        (on_both (told old) (IsOpen change) (λ s. IsImage s s.now) began image)
        (synced_at (told old) (told mid) stays synced settled)
        (λ s t here call. open_synced change s t here.0 here.1 call.0 call.1.0 call.1.1)

    pub mid_synced : OnTold (told mid) IsSynced
    mid_synced = step_on (told old) (told mid) (λ s. IsImage s s.now) IsSynced Synced image
        (synced_at (told old) (told mid) stays synced settled)
        (λ s t here call. record { synced = call.1.0 ∙ sym call.0; settled = call.1.1 })

    pub mid_opens : OnTold (told mid) (λ t. IsImage t t.now) → OnTold (told mid) (λ t. OpensGate t.now)
    mid_opens now = on_each (told mid) (λ t. IsOpen change t × IsImage t t.now) (λ t. OpensGate t.now)
        (λ t both. (kept_shows both.0.entries both.0.behind both.0.old t t.now both.0.kept both.1).gate)
        (on_both (told mid) (IsOpen change) (λ t. IsImage t t.now) mid_open now)

    -- the sync leaves the old installation
    pub mid_ran : (s : Told) (e : told old ≡ Some s) (here : IsOpen change s) → IsImage s s.now
        → Ran told left_since old mid (λ t. AreKept here.entries here.behind here.old t × (t.now ≡ s.now)) (RestoresLike s.now)
    mid_ran s e here now = one told left_since old old mid (λ t. t ≡ s) (λ t. AreKept here.entries here.behind here.old t × (t.now ≡ s.now)) (RestoresLike s.now) Synced
        (start_at told left_since old s (RestoresLike s.now) only e (λ m. open_restores change s m here now))
        (synced_at (told old) (told mid) stays synced settled)
        time
        (λ t u same call. (kept_synced change s u here now (call.1.0 ∙ ap (λ (x : Told). x.now) same) call.1.1, call.0 ∙ ap (λ (x : Told). x.now) same))
        (λ t m kept img. kept_alike here.entries here.behind here.entries here.behind here.old s t s.now m here.kept now kept.0 img)

    module _ (new : D) where
      -- where closing found no memory
      pub end_restores : (C : Told → Told → Type 0) → Step (told mid) (told new) C → OnTold (told mid) (λ t. LeavesOnly told left_since mid new (IsImage t)) → RestoresSame told left_since old new
      end_restores C call leaves = on_told (told old) _ (λ s e.
          let here : IsOpen change s = at_told (told old) s (IsOpen change) e began in
          let now : IsImage s s.now = at_told (told old) s (λ t. IsImage t t.now) e image in
          (more told left_since old mid new (λ t. AreKept here.entries here.behind here.old t × (t.now ≡ s.now)) (λ t. Unit {0}) (RestoresLike s.now) C IsImage
          (mid_ran s e here now) call leaves (λ t u kept same. tt)
          (λ t m kept img. kept_alike here.entries here.behind here.entries here.behind here.old s t s.now m here.kept now kept.0 img)).leaves)

      -- closing leaves the old or the new installation
      pub end_leaves : (C : Told → Told → Type 0) → Step (told mid) (told new) C → OnTold (told mid) (λ t. LeavesOnly told left_since mid new (IsButGate t.now)) → OnTold (told old) (λ s. LeavesOnly told left_since old new (OldOrNew s.now))
      end_leaves C call leaves = on_told (told old) _ (λ s e.
          let here : IsOpen change s = at_told (told old) s (IsOpen change) e began in
          let now : IsImage s s.now = at_told (told old) s (λ t. IsImage t t.now) e image in
          (more told left_since old mid new (λ t. t.now ≡ s.now) (λ t. Unit {0}) (OldOrNew s.now) C (λ t. IsButGate t.now)
          (weaken told left_since old mid (λ t. AreKept here.entries here.behind here.old t × (t.now ≡ s.now)) (λ t. t.now ≡ s.now) (RestoresLike s.now) (OldOrNew s.now) (λ t kept. kept.1) (λ m like. inl like) (mid_ran s e here now))
          call leaves (λ t u same so. tt)
          (λ t m same but. but_gate change s m here now (subst (λ (x : Map). IsButGate x m) same but))).leaves)

      -- closing found no memory, and the change is still open
      pub end_open : Step (told mid) (told new) (λ s t. (t.now ≡ s.now) × IsSynced t) → OnTold (told mid) (λ t. IsImage t t.now) → OnTold (told new) (IsOpen change)
      end_open call now = step_on (told mid) (told new) (λ t. (IsOpen change t × IsImage t t.now) × IsSynced t) (IsOpen change) (λ s t. (t.now ≡ s.now) × IsSynced t)
          (on_both (told mid) (λ t. IsOpen change t × IsImage t t.now) IsSynced (on_both (told mid) (IsOpen change) (λ t. IsImage t t.now) mid_open now) mid_synced)
          call
          (λ t u here same. open_synced change t u here.0.0 here.0.1 same.0 (same.1.synced ∙ same.0) same.1.settled)

      pub end_settled : Step (told mid) (told new) IsClosed → Step (told old) (told new) (λ s t. IsSettled s.now t)
      end_settled closed = step_then (told old) (told mid) (told new) Synced IsClosed (λ s t. IsSettled s.now t)
          (synced_at (told old) (told mid) stays synced settled) closed
          (λ s t u call shut. settled_closed s t u call.0 (record { synced = call.1.0 ∙ sym call.0; settled = call.1.1 }) shut)

      pub end_stays : Step (told mid) (told new) (λ s t. SameBut gate_path s.now t.now) → Step (told old) (told new) (λ s t. SameOutside t.now s.now)
      end_stays same = step_then (told old) (told mid) (told new) (λ s t. t.now ≡ s.now) (λ s t. SameBut gate_path s.now t.now) (λ s t. SameOutside t.now s.now)
          stays same (λ s t u now but path outside. but path (λ e. outside _ e) ∙ ap (λ (x : Map). x path) now)
