-- The gate is opened.
use Rattle.std.proofs.Common.{◌≡◌, ◌≢◌, ℕ, List, [], ◌∷◌, Option, Some, None, Contains, inl, inr, refl, sym, ◌∙◌, ap, subst, arith, codes, lit≤}
use Rattle.std.proofs.lemmas.List.Elements.{All-nil, All-cons}
use Rattle.folder_core.specs.Folder.{Map, Told, IsFormed, CanSet, set_at}
use Rattle.folder_core.specs.Crash.{IsImage, Touches, Narrows, Elapses, LeavesOnly}
use Rattle.folder_core.specs.Name.{IsName}
use Rattle.folder_core.specs.Node.{entries_path}
use Rattle.folder_core.specs.Path.{IsPath}
use Rattle.folder_core.specs.Step.{OnTold, Step}
use Rattle.folder_core.specs.declared.node.Node.{Node}
use Rattle.folder_core.specs.declared.node.Node.TheVariants.{File, Dir}
use Rattle.folder_core.proofs.Maps.{same_path, changed_here, changed_other, IsFormed-set_at}
use Rattle.folder_core.proofs.Moments.{weaker}
use Rattle.backup_store.specs.Held.{gate_text, mark_text}
use Rattle.backup_store.specs.Places.{gate_path, entry_path, mark_path}
use Rattle.install_journal.specs.Closing.{IsSynced, IsButGate, MayBeOpen}
use Rattle.install_journal.specs.Fixed.{IsFixed}
use Rattle.install_journal.specs.Open.{IsOpen}
use Rattle.install_journal.specs.Preparing.{IsFresh, begun}
use Rattle.install_journal.specs.Restored.{IsRestored, RestoresTo}
use Rattle.install_journal.proofs.Closings.{set_leaves, sync_leaves}
use Rattle.install_journal.proofs.Counting.{serve_restores, closed_restores, is_file_or_not}
use Rattle.install_journal.proofs.Fixing.{fixed_all}
use Rattle.install_journal.proofs.Keeps.{no_file}
use Rattle.install_journal.proofs.Names.{journal_is_name, undo_is_name}
use Rattle.install_journal.proofs.Overlays.{serves_nothing}
use Rattle.install_journal.proofs.Runs.{on_each, on_both, step_on, step_both, step_then}

pub can_open : (s : Told) → IsFresh s → CanSet s.now gate_path
can_open s fresh = record { not_root = λ e. cc; parent = fresh.journal; nothing_below = fresh.below_gate }

gate_is_path : IsPath gate_path
gate_is_path = record {
  short = lit≤ tt;
  names = All-cons IsName (codes ".p2") (codes "undo" ∷ []) journal_is_name (All-cons IsName (codes "undo") [] undo_is_name (All-nil IsName));
}

abbrev open_file : Node
open_file = File 420 gate_text

-- a map that differs at the gate alone restores to what stood before it was opened
fresh_restores : (s : Told) (m : Map) → IsFresh s → IsFormed s.now → IsButGate s.now m → IsRestored m s.now
fresh_restores s m fresh formed but = elim (is_file_or_not gate_text (m gate_path)) [
  | inl opens ↦ serve_restores [] s.now m (serves_nothing s.now) (λ path outside none. but.elsewhere path (λ e. outside _ e)) formed but.formed opens (record {
    most = omega arith;
    counts = λ place below. absurd (omega arith);
    holds = λ place below. absurd (omega arith);
    last = λ more. no_file mark_text (m (mark_path 1)) (but.elsewhere (mark_path 1) (λ e. cc) ∙ fresh.entries.none _);
  })
  | inr closed ↦ closed_restores m s.now closed (λ path outside. sym (but.elsewhere path (λ e. outside _ e)))
]

pub fresh_but : (s : Told) (m : Map) → IsFresh s → IsFormed s.now → IsButGate s.now m → RestoresTo s.now m
fresh_but s m fresh formed but = record {
  restores = fresh_restores s m fresh formed but;
  foreign = λ path foreign. but.elsewhere path foreign.not_gate;
}

may_open : (s u : Told) → IsFresh s → IsFormed s.now → u.synced ≡ s.synced → Contains u.touched gate_path → MayBeOpen u
may_open s u fresh formed synced touched =
    let m = set_at s.now gate_path (Some open_file) in (
      m,
      (
        record {
          formed = IsFormed-set_at s.now gate_path (Some open_file) formed (can_open s fresh) gate_is_path (lit≤ tt) (λ outside. lit≤ tt);
          untouched = λ path none. elim (same_path path gate_path) [
            | inl here ↦ absurd (none (subst (Contains u.touched) (sym here) touched))
            | inr apart ↦ changed_other s.now gate_path (Some open_file) path apart ∙ ap (λ (x : Map). x path) (sym (synced ∙ fresh.synced.synced))
          ];
        },
        (420, changed_here s.now gate_path (Some open_file) gate_path refl),
      ),
    )

begun_open : (s u t : Told) → IsFresh s → IsFormed s.now → u.now ≡ set_at s.now gate_path (Some open_file) → t.now ≡ u.now → t.synced ≡ u.now → t.touched ≡ [] → IsOpen begun t
begun_open s u t fresh formed set now synced settled =
    let fixed : (path : List (List ℕ)) → IsFixed t path (u.now path) = λ path. fixed_all u t path synced settled in
    let other : (path : List (List ℕ)) (stands : Option Node) → path ≢ gate_path → s.now path ≡ stands → IsFixed t path stands = λ path stands apart is.
    subst (IsFixed t path) (ap (λ (m : Map). m path) set ∙ changed_other s.now gate_path (Some open_file) path apart ∙ is) (fixed path) in
    record {
      entries = [];
      behind = 0;
      old = s.now;
      count = refl;
      left = omega arith;
      kept = record {
        most = omega arith;
        serves = serves_nothing s.now;
        formed = formed;
        gate = (420, subst (IsFixed t gate_path) (ap (λ (m : Map). m gate_path) set ∙ changed_here s.now gate_path (Some open_file) gate_path refl) (fixed gate_path));
        directory = other entries_path (Some Dir) (λ e. cc) fresh.entries.directory;
        marks = λ place below. absurd (omega arith);
        texts = λ place below. absurd (omega arith);
        rest = λ path outside none. other path (s.now path) (λ e. outside _ e) refl;
        no_later_marks = λ number above small. other (mark_path number) None (λ e. cc) (fresh.entries.none _);
        no_later_texts = λ number above small. other (entry_path number) None (λ e. cc) (fresh.entries.none _);
        harmless = inl (λ number among. other (mark_path number) None (λ e. cc) (fresh.entries.none _));
        foreign = λ path is. other path None is.not_gate (fresh.tidy path is);
      };
      undoes = λ path outside. ap (λ (m : Map). m path) (now ∙ set) ∙ changed_other s.now gate_path (Some open_file) path (λ e. outside _ e);
      all_left = λ _. refl;
      free = λ _. refl;
    }

module _ {D : Type 0} (told : D → Option Told) (left_since : D → ℕ → Map → Type 0) (old : D) (path : List (List ℕ)) (is : path ≡ gate_path)
    (fresh : OnTold (told old) IsFresh)
    (image : OnTold (told old) (λ s. IsImage s s.now))
    (only : OnTold (told old) (λ s. (m : Map) → left_since old s.moment m → IsImage s m)) where
  abbrev Here : Told → Type 0
  Here s = IsFresh s × IsImage s s.now

  here : OnTold (told old) Here
  here = on_both (told old) IsFresh (λ s. IsImage s s.now) fresh image

  pub gate_can : OnTold (told old) (λ s. CanSet s.now path)
  gate_can = on_each (told old) IsFresh (λ s. CanSet s.now path) (λ s f. subst (CanSet s.now) (sym is) (can_open s f)) fresh

  synced : OnTold (told old) IsSynced
  synced = on_each (told old) IsFresh IsSynced (λ s f. f.synced) fresh

  restores_of : (new : D) → OnTold (told old) (λ s. LeavesOnly told left_since old new (IsButGate s.now)) → OnTold (told old) (λ s. LeavesOnly told left_since old new (RestoresTo s.now))
  restores_of new leaves = on_each (told old) (λ s. Here s × LeavesOnly told left_since old new (IsButGate s.now)) (λ s. LeavesOnly told left_since old new (RestoresTo s.now))
      (λ s both. weaker told left_since old new (IsButGate s.now) (RestoresTo s.now) (λ m but. fresh_but s m both.0.0 both.0.1.formed but) both.1)
      (on_both (told old) Here (λ s. LeavesOnly told left_since old new (IsButGate s.now)) here leaves)

  pub set_restores : (new : D) → Step (told old) (told new) (Touches path)
      → Step (told old) (told new) (λ s t. Elapses s.moment t.moment (left_since old) (left_since new) (IsImage t))
      → OnTold (told old) (λ s. LeavesOnly told left_since old new (RestoresTo s.now))
  set_restores new touches time = restores_of new (set_leaves told left_since old synced only new path is touches time)

  pub sync_restores : (mid new : D) → Step (told old) (told mid) (Touches path)
      → Step (told old) (told mid) (λ s t. Elapses s.moment t.moment (left_since old) (left_since mid) (IsImage t))
      → Step (told mid) (told new) Narrows
      → Step (told mid) (told new) (λ s t. Elapses s.moment t.moment (left_since mid) (left_since new) (IsImage t))
      → OnTold (told old) (λ s. LeavesOnly told left_since old new (RestoresTo s.now))
  sync_restores mid new touches time narrows later = restores_of new (sync_leaves told left_since old synced only mid new path is touches time narrows later)

  pub set_may_open : (new : D) → Step (told old) (told new) (λ s t. t.synced ≡ s.synced) → Step (told old) (told new) (λ s t. Contains t.touched path) → OnTold (told new) MayBeOpen
  set_may_open new same touched = step_on (told old) (told new) Here MayBeOpen (λ s t. (t.synced ≡ s.synced) × Contains t.touched path) here
      (step_both (told old) (told new) (λ s t. t.synced ≡ s.synced) (λ s t. Contains t.touched path) same touched)
      (λ s t h call. may_open s t h.0 h.1.formed call.0 (subst (Contains t.touched) is call.1))

  module _ (mid new : D) (stands : Option Node) (file : stands ≡ Some (File 420 gate_text))
      (set : Step (told old) (told mid) (λ s t. t.now ≡ set_at s.now path stands))
      (stays : Step (told mid) (told new) (λ s t. t.now ≡ s.now)) where
    abbrev Set : Told → Told → Type 0
    Set s u = u.now ≡ set_at s.now gate_path (Some (File 420 gate_text))

    was_set : Step (told old) (told mid) Set
    was_set = step_then (told old) (told old) (told mid) (λ s t. t ≡ s) (λ s t. t.now ≡ set_at s.now path stands) Set (itself (told old)) set
        (λ s t u same now. now ∙ ap (λ (p : List (List ℕ)). set_at t.now p stands) is ∙ ap (λ (o : Option Node). set_at t.now gate_path o) file ∙ ap (λ (x : Told). set_at x.now gate_path (Some (File 420 gate_text))) same)
      where
        itself : (a : Option Told) → Step a a (λ s t. t ≡ s)
        itself None = tt
        itself (Some s) = refl

    pub is_begun : Step (told mid) (told new) (λ s t. t.synced ≡ s.now) → Step (told mid) (told new) (λ s t. t.touched ≡ []) → OnTold (told new) (IsOpen begun)
    is_begun now_synced settled = step_on (told old) (told new) Here (IsOpen begun) (λ s t. (u : Told) × (Set s u × ((t.now ≡ u.now) × ((t.synced ≡ u.now) × (t.touched ≡ []))))) here
        (step_then (told old) (told mid) (told new) Set (λ u t. (t.now ≡ u.now) × ((t.synced ≡ u.now) × (t.touched ≡ []))) (λ s t. (u : Told) × (Set s u × ((t.now ≡ u.now) × ((t.synced ≡ u.now) × (t.touched ≡ [])))))
        was_set
        (step_both (told mid) (told new) (λ u t. t.now ≡ u.now) (λ u t. (t.synced ≡ u.now) × (t.touched ≡ [])) stays
        (step_both (told mid) (told new) (λ u t. t.synced ≡ u.now) (λ u t. t.touched ≡ []) now_synced settled))
        (λ s u t p q. (u, (p, q))))
        (λ s t h run. begun_open s run.0 t h.0 h.1.formed run.1.0 run.1.1.0 run.1.1.1.0 run.1.1.1.1)

    pub is_opened : OnTold (told new) (λ t. IsImage t t.now) → OnTold (told new) MayBeOpen
    is_opened now = step_on (told old) (told new) Here MayBeOpen (λ s t. Set s t × IsImage t t.now) here
        (both_at (told old) (told new) Set (λ t. IsImage t t.now)
        (step_then (told old) (told mid) (told new) Set (λ u t. t.now ≡ u.now) Set was_set stays (λ s u t p q. q ∙ p)) now)
        (λ s t h both. (t.now, (both.1, (420, ap (λ (m : Map). m gate_path) both.0 ∙ changed_here s.now gate_path (Some (File 420 gate_text)) gate_path refl))))
      where
        both_at : (a b : Option Told) (R : Told → Told → Type 0) (P : Told → Type 0) → Step a b R → OnTold b P → Step a b (λ s t. R s t × P t)
        both_at None None R P r p = tt
        both_at None (Some t) R P r p = absurd r
        both_at (Some s) None R P r p = absurd r
        both_at (Some s) (Some t) R P r p = (r, p)
