-- Touches are done whose entries are kept.
use Rattle.std.proofs.Common.{◌≡◌, ℕ, zero, suc, ◌+◌, ◌<◌, List, [], ◌∷◌, length, take, Option, true, false, refl, sym, inl, inr, ◌∙◌, ap, subst, arith}
use Rattle.std.proofs.lemmas.List.{get_or_default}
use Rattle.folder_core.specs.Folder.{Map, Told, CanSet, SameBut, set_at}
use Rattle.folder_core.specs.Crash.{IsImage, Touches, Elapses}
use Rattle.folder_core.specs.Step.{OnTold, Step}
use Rattle.folder_core.specs.declared.node.Node.{Node}
use Rattle.folder_core.specs.declared.node.Touch.{Touch}
use Rattle.folder_core.proofs.Maps.{same_path, changed_here, changed_other}
use Rattle.backup_store.specs.Turns.{CanSetInTurn, entries_in_turn, set_in_turn}
use Rattle.backup_store.specs.declared.entry.Entry.{Entry}
use Rattle.backup_store.proofs.InTurn.{turn_next}
use Rattle.install_journal.specs.Ahead.{IsAhead, IsCut}
use Rattle.install_journal.specs.Fixed.{IsFixed}
use Rattle.install_journal.specs.Kept.{AreKept, Undoes, entry_of}
use Rattle.install_journal.specs.Open.{IsOpen}
use Rattle.install_journal.specs.Overlay.{entry_at, Covers, SameOutside}
use Rattle.install_journal.specs.Restored.{RestoresLike, RestoresSame}
use Rattle.install_journal.specs.Touching.{no_touch, touch_at, reached, refused}
use Rattle.install_journal.specs.declared.change.Change.{Change}
use Rattle.install_journal.specs.declared.fault.TouchFault.{TouchFault}
use Rattle.install_journal.specs.declared.fault.TouchFault.TheVariants.{Failed}
use Rattle.install_journal.proofs.Fixing.{fixed_touches}
use Rattle.install_journal.proofs.Keeps.{kept_alike, kept_goes_on}
use Rattle.install_journal.proofs.Runs.{on_told, at_told, step_on, step_both, step_each, step_then, start_at, one}
use Rattle.install_journal.proofs.Undoings.{can_but, covers_at, undoes_same}

-- a change whose touches are all done
pub ahead_done : (change : Change) (s : Told) → IsAhead change [] s → IsOpen change s
ahead_done change s is = record {
  entries = is.entries;
  behind = zero;
  old = is.old;
  count = is.count;
  left = omega (arith, is.left);
  kept = is.kept;
  undoes = is.undoes;
  all_left = λ _. omega (arith, is.left);
  free = λ _. refl;
}

-- a change that does no more
pub ahead_open : (change : Change) (touches : List Touch) (s : Told) → IsAhead change touches s → IsOpen (record change { ready = false }) s
ahead_open change touches s is = record {
  entries = is.entries;
  behind = zero;
  old = is.old;
  count = is.count;
  left = omega (arith, is.left);
  kept = is.kept;
  undoes = is.undoes;
  all_left = λ no. absurd (let f : ⊥ = cc in f);
  free = λ _. refl;
}

-- The first of the touches is done or cut.
module _ (change : Change) (touch : Touch) (rest : List Touch) (s : Told) (is : IsAhead change (touch ∷ rest) s) where
  below : change.left < length is.entries
  below = omega (arith, is.count, is.left)

  at : entry_at is.entries change.left ≡ entry_of s.now touch.path
  at = subst (λ (n : ℕ). entry_at is.entries n ≡ entry_of s.now touch.path) (let same : change.left + zero ≡ change.left = omega arith in same) (is.ahead zero (omega arith))

  covered : Covers is.entries touch.path
  covered = subst (Covers is.entries) (ap (λ (e : Entry). e.path) at) (covers_at is.entries change.left below)

  module _ (t : Told) (touches : Touches touch.path s t) where
    goes : (place : List (List ℕ)) (stands : Option Node) → ¬ (Covers is.entries place) → IsFixed s place stands → IsFixed t place stands
    goes place stands none fixed = fixed_touches s t touch.path place stands touches (λ e. none (subst (Covers is.entries) (sym e) covered)) fixed

    pub next_kept : AreKept is.entries zero is.old t
    next_kept = kept_goes_on is.entries zero is.old s t is.kept goes

    module _ (but : SameBut touch.path s.now t.now) where
      back : SameOutside (set_at t.now touch.path (s.now touch.path)) s.now
      back place out = elim (same_path place touch.path) [
        | inl here ↦ changed_here t.now touch.path (s.now touch.path) place here ∙ ap s.now (sym here)
        | inr apart ↦ changed_other t.now touch.path (s.now touch.path) place apart ∙ but place apart
      ]

      next_undoes : Undoes is.entries (suc change.left) t.now is.old
      next_undoes = subst (λ (e : Entry). CanSet t.now e.path × Undoes is.entries change.left (set_at t.now e.path e.before) is.old) (sym at) (
        can_but s.now t.now touch.path but is.can_set.0,
        undoes_same is.entries is.kept.serves.outside change.left s.now (set_at t.now touch.path (s.now touch.path)) is.old (omega (arith, below)) back is.undoes,
      )

      more_undoes : Undoes is.entries (change.left + 1) t.now is.old
      more_undoes = subst (λ (n : ℕ). Undoes is.entries n t.now is.old) (let same : suc change.left ≡ change.left + 1 = omega arith in same) next_undoes

      pub next_open : IsOpen (record change { left = change.left + 1; ready = false; failed = true }) t
      next_open = record {
        entries = is.entries;
        behind = zero;
        old = is.old;
        count = is.count;
        left = omega (arith, is.left);
        kept = next_kept;
        undoes = more_undoes;
        all_left = λ no. absurd (let f : ⊥ = cc in f);
        free = λ no. absurd (let f : ⊥ = cc in f);
      }

      pub next_ahead : t.now ≡ set_at s.now touch.path touch.node → IsAhead (record change { left = change.left + 1 }) rest t
      next_ahead now = record {
        entries = is.entries;
        old = is.old;
        count = is.count;
        left = omega (arith, is.left);
        kept = next_kept;
        undoes = more_undoes;
        ahead = λ place near.
            let shift : change.left + 1 + place ≡ change.left + suc place = omega arith in
            ap (entry_at is.entries) shift ∙ is.ahead (suc place) (omega arith)
            ∙ ap (λ (m : Map). entry_at (entries_in_turn rest m) place) (sym now);
        can_set = subst (λ (m : Map). CanSetInTurn rest m) (sym now) is.can_set.1;
      }

module _ {D : Type 0} (told : D → Option Told) (left_since : D → ℕ → Map → Type 0) (change : Change) (touch : Touch) (rest : List Touch) (old : D)
    (ahead : OnTold (told old) (IsAhead change (touch ∷ rest)))
    (image : OnTold (told old) (λ s. IsImage s s.now))
    (only : OnTold (told old) (λ s. (m : Map) → left_since old s.moment m → IsImage s m))
    (new : D)
    (touches : Step (told old) (told new) (Touches touch.path))
    (but : Step (told old) (told new) (λ s t. SameBut touch.path s.now t.now)) where
  abbrev Call : Told → Told → Type 0
  Call s t = Touches touch.path s t × SameBut touch.path s.now t.now

  call : Step (told old) (told new) Call
  call = step_both (told old) (told new) (Touches touch.path) (λ s t. SameBut touch.path s.now t.now) touches but

  pub cut_open : OnTold (told new) (IsOpen (record change { left = change.left + 1; ready = false; failed = true }))
  cut_open = step_on (told old) (told new) (IsAhead change (touch ∷ rest)) (IsOpen (record change { left = change.left + 1; ready = false; failed = true })) Call ahead call
      (λ s t is did. next_open change touch rest s is t did.0 did.1)

  pub set_ahead : Step (told old) (told new) (λ s t. t.now ≡ set_at s.now touch.path touch.node) → OnTold (told new) (IsAhead (record change { left = change.left + 1 }) rest)
  set_ahead now = step_on (told old) (told new) (IsAhead change (touch ∷ rest)) (IsAhead (record change { left = change.left + 1 }) rest) (λ s t. Call s t × (t.now ≡ set_at s.now touch.path touch.node)) ahead
      (step_both (told old) (told new) Call (λ s t. t.now ≡ set_at s.now touch.path touch.node) call now)
      (λ s t is did. next_ahead change touch rest s is t did.0.0 did.0.1 did.1)

  pub next_restores : Step (told old) (told new) (λ s t. Elapses s.moment t.moment (left_since old) (left_since new) (IsImage t)) → RestoresSame told left_since old new
  next_restores time = on_told (told old) _ (λ s e.
      let is : IsAhead change (touch ∷ rest) s = at_told (told old) s (IsAhead change (touch ∷ rest)) e ahead in
      let now : IsImage s s.now = at_told (told old) s (λ t. IsImage t t.now) e image in
      (one told left_since old old new (λ t. t ≡ s) (AreKept is.entries zero is.old) (RestoresLike s.now) (Touches touch.path)
      (start_at told left_since old s (RestoresLike s.now) only e (λ m img. kept_alike is.entries zero is.entries zero is.old s s s.now m is.kept now is.kept img))
      touches time
      (λ t u same did. next_kept change touch rest s is u (subst (λ (x : Told). Touches touch.path x u) same did))
      (λ u m kept img. kept_alike is.entries zero is.entries zero is.old s u s.now m is.kept now kept img)).leaves)

-- one touch more
pub reached_more : (a b c : Change) (count next : ℕ) → next ≡ count + 1 → b ≡ reached count a → c ≡ reached 1 b → c ≡ reached next a
reached_more a b c count next is first second =
    second ∙ ap (reached 1) first ∙ ap (λ (n : ℕ). record a { left = n }) (let same : a.left + count + 1 ≡ a.left + next = omega (arith, is) in same)

pub refused_more : (fault : TouchFault) (a b c : Change) (count : ℕ) → b ≡ reached count a → c ≡ refused fault (reached 1 b) → c ≡ refused fault (reached (suc count) a)
refused_more fault a b c count first second =
    second ∙ ap (refused fault) (reached_more a b (reached 1 b) count (suc count) (omega arith) first refl)

module _ (touches : List Touch) (place : ℕ) (near : place < length touches) where
  pub turn_more : (m : Map) → set_in_turn (take (place + 1) touches) m ≡ set_at (set_in_turn (take place touches) m) (touch_at touches place).path (touch_at touches place).node
  turn_more m = turn_next touches place (touch_at touches place) m near (get_or_default touches place no_touch (touch_at touches place) near)

  pub turns_more : (a b d : Option Told)
      → Step a b (λ s t. t.now ≡ set_in_turn (take place touches) s.now)
      → Step b d (λ s t. t.now ≡ set_at s.now (touch_at touches place).path (touch_at touches place).node)
      → Step a d (λ s t. t.now ≡ set_in_turn (take (place + 1) touches) s.now)
  turns_more a b d first second = step_then a b d (λ s t. t.now ≡ set_in_turn (take place touches) s.now) (λ s t. t.now ≡ set_at s.now (touch_at touches place).path (touch_at touches place).node)
      (λ s t. t.now ≡ set_in_turn (take (place + 1) touches) s.now) first second
      (λ s t u p q. q ∙ ap (λ (m : Map). set_at m (touch_at touches place).path (touch_at touches place).node) p ∙ sym (turn_more s.now))

pub cut_behind : (fault : TouchFault) (path : List (List ℕ)) (front : Map → Map) (a b d : Option Told)
    → Step a b (λ s t. t.now ≡ front s.now) → Step b d (λ s t. IsCut fault path s.now t.now) → Step a d (λ s t. IsCut fault path (front s.now) t.now)
cut_behind fault path front a b d first second = step_then a b d (λ s t. t.now ≡ front s.now) (λ s t. IsCut fault path s.now t.now) (λ s t. IsCut fault path (front s.now) t.now) first second
    (λ s t u p q. subst (λ (m : Map). IsCut fault path m u.now) p q)

-- A failing folder may change the path.
pub failed_cut : (fault : TouchFault) (path : List (List ℕ)) (a b : Option Told) → fault ≡ Failed → Step a b (λ s t. SameBut path s.now t.now) → Step a b (λ s t. IsCut fault path s.now t.now)
failed_cut fault path a b failed but = step_each a b (λ s t. SameBut path s.now t.now) (λ s t. IsCut fault path s.now t.now)
    (λ s t same. record { elsewhere = same; untouched = λ other. absurd (other failed) }) but
