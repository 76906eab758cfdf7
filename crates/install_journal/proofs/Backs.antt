-- The newest entry is put back.
use Rattle.std.proofs.Common.{◌≡◌, ℕ, zero, suc, ◌+◌, ◌-◌, ◌<◌, ◌≤◌, List, length, Option, Some, None, true, false, refl, sym, ◌∙◌, ap, subst, arith}
use Rattle.std.specs.Bool.{⊤}
use Rattle.folder_core.specs.Folder.{Map, Told}
use Rattle.folder_core.specs.Crash.{IsImage, AllImages, Elapses, LeavesOnly}
use Rattle.folder_core.specs.Step.{OnTold, Step}
use Rattle.folder_core.proofs.Moments.{images_now, holds_now}
use Rattle.backup_store.specs.Fault.{IfDamaged}
use Rattle.backup_store.specs.declared.fault.StoreFault.{StoreFault}
use Rattle.backup_store.specs.declared.fault.StoreFault.TheVariants.{Failed, Damaged, NoMemory}
use Rattle.backup_store.specs.Held.{IsDamaged}
use Rattle.backup_store.specs.PuttingBack.{HasRoomBack, PutsBack, SameButRestored, TouchesRestored}
use Rattle.install_journal.specs.Closing.{MayBeOpen}
use Rattle.install_journal.specs.Kept.{AreKept, Undoes}
use Rattle.install_journal.specs.Open.{IsOpen}
use Rattle.install_journal.specs.Restored.{RestoresLike, RestoresSame}
use Rattle.install_journal.specs.Undoing.{PutsBackFrom, shortened}
use Rattle.install_journal.specs.declared.change.Change.{Change}
use Rattle.install_journal.proofs.Counting.{restores_then}
use Rattle.install_journal.proofs.Keeps.{kept_shows, kept_alike, kept_goes_on}
use Rattle.install_journal.proofs.Opens.{open_restores}
use Rattle.install_journal.proofs.Runs.{on_told, on_each, on_both, at_told, step_on, step_both, step_each, step_then, step_same, start_at, one, more}
use Rattle.install_journal.proofs.Undoings.{never_damaged, room_back, back_fixed, back_puts, back_fails}

-- a change with entries left, in a folder whose map now is an image
pub record IsBackable (change : Change) (s : Told) : Type 0 where
  pub began : IsOpen change s
  pub image : IsImage s s.now

module _ (change : Change) (some : 0 < change.left) (s : Told) (is : IsBackable change s) where
  abbrev n : ℕ
  n = change.left - 1

  newest : n + 1 ≡ change.left
  newest = omega arith

  newest_suc : suc n ≡ change.left
  newest_suc = omega arith

  below : n < length is.began.entries
  below = omega (arith, is.began.count, is.began.left)

  undoes : Undoes is.began.entries (suc n) s.now is.began.old
  undoes = subst (λ (i : ℕ). Undoes is.began.entries i s.now is.began.old) (sym newest_suc) is.began.undoes

  pub back_room : HasRoomBack s.now change.left
  back_room = subst (λ (i : ℕ). HasRoomBack s.now i) newest
      (room_back is.began.entries is.began.behind is.began.old s n is.began.kept is.image below undoes.0)

  pub back_undamaged : ¬ (IsDamaged s.now change.left)
  back_undamaged damaged = never_damaged is.began.entries is.began.behind is.began.old s n is.began.kept is.image below
      (subst (λ (i : ℕ). IsDamaged s.now i) (sym newest) damaged)

  pub back_kept : (t : Told) → TouchesRestored change.left s t → AreKept is.began.entries is.began.behind is.began.old t
  back_kept t touches = kept_goes_on is.began.entries is.began.behind is.began.old s t is.began.kept
      (λ path stands none fixed. back_fixed is.began.entries is.began.behind is.began.old s n is.began.kept is.image below t path stands
      (subst (λ (i : ℕ). TouchesRestored i s t) (sym newest) touches) none fixed)

  pub back_done : (t : Told) → TouchesRestored change.left s t → PutsBack change.left s.now t.now → IsOpen (shortened n change) t
  back_done t touches puts = record {
    entries = is.began.entries;
    behind = is.began.behind;
    old = is.began.old;
    count = is.began.count;
    left = omega (arith, is.began.left);
    kept = back_kept t touches;
    undoes = back_puts is.began.entries is.began.behind is.began.old s n is.began.kept is.image below t.now (subst (λ (i : ℕ). PutsBack i s.now t.now) (sym newest) puts) undoes;
    all_left = λ no. absurd (let f : ⊥ = cc in f);
    free = λ no. absurd (let f : ⊥ = cc in f);
  }

  pub back_failed : (t : Told) → TouchesRestored change.left s t → SameButRestored change.left s.now t.now → IsOpen (record change { ready = false; failed = true }) t
  back_failed t touches same = record {
    entries = is.began.entries;
    behind = is.began.behind;
    old = is.began.old;
    count = is.began.count;
    left = is.began.left;
    kept = back_kept t touches;
    undoes = subst (λ (i : ℕ). Undoes is.began.entries i t.now is.began.old) newest_suc
        (back_fails is.began.entries is.began.behind is.began.old s n is.began.kept is.image below t.now (subst (λ (i : ℕ). SameButRestored i s.now t.now) (sym newest) same) undoes);
    all_left = λ no. absurd (let f : ⊥ = cc in f);
    free = λ no. absurd (let f : ⊥ = cc in f);
  }

pub damaged_each : (fault : StoreFault) (P Q : List (List ℕ) → Type 0) → ((at : List (List ℕ)) → P at → Q at) → IfDamaged fault P → IfDamaged fault Q
damaged_each Failed P Q f holds = tt
damaged_each (Damaged path) P Q f holds = f path holds
damaged_each NoMemory P Q f holds = tt

damage_at : (told : Option Told) (P : Told → Type 0) (Q : Told → Type 0) → OnTold told P → OnTold told Q → ((s : Told) → P s → Q s → ⊥) → OnTold told (λ s. ⊥)
damage_at None P Q p q f = tt
damage_at (Some s) P Q p q f = f s p q

module _ {D : Type 0} (told : D → Option Told) (left_since : D → ℕ → Map → Type 0) (change : Change) (some : 0 < change.left) (old : D)
    (began : OnTold (told old) (IsOpen change))
    (image : OnTold (told old) (λ s. IsImage s s.now))
    (only : OnTold (told old) (λ s. (m : Map) → left_since old s.moment m → IsImage s m)) where
  pub backable : OnTold (told old) (IsBackable change)
  backable = on_each (told old) (λ s. IsOpen change s × IsImage s s.now) (IsBackable change) (λ s both. record { began = both.0; image = both.1 })
      (on_both (told old) (IsOpen change) (λ s. IsImage s s.now) began image)

  pub newest_room : OnTold (told old) (λ s. HasRoomBack s.now change.left)
  newest_room = on_each (told old) (IsBackable change) (λ s. HasRoomBack s.now change.left) (λ s is. back_room change some s is) backable

  pub newest_undamaged : OnTold (told old) (λ s. IsDamaged s.now change.left) → OnTold (told old) (λ s. ⊥)
  newest_undamaged damaged = damage_at (told old) (IsBackable change) (λ s. IsDamaged s.now change.left) backable damaged (λ s is bad. back_undamaged change some s is bad)

  module _ (new : D) (touches : Step (told old) (told new) (TouchesRestored change.left)) where
    pub newest_done : Step (told old) (told new) (λ s t. PutsBack change.left s.now t.now) → OnTold (told new) (IsOpen (shortened (change.left - 1) change))
    newest_done puts = step_on (told old) (told new) (IsBackable change) (IsOpen (shortened (change.left - 1) change)) (λ s t. TouchesRestored change.left s t × PutsBack change.left s.now t.now) backable
        (step_both (told old) (told new) (TouchesRestored change.left) (λ s t. PutsBack change.left s.now t.now) touches puts)
        (λ s t is call. back_done change some s is t call.0 call.1)

    pub newest_failed : Step (told old) (told new) (λ s t. SameButRestored change.left s.now t.now) → OnTold (told new) (IsOpen (record change { ready = false; failed = true }))
    newest_failed same = step_on (told old) (told new) (IsBackable change) (IsOpen (record change { ready = false; failed = true })) (λ s t. TouchesRestored change.left s t × SameButRestored change.left s.now t.now) backable
        (step_both (told old) (told new) (TouchesRestored change.left) (λ s t. SameButRestored change.left s.now t.now) touches same)
        (λ s t is call. back_failed change some s is t call.0 call.1)

    pub newest_restores : Step (told old) (told new) (λ s t. Elapses s.moment t.moment (left_since old) (left_since new) (IsImage t)) → RestoresSame told left_since old new
    newest_restores time = on_told (told old) _ (λ s e.
        let is : IsBackable change s = at_told (told old) s (IsBackable change) e backable in
        (one told left_since old old new (λ t. t ≡ s) (AreKept is.began.entries is.began.behind is.began.old) (RestoresLike s.now) (TouchesRestored change.left)
        (start_at told left_since old s (RestoresLike s.now) only e (λ m. open_restores change s m is.began is.image))
        touches time
        (λ t u same touch. back_kept change some s is u (subst (λ (x : Told). TouchesRestored change.left x u) same touch))
        (λ u m kept img. kept_alike is.began.entries is.began.behind is.began.entries is.began.behind is.began.old s u s.now m is.began.kept is.image kept img)).leaves)

    pub newest_tells : Step (told old) (told new) (λ s t. ⊤)
    newest_tells = step_each (told old) (told new) (TouchesRestored change.left) (λ s t. ⊤) (λ s t touch. tt) touches

module _ {D : Type 0} (told : D → Option Told) (left_since : D → ℕ → Map → Type 0) where
  -- one run after another leaves the old installation
  pub restores_and_then : (old mid new : D)
      → OnTold (told mid) (λ t. IsImage t t.now)
      → OnTold (told mid) (λ t. (moment : ℕ) (m : Map) → moment ≤ t.moment → IsImage t m → left_since mid moment m)
      → RestoresSame told left_since old mid
      → (C : Told → Told → Type 0) → Step (told mid) (told new) C
      → RestoresSame told left_since mid new
      → RestoresSame told left_since old new
  restores_and_then old mid new image counts first C call second = on_told (told old) _ (λ s e.
      let begun : LeavesOnly told left_since old mid (RestoresLike s.now) = at_told (told old) s (λ t. LeavesOnly told left_since old mid (RestoresLike t.now)) e first in
      let each : AllImages (RestoresLike s.now) (told mid) = images_now told left_since old mid (RestoresLike s.now) counts begun in
      (more told left_since old mid new (λ t. RestoresLike s.now t.now) (λ t. Unit {0}) (RestoresLike s.now) C (λ t. RestoresLike t.now)
      (record { holds = holds_now (told mid) (RestoresLike s.now) image each; leaves = begun })
      call second (λ t u like did. tt)
      (λ t m like img. restores_then s.now t.now m like img)).leaves)

  -- an open change has an open gate in some image
  pub open_may_be : (change : Change) (d : D) → OnTold (told d) (IsOpen change) → OnTold (told d) (λ t. IsImage t t.now) → OnTold (told d) MayBeOpen
  open_may_be change d began image = on_each (told d) (λ t. IsOpen change t × IsImage t t.now) MayBeOpen
      (λ t both. (t.now, (both.1, (kept_shows both.0.entries both.0.behind both.0.old t t.now both.0.kept both.1).gate)))
      (on_both (told d) (IsOpen change) (λ t. IsImage t t.now) began image)

-- one entry more is put back
pub puts_more : (count newest left : ℕ) (before between after : Map) → left + count ≡ newest → PutsBackFrom count newest before between → PutsBack left between after → PutsBackFrom (suc count) newest before after
puts_more zero newest left before between after is so_far puts =
    (after, (subst (λ (m : Map). PutsBack newest m after) so_far (subst (λ (i : ℕ). PutsBack i between after) (let e : left ≡ newest = omega (arith, is) in e) puts), refl))
puts_more (suc count) newest left before between after is so_far puts =
    (so_far.0, (so_far.1.0, puts_more count (newest - 1) left so_far.0 between after (omega (arith, is)) so_far.1.1 puts))

pub shortened_again : (a b c : Change) (left : ℕ) → b ≡ shortened b.left a → c ≡ shortened left b → c ≡ shortened c.left a
shortened_again a b c left first second =
    let same : c ≡ shortened left a = second ∙ ap (λ (x : Change). shortened left x) first in
    same ∙ ap (λ (n : ℕ). shortened n a) (sym (ap (λ (x : Change). x.left) same))

-- one entry more is put back of those of a change
pub puts_on : (first mid last : Option Told) (newest left next : ℕ) → left ≤ newest → next + 1 ≡ left
    → Step first mid (λ s t. PutsBackFrom (newest - left) newest s.now t.now)
    → Step mid last (λ s t. PutsBack left s.now t.now)
    → Step first last (λ s t. PutsBackFrom (newest - next) newest s.now t.now)
puts_on first mid last newest left next most is so_far puts =
    let count : suc (newest - left) ≡ newest - next = omega arith in
    step_then first mid last (λ s t. PutsBackFrom (newest - left) newest s.now t.now) (λ s t. PutsBack left s.now t.now) (λ s t. PutsBackFrom (newest - next) newest s.now t.now)
    so_far puts
    (λ s t u p q. subst (λ (n : ℕ). PutsBackFrom n newest s.now u.now) count (puts_more (newest - left) newest left s.now t.now u.now (omega arith) p q))

pub puts_none : (told : Option Told) (newest : ℕ) → Step told told (λ s t. PutsBackFrom (newest - newest) newest s.now t.now)
puts_none told newest =
    let none : zero ≡ newest - newest = omega arith in
    step_same told (λ s t. PutsBackFrom (newest - newest) newest s.now t.now) (λ s. subst (λ (n : ℕ). PutsBackFrom n newest s.now s.now) none refl)
