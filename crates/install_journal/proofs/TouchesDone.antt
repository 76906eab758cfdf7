-- What touches come to whose entries were kept before they were done.
use Rattle.std.proofs.Common.{◌≡◌, ◌≢◌, ℕ, suc, ◌+◌, ◌-◌, ◌<◌, List, [], ◌∷◌, length, take, Option, Result, Ok, Err, OnOk, OnErr, IfErr, refl, sym, ◌∙◌, ap, subst, arith}
use Rattle.folder_core.specs.Folder.{Map, Told, set_at}
use Rattle.folder_core.specs.Step.{Step}
use Rattle.folder_core.specs.declared.node.Touch.{Touch}
use Rattle.folder_core.proofs.Maps.{changed_other}
use Rattle.backup_store.specs.KeepingAll.{HoldEntries}
use Rattle.backup_store.specs.Places.{entry_path}
use Rattle.backup_store.specs.Turns.{AreTouches, IsTouch, entries_in_turn, set_in_turn}
use Rattle.backup_store.proofs.InTurn.{length-entries, touch_here, touches_front}
use Rattle.install_journal.specs.Ahead.{IsCutAt}
use Rattle.install_journal.specs.Overlay.{SameOutside}
use Rattle.install_journal.specs.Touching.{HasReached, kept_more, no_touch, reached, refused, touch_at}
use Rattle.install_journal.specs.declared.change.Change.{Change}
use Rattle.install_journal.specs.declared.fault.TouchFault.{TouchFault}
use Rattle.install_journal.specs.declared.fault.TouchFault.TheVariants.{Failed, TooManyEntries, NoMemory}
use Rattle.install_journal.proofs.Runs.{step_each, step_then}
use Rattle.install_journal.proofs.TurnsServe.{turn_outside}

pub refused_kept : (fault : TouchFault) (change : Change) → (refused fault change).kept ≡ change.kept
refused_kept Failed change = refl
refused_kept TooManyEntries change = refl
refused_kept NoMemory change = refl

pub refused_left : (fault : TouchFault) (change : Change) → (refused fault change).left ≡ change.left
refused_left Failed change = refl
refused_left TooManyEntries change = refl
refused_left NoMemory change = refl

pub if_err : {V E : Type 0} (result : Result V E) (P : E → Type 0) → ((fault : E) → P fault) → IfErr result P
if_err (Ok value) P each = tt
if_err (Err fault) P each = each fault

pub hold_none : (touches : List Touch) (s m : Map) (first : ℕ) → length touches ≡ 0 → HoldEntries m first (entries_in_turn touches s)
hold_none touches s m first none place near = absurd (omega (arith, none, length-entries touches s))

turn_inside : (touches : List Touch) (m : Map) (k : ℕ) → AreTouches touches → set_in_turn touches m (entry_path k) ≡ m (entry_path k)
turn_inside [] m k are = refl
turn_inside (touch ∷ touches) m k are =
    turn_inside touches (set_at m touch.path touch.node) k are.1 ∙ changed_other m touch.path touch.node (entry_path k) (λ e. are.0.outside _ (sym e))

abbrev pub IsDoneOrCut : List Touch → Change → Change → Option Told → Option Told → Result (Unit {0}) TouchFault → Type 0
IsDoneOrCut touches mid new b d result =
    OnOk result (Step b d (λ s t. t.now ≡ set_in_turn touches s.now))
    × IfErr result (λ fault. (done : ℕ) × ((done < length touches) × ((new ≡ refused fault (reached (suc done) mid)) × Step b d (λ s t. IsCutAt fault done touches s.now t.now))))

-- The entries' files stand as before.
abbrev pub KeepsTexts : Told → Told → Type 0
KeepsTexts s t = (k : ℕ) → t.now (entry_path k) ≡ s.now (entry_path k)

pub texts_stay : (touches : List Touch) (mid new : Change) (b d : Option Told) (result : Result (Unit {0}) TouchFault) → AreTouches touches → IsDoneOrCut touches mid new b d result → Step b d KeepsTexts
texts_stay touches mid new b d (Ok value) are done = step_each b d (λ s t. t.now ≡ set_in_turn touches s.now) KeepsTexts
    (λ s t now k. ap (λ (m : Map). m (entry_path k)) now ∙ turn_inside touches s.now k are) done.0
texts_stay touches mid new b d (Err fault) are done =
    let count = done.1.0 in
    let is : IsTouch (touch_at touches count) = touch_here touches count no_touch done.1.1.0 are in
    step_each b d (λ s t. IsCutAt fault count touches s.now t.now) KeepsTexts
    (λ s t cut k. cut.elsewhere (entry_path k) (λ e. is.outside _ (sym e)) ∙ turn_inside (take count touches) s.now k (touches_front touches count are)) done.1.1.1.1

module _ (touches : List Touch) (old mid new : Change) (is : mid ≡ kept_more (length touches) old) (a b d : Option Told) (same : Step a b (λ s t. SameOutside t.now s.now)) where
  far : (fault : TouchFault) (done : ℕ) → new ≡ refused fault (reached (suc done) mid) → new.left - old.left ≡ suc done
  far fault done refuses =
      let now = ap (λ (x : Change). x.left) refuses ∙ refused_left fault (reached (suc done) mid) in
      let had = ap (λ (x : Change). x.left) is in
      omega (arith, now, had)

  pub all_sets : (result : Result (Unit {0}) TouchFault) → IsDoneOrCut touches mid new b d result → OnOk result (Step a d (λ s t. SameOutside t.now (set_in_turn touches s.now)))
  all_sets (Ok value) done = step_then a b d (λ s t. SameOutside t.now s.now) (λ s t. t.now ≡ set_in_turn touches s.now) (λ s t. SameOutside t.now (set_in_turn touches s.now)) same done.0
      (λ s t u p q place out. ap (λ (m : Map). m place) q ∙ turn_outside touches s.now t.now p place out)
  all_sets (Err fault) done = tt

  pub all_reached : (result : Result (Unit {0}) TouchFault) → IsDoneOrCut touches mid new b d result → OnErr result (Step a d (λ s t. HasReached (new.left - old.left) touches s.now t.now))
  all_reached (Ok value) done = tt
  all_reached (Err fault) done =
      let count = done.1.0 in
      subst (λ (n : ℕ). Step a d (λ s t. HasReached n touches s.now t.now)) (sym (far fault count done.1.1.1.0))
      (step_then a b d (λ s t. SameOutside t.now s.now) (λ s t. IsCutAt fault count touches s.now t.now) (λ s t. HasReached (suc count) touches s.now t.now) same done.1.1.1.1
      (λ s t u p q place out apart. q.elsewhere place apart ∙ turn_outside (take count touches) s.now t.now p place out))

  pub all_untouched : (result : Result (Unit {0}) TouchFault) → IsDoneOrCut touches mid new b d result
      → IfErr result (λ fault. fault ≢ Failed → Step a d (λ s t. SameOutside t.now (set_in_turn (take (new.left - old.left - 1) touches) s.now)))
  all_untouched (Ok value) done = tt
  all_untouched (Err fault) done = λ other.
      let count = done.1.0 in
      let back : count ≡ new.left - old.left - 1 = omega (arith, far fault count done.1.1.1.0) in
      subst (λ (n : ℕ). Step a d (λ s t. SameOutside t.now (set_in_turn (take n touches) s.now))) back
      (step_then a b d (λ s t. SameOutside t.now s.now) (λ s t. IsCutAt fault count touches s.now t.now) (λ s t. SameOutside t.now (set_in_turn (take count touches) s.now)) same done.1.1.1.1
      (λ s t u p q place out. ap (λ (m : Map). m place) (q.untouched other) ∙ turn_outside (take count touches) s.now t.now p place out))

pub all_entries : (touches : List Touch) (first : ℕ) (a b d : Option Told)
    → Step a b (λ s t. HoldEntries t.now first (entries_in_turn touches s.now)) → Step b d KeepsTexts
    → Step a d (λ s t. HoldEntries t.now first (entries_in_turn touches s.now))
all_entries touches first a b d holds stays = step_then a b d (λ s t. HoldEntries t.now first (entries_in_turn touches s.now)) KeepsTexts (λ s t. HoldEntries t.now first (entries_in_turn touches s.now)) holds stays
    (λ s t u p q place near. let had = p place near in record { entry = had.entry; file = (had.file.0, q (first + place) ∙ had.file.1) })
