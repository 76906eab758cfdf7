-- How a plan is put back over a run of calls.
use Rattle.std.proofs.Common.{◌≡◌, ◌≢◌, ℕ, ◌+◌, ◌<◌, ◌≤◌, List, [], length, get_or, Option, Some, None, Result, Ok, Err, sym, ◌∙◌, ap, subst}
use Rattle.std.specs.Result.{IfErr, IsErrAnd}
use Rattle.backup_store.specs.declared.fault.StoreFault.{StoreFault}
use Rattle.std.proofs.lemmas.List.{get_or_default}
use Rattle.folder_core.specs.Folder.{Map, Told, NothingBelow, SameBut}
use Rattle.folder_core.specs.Crash.{IsImage, Touches, Elapses}
use Rattle.folder_core.specs.Step.{OnTold, Step}
use Rattle.backup_store.specs.Held.{IsDamaged}
use Rattle.backup_store.specs.PuttingBack.{HasRoomBack, PutsBack, TouchesRestored}
use Rattle.backup_store.proofs.Moments.{on_told_new}
use Rattle.install_journal.specs.Restored.{RestoresLike, RestoresSame}
use Rattle.install_journal.specs.Restoring.{IsUnderway, KeepsTo, AreBare, AreSetBack}
use Rattle.install_journal.specs.declared.plan.Oldest.{Oldest}
use Rattle.install_journal.specs.declared.plan.OldKind.TheVariants.{Nothing}
use Rattle.install_journal.specs.declared.plan.Plan.{Plan}
use Rattle.install_journal.proofs.PlanOrder.{IsAt}
use Rattle.install_journal.proofs.Restorings.{keeps_itself, keeps_then, keeps_touches, at_has, at_not_root, kept_alike}
use Rattle.install_journal.proofs.Runs.{on_told, on_each, on_both, at_told, step_on, step_both, step_from, step_then, step_same, start_at, one}
use Rattle.install_journal.proofs.PutSteps.{AreGone, AreSet, gone_first, gone_next, gone_room, gone_all, bare_set, set_skip, set_room, set_next, set_all, keeps_restored, undamaged}

pub at_item : (list items : List Oldest) (place : ℕ) (oldest : Oldest) → items ≡ list → place < length items → oldest ≡ get_or items place oldest → IsAt list place oldest
at_item list items place oldest is below at = record {
  below = subst (λ (l : List Oldest). place < length l) is below;
  is = ap (λ (l : List Oldest). get_or l place oldest) (sym is) ∙ sym at;
}

pub at_slot : (list items : List Oldest) (place : ℕ) (oldest : Oldest) → items ≡ list → place < length items → IsAt list place (get_or items place oldest)
at_slot list items place oldest is below = at_item list items place (get_or items place oldest) is below (get_or_default items place oldest (get_or items place oldest) below)

-- what can't be at the end of a run can't be before it
pub never_back : (old new : Option Told) (R : Told → Told → Type 0) → Step old new R → OnTold new (λ t. ⊥) → OnTold old (λ s. ⊥)
never_back None new R step never = tt
never_back (Some s) None R step never = absurd step
never_back (Some s) (Some t) R step never = never

-- a fault that is handed on
pub same_error : {X : Type 0} (result : Result X StoreFault) (fault : StoreFault) (P : StoreFault → Type 0) → IsErrAnd result (λ e. e ≡ fault) → P fault → IfErr result P
same_error (Ok x) fault P is p = tt
same_error (Err e) fault P is p = subst P (sym is) p

module _ (plan : Plan) where
  -- a run that has not begun
  pub none_kept : (told : Option Told) → Step told told (KeepsTo plan)
  none_kept told = step_same told (KeepsTo plan) (keeps_itself plan)

  pub kept_then : (old mid new : Option Told) → Step old mid (KeepsTo plan) → Step mid new (KeepsTo plan) → Step old new (KeepsTo plan)
  kept_then old mid new first second = step_then old mid new (KeepsTo plan) (KeepsTo plan) (KeepsTo plan) first second (keeps_then plan)

  pub gone_begun : (told : Option Told) (first : ℕ) → length plan.oldest ≤ first → OnTold told (IsUnderway plan) → OnTold told (AreGone plan first)
  gone_begun told first all underway = on_each told (IsUnderway plan) (AreGone plan first) (λ s is. gone_first plan s first all is) underway

  pub gone_underway : (told : Option Told) (first : ℕ) → OnTold told (AreGone plan first) → OnTold told (IsUnderway plan)
  gone_underway told first gone = on_each told (AreGone plan first) (IsUnderway plan) (λ s is. is.underway) gone

  pub set_underway : (told : Option Told) (count : ℕ) → OnTold told (AreSet plan count) → OnTold told (IsUnderway plan)
  set_underway told count set = on_each told (AreSet plan count) (IsUnderway plan) (λ s is. is.underway) set

  pub gone_done : (told : Option Told) (first : ℕ) → first ≤ 0 → OnTold told (AreGone plan first) → OnTold told (AreBare plan)
  gone_done told first none gone = on_each told (AreGone plan first) (AreBare plan) (λ s is. gone_all plan s first none is) gone

  pub bare_underway : (told : Option Told) → OnTold told (AreBare plan) → OnTold told (IsUnderway plan)
  bare_underway told bare = on_each told (AreBare plan) (IsUnderway plan) (λ s is. is.underway) bare

  pub set_begun : (told : Option Told) → OnTold told (AreBare plan) → OnTold told (AreSet plan 0)
  set_begun told bare = on_each told (AreBare plan) (AreSet plan 0) (bare_set plan) bare

  pub set_done : (told : Option Told) (count : ℕ) → length plan.oldest ≤ count → OnTold told (λ s. IsImage s s.now) → OnTold told (AreSet plan count) → OnTold told (AreSetBack plan)
  set_done told count all image set = on_each told (λ s. AreSet plan count s × IsImage s s.now) (AreSetBack plan) (λ s both. set_all plan s count all both.0 both.1)
      (on_both told (AreSet plan count) (λ s. IsImage s s.now) set image)

  module _ (place : ℕ) (oldest : Oldest) (at : IsAt plan.oldest place oldest) (old : Option Told) (image : OnTold old (λ s. IsImage s s.now)) where
    module _ (gone : OnTold old (AreGone plan (place + 1))) where
      pub gone_not_root : OnTold old (λ s. oldest.path ≢ [])
      gone_not_root = on_each old (AreGone plan (place + 1)) (λ s. oldest.path ≢ []) (λ s is. at_not_root plan s is.underway place oldest at) gone

      pub gone_alone : OnTold old (λ s. NothingBelow s.now oldest.path)
      gone_alone = on_each old (λ s. AreGone plan (place + 1) s × IsImage s s.now) (λ s. NothingBelow s.now oldest.path) (λ s both. gone_room plan s place oldest at both.0 both.1)
          (on_both old (AreGone plan (place + 1)) (λ s. IsImage s s.now) gone image)

      pub gone_keeps : (new : Option Told) → Step old new (Touches oldest.path) → Step old new (KeepsTo plan)
      gone_keeps new touches = step_from old new (AreGone plan (place + 1)) (Touches oldest.path) (KeepsTo plan) gone touches
          (λ s t is touch. keeps_touches plan s t oldest.path (at_has plan s is.underway place oldest at) touch)

      pub gone_more : (new : Option Told) → Step old new (Touches oldest.path) → Step old new (λ s t. SameBut oldest.path s.now t.now) → OnTold new (λ t. t.now oldest.path ≡ None) → OnTold new (AreGone plan place)
      gone_more new touches same none = step_on old new (AreGone plan (place + 1)) (AreGone plan place) (λ s t. (Touches oldest.path s t × SameBut oldest.path s.now t.now) × (t.now oldest.path ≡ None)) gone
          (on_told_new old new (λ t. t.now oldest.path ≡ None) (λ s t. Touches oldest.path s t × SameBut oldest.path s.now t.now) (λ s t. (Touches oldest.path s t × SameBut oldest.path s.now t.now) × (t.now oldest.path ≡ None))
          (λ s t gone calls. (calls, gone)) none (step_both old new (Touches oldest.path) (λ s t. SameBut oldest.path s.now t.now) touches same))
          (λ s t is call. gone_next plan s t place oldest at is call.0.0 call.0.1 call.1)

    module _ (set : OnTold old (AreSet plan place)) where
      set_image : OnTold old (λ s. AreSet plan place s × IsImage s s.now)
      set_image = on_both old (AreSet plan place) (λ s. IsImage s s.now) set image

      pub set_passed : oldest.kind ≡ Nothing → OnTold old (AreSet plan (place + 1))
      set_passed nothing = on_each old (AreSet plan place) (AreSet plan (place + 1)) (λ s is. set_skip plan s place oldest at is nothing) set

      pub set_has_room : oldest.kind ≢ Nothing → OnTold old (λ s. HasRoomBack s.now oldest.number.0)
      set_has_room some = on_each old (λ s. AreSet plan place s × IsImage s s.now) (λ s. HasRoomBack s.now oldest.number.0) (λ s both. set_room plan s place oldest at both.0 both.1 some) set_image

      pub set_undamaged : OnTold old (λ s. IsDamaged s.now oldest.number.0) → OnTold old (λ s. ⊥)
      set_undamaged damaged = on_each old (λ s. (AreSet plan place s × IsImage s s.now) × IsDamaged s.now oldest.number.0) (λ s. ⊥)
          (λ s all. undamaged plan s all.0.0.underway place oldest at all.0.1 all.1)
          (on_both old (λ s. AreSet plan place s × IsImage s s.now) (λ s. IsDamaged s.now oldest.number.0) set_image damaged)

      pub set_keeps : (new : Option Told) → Step old new (TouchesRestored oldest.number.0) → Step old new (KeepsTo plan)
      set_keeps new touches = step_from old new (λ s. AreSet plan place s × IsImage s s.now) (TouchesRestored oldest.number.0) (KeepsTo plan) set_image touches
          (λ s t both touch. keeps_restored plan s both.0.underway place oldest at both.1 t touch)

      pub set_more : (new : Option Told) → Step old new (TouchesRestored oldest.number.0) → Step old new (λ s t. PutsBack oldest.number.0 s.now t.now) → OnTold new (AreSet plan (place + 1))
      set_more new touches puts = step_on old new (λ s. AreSet plan place s × IsImage s s.now) (AreSet plan (place + 1)) (λ s t. TouchesRestored oldest.number.0 s t × PutsBack oldest.number.0 s.now t.now) set_image
          (step_both old new (TouchesRestored oldest.number.0) (λ s t. PutsBack oldest.number.0 s.now t.now) touches puts)
          (λ s t both call. set_next plan s place oldest at both.0 both.1 t call.0 call.1)

module _ {D : Type 0} (told : D → Option Told) (left_since : D → ℕ → Map → Type 0) (plan : Plan) (old : D)
    (underway : OnTold (told old) (IsUnderway plan))
    (image : OnTold (told old) (λ s. IsImage s s.now))
    (only : OnTold (told old) (λ s. (m : Map) → left_since old s.moment m → IsImage s m)) where
  pub same_begun : RestoresSame told left_since old old
  same_begun = on_told (told old) _ (λ s e.
      let is : IsUnderway plan s = at_told (told old) s (IsUnderway plan) e underway in
      let now : IsImage s s.now = at_told (told old) s (λ t. IsImage t t.now) e image in
      (start_at told left_since old s (RestoresLike s.now) only e (λ m. kept_alike plan s is s m now (keeps_itself plan s))).leaves)

  pub same_kept : (new : D) → Step (told old) (told new) (KeepsTo plan) → Step (told old) (told new) (λ s t. Elapses s.moment t.moment (left_since old) (left_since new) (IsImage t))
      → RestoresSame told left_since old new
  same_kept new keeps time = on_told (told old) _ (λ s e.
      let is : IsUnderway plan s = at_told (told old) s (IsUnderway plan) e underway in
      let now : IsImage s s.now = at_told (told old) s (λ t. IsImage t t.now) e image in
      (one told left_since old old new (λ t. t ≡ s) (KeepsTo plan s) (RestoresLike s.now) (KeepsTo plan)
      (start_at told left_since old s (RestoresLike s.now) only e (λ m. kept_alike plan s is s m now (keeps_itself plan s)))
      keeps time
      (λ t u same keep. subst (λ (x : Told). KeepsTo plan x u) same keep)
      (λ u m keep img. kept_alike plan s is u m now keep img)).leaves)
