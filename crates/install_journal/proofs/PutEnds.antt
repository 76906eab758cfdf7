-- All of a plan is put back, and the gate is closed.
use Rattle.std.proofs.Common.{◌≡◌, ℕ, List, Option, None, Contains, inl, sym, ◌∙◌, ap, subst}
use Rattle.std.specs.Bool.{⊤}
use Rattle.folder_core.specs.Folder.{Map, Told, set_at}
use Rattle.folder_core.specs.Crash.{IsImage, Narrows, Elapses, LeavesOnly}
use Rattle.folder_core.specs.Step.{OnTold, Step}
use Rattle.backup_store.specs.Held.{IsOpen as OpensGate}
use Rattle.backup_store.specs.Places.{gate_path}
use Rattle.install_journal.specs.Closing.{IsButGate, IsClosed}
use Rattle.install_journal.specs.Overlay.{overlay}
use Rattle.install_journal.specs.Recovering.{PutsAllBack}
use Rattle.install_journal.specs.Restored.{RestoresLike, RestoresSame}
use Rattle.install_journal.specs.Restoring.{IsUnderway, KeepsTo, AreSetBack}
use Rattle.install_journal.specs.declared.plan.Plan.{Plan}
use Rattle.install_journal.proofs.Counting.{restores_alike}
use Rattle.install_journal.proofs.Finishings.{but_gate_foreign}
use Rattle.install_journal.proofs.Overlaying.{gate_uncovered, closing_restores_to}
use Rattle.install_journal.proofs.Restorings.{underway_keeps, keeps_itself, now_same, kept_restores, kept_alike}
use Rattle.install_journal.proofs.Runs.{on_told, on_both, at_told, step_on, step_both, step_each, step_from, step_then, start_at, one, more}
use Rattle.install_journal.proofs.PutSteps.{set_back_now}

gate_opens : (plan : Plan) (s : Told) → IsUnderway plan s → IsImage s s.now → OpensGate s.now
gate_opens plan s is image =
    let gathered = is.is_plan.gathered in
    (is.opened.0, now_same plan s is image gate_path (gate_uncovered gathered.entries s.synced gathered.sound.counted is.is_plan.can_overlay) ∙ is.opened.1)

puts_all : (plan : Plan) (s : Told) (m : Map) → AreSetBack plan s → m ≡ set_at s.now gate_path None → PutsAllBack plan.count s.synced m
puts_all plan s m done is = record {
  entries = done.underway.is_plan.gathered.entries;
  counted = done.underway.is_plan.gathered.sound.counted;
  can_overlay = done.underway.is_plan.can_overlay;
  count = done.underway.is_plan.gathered.count;
  now = is ∙ ap (λ (x : Map). set_at x gate_path None) (set_back_now plan s done);
}

module _ (plan : Plan) where
  pub underway_then : (old new : Option Told) → OnTold old (IsUnderway plan) → Step old new (KeepsTo plan) → OnTold new (IsUnderway plan)
  underway_then old new underway keeps = step_on old new (IsUnderway plan) (IsUnderway plan) (KeepsTo plan) underway keeps (underway_keeps plan)

  -- a sync that failed
  pub failed_keeps : (old new : Option Told) → Step old new (λ s t. t.synced ≡ s.synced) → Step old new (λ s t. t.touched ≡ s.touched) → Step old new (KeepsTo plan)
  failed_keeps old new synced touched = step_each old new (λ s t. (t.synced ≡ s.synced) × (t.touched ≡ s.touched)) (KeepsTo plan)
      (λ s t same. record { synced = same.0; touched = λ path has. inl (subst (λ (l : List (List (List ℕ))). Contains l path) same.1 has) })
      (step_both old new (λ s t. t.synced ≡ s.synced) (λ s t. t.touched ≡ s.touched) synced touched)

  pub opens_then : (old new : Option Told) → OnTold old (AreSetBack plan) → OnTold old (λ s. IsImage s s.now) → Step old new (λ s t. t.now ≡ s.now) → OnTold new (λ t. OpensGate t.now)
  opens_then old new done image stays = step_on old new (λ s. AreSetBack plan s × IsImage s s.now) (λ t. OpensGate t.now) (λ s t. t.now ≡ s.now)
      (on_both old (AreSetBack plan) (λ s. IsImage s s.now) done image) stays
      (λ s t both same. subst OpensGate (sym same) (gate_opens plan s both.0.underway both.1))

  -- what stood before the first call is put back after the last
  pub all_back : (first old mid new : Option Told) → Step first old (λ s t. t.synced ≡ s.synced) → OnTold old (AreSetBack plan) → Step old mid (λ s t. t.now ≡ s.now) → Step mid new IsClosed
      → Step first new (λ s t. PutsAllBack plan.count s.synced t.now)
  all_back first old mid new unsynced done stays closed = step_then first old new (λ s t. t.synced ≡ s.synced) (λ s t. PutsAllBack plan.count s.synced t.now) (λ s t. PutsAllBack plan.count s.synced t.now) unsynced
      (step_from old new (AreSetBack plan) (λ s t. t.now ≡ set_at s.now gate_path None) (λ s t. PutsAllBack plan.count s.synced t.now) done
      (step_then old mid new (λ s t. t.now ≡ s.now) IsClosed (λ s t. t.now ≡ set_at s.now gate_path None) stays closed
      (λ s t u same shut. shut.now ∙ ap (λ (m : Map). set_at m gate_path None) same))
      (λ s t is now. puts_all plan s t.now is now))
      (λ s t u same puts. subst (λ (m : Map). PutsAllBack plan.count m u.now) same puts)

  pub unsynced_then : (old mid new : Option Told) → Step old mid (KeepsTo plan) → Step mid new (KeepsTo plan) → Step old new (λ s t. t.synced ≡ s.synced)
  unsynced_then old mid new first second = step_then old mid new (KeepsTo plan) (KeepsTo plan) (λ s t. t.synced ≡ s.synced) first second (λ s t u p q. q.synced ∙ p.synced)

pub end_tells : (old mid new : Option Told) → Step old mid (λ s t. t.now ≡ s.now) → (C : Told → Told → Type 0) → Step mid new C → Step old new (λ s t. ⊤)
end_tells old mid new stays C call = step_then old mid new (λ s t. t.now ≡ s.now) C (λ s t. ⊤) stays call (λ s t u p q. tt)

-- A sync, and the closing of the gate.
module _ {D : Type 0} (told : D → Option Told) (left_since : D → ℕ → Map → Type 0) (plan : Plan) (old : D)
    (done : OnTold (told old) (AreSetBack plan))
    (image : OnTold (told old) (λ s. IsImage s s.now))
    (only : OnTold (told old) (λ s. (m : Map) → left_since old s.moment m → IsImage s m))
    (mid new : D)
    (stays : Step (told old) (told mid) (λ s t. t.now ≡ s.now))
    (narrows : Step (told old) (told mid) Narrows)
    (time : Step (told old) (told mid) (λ s t. Elapses s.moment t.moment (left_since old) (left_since mid) (IsImage t))) where
  closing_alike : (s : Told) (m : Map) → AreSetBack plan s → IsImage s s.now → IsButGate s.now m → RestoresLike s.now m
  closing_alike s m is now but =
      let gathered = is.underway.is_plan.gathered in
      restores_alike s.now m (overlay gathered.entries s.synced)
      (kept_restores plan s is.underway s s.now (keeps_itself plan s) now)
      (closing_restores_to gathered.entries s.synced gathered.sound.counted is.underway.is_plan.can_overlay m (subst (λ (x : Map). IsButGate x m) (set_back_now plan s is) but))
      (but_gate_foreign s.now m but)

  image_alike : (s : Told) (m : Map) → AreSetBack plan s → IsImage s s.now → IsImage s m → RestoresLike s.now m
  image_alike s m is now img = kept_alike plan s is.underway s m now (keeps_itself plan s) img

  pub end_same : (C : Told → Told → Type 0) → Step (told mid) (told new) C → OnTold (told mid) (λ t. LeavesOnly told left_since mid new (IsButGate t.now)) → RestoresSame told left_since old new
  end_same C call leaves = on_told (told old) _ (λ s e.
      let is : AreSetBack plan s = at_told (told old) s (AreSetBack plan) e done in
      let now : IsImage s s.now = at_told (told old) s (λ t. IsImage t t.now) e image in
      (more told left_since old mid new (λ t. (t.now ≡ s.now) × ((m : Map) → IsImage t m → IsImage s m)) (λ t. Unit {0}) (RestoresLike s.now) C (λ t. IsButGate t.now)
      (one told left_since old old mid (λ t. t ≡ s) (λ t. (t.now ≡ s.now) × ((m : Map) → IsImage t m → IsImage s m)) (RestoresLike s.now) (λ t u. (u.now ≡ t.now) × Narrows t u)
      (start_at told left_since old s (RestoresLike s.now) only e (λ m. image_alike s m is now))
      (step_both (told old) (told mid) (λ s t. t.now ≡ s.now) Narrows stays narrows)
      time
      (λ t u same both. subst (λ (x : Told). (u.now ≡ x.now) × Narrows x u) same both)
      (λ u m both img. image_alike s m is now (both.1 m img)))
      call leaves (λ t u both did. tt)
      (λ t m both but. closing_alike s m is now (subst (λ (x : Map). IsButGate x m) both.0 but))).leaves)
