-- What a recovery does.
use Rattle.std.proofs.Common.{◌≡◌, ℕ, ◌≤◌, List, [], Option, Some, None, Result, Ok, Err, OnOk, inl, inr, ⊎_elim, refl, sym, ◌∙◌, ap, subst}
use Rattle.std.specs.Result.{IfOk, IfErr}
use Rattle.folder_core.specs.Folder.{Map, Told}
use Rattle.folder_core.specs.Crash.{IsImage, AllImages, Narrows, Elapses, LeavesOnly}
use Rattle.folder_core.specs.Step.{OnTold, Step}
use Rattle.folder_core.proofs.Maps.{changed_here, changed_other}
use Rattle.folder_core.proofs.Moments.{weaker, images_now}
use Rattle.backup_store.specs.Held.{gate_text, IsOpen as OpensGate}
use Rattle.backup_store.specs.Places.{gate_path}
use Rattle.backup_store.specs.Looking.{IsStill}
use Rattle.install_journal.specs.Broken.{IsBroken, NamesDamage}
use Rattle.install_journal.specs.Closing.{IsSynced}
use Rattle.install_journal.specs.Looks.{Looks, OnlyLooks}
use Rattle.install_journal.specs.Overlay.{overlay, SameOutside}
use Rattle.install_journal.specs.Plan.{IsPlan}
use Rattle.install_journal.specs.Preparing.{IsShut, OnUnchanged}
use Rattle.install_journal.specs.Recovering.{IsLeftOrRestores, OnNoMemoryUnchanged, PutsAllBack, Recovers, RestoresToo, SettlesWhatRestores}
use Rattle.install_journal.specs.Restored.{IsRestored, IsSettled, RestoresLike, RestoresSame}
use Rattle.install_journal.specs.declared.fault.JournalFault.{JournalFault}
use Rattle.install_journal.specs.declared.fault.JournalFault.TheVariants.{Failed, Damaged, NoMemory}
use Rattle.install_journal.specs.declared.plan.Plan.{Plan}
use Rattle.install_journal.specs.declared.recovering.Recovered.{Recovered}
use Rattle.install_journal.specs.declared.recovering.Recovered.TheVariants.{Nothing, Entries}
use Rattle.install_journal.proofs.Brokens.{never_broken}
use Rattle.install_journal.proofs.Closings.{nothing_touched}
use Rattle.install_journal.proofs.Counting.{closed_restores}
use Rattle.install_journal.proofs.Keeps.{no_file}
use Rattle.install_journal.proofs.Opens.{image_back}
use Rattle.install_journal.proofs.Overlaying.{same_restores_to}
use Rattle.install_journal.proofs.Runs.{on_told, on_each, on_both, step_on, step_both, step_each, step_then, start_at, one, more}

-- what a map with an open gate and such a plan restores to
plan_restores : (plan : Plan) (m : Map) (is : IsPlan plan m) → OpensGate m → IsRestored m (overlay is.gathered.entries m)
plan_restores plan m is opened = same_restores_to is.gathered.entries m is.gathered.sound.counted is.can_overlay opened m (λ path none. refl)

-- a folder that is synced, with a closed gate, is settled
settled_at : (restored : Map) (t : Told) → IsSynced t → ¬ (OpensGate t.now) → SameOutside t.now restored → IsSettled restored t
settled_at restored t synced shut same =
    let image_now : (m : Map) → IsImage t m → (path : List (List ℕ)) → m path ≡ t.now path = λ m image path.
    image.untouched path (nothing_touched path t.touched synced.settled) ∙ ap (λ (x : Map). x path) synced.synced in
    let closed : (m : Map) → IsImage t m → ¬ (OpensGate m) = λ m image opens. shut (opens.0, sym (image_now m image gate_path) ∙ opens.1) in
    record {
      now = same;
      restores = λ m image. closed_restores m restored (closed m image) (λ path outside. sym (image_now m image path ∙ same path outside));
      closed = closed;
    }

back_settles : (count : ℕ) (s t : Told) → OpensGate s.now → PutsAllBack count s.now t.now → IsSynced t → SettlesWhatRestores s t
back_settles count s t opened back synced = (
  overlay back.entries s.now,
  (
    same_restores_to back.entries s.now back.counted back.can_overlay opened s.now (λ path none. refl),
    settled_at (overlay back.entries s.now) t synced
        (no_file gate_text (t.now gate_path) (ap (λ (m : Map). m gate_path) back.now ∙ changed_here (overlay back.entries s.now) gate_path None gate_path refl))
        (λ path outside. ap (λ (m : Map). m path) back.now ∙ changed_other (overlay back.entries s.now) gate_path None path (λ at. outside _ at)),
  ),
)

recovers_settles : (recovered : Recovered) (s t : Told) → Recovers recovered s.now t.now → IsSynced t → SettlesWhatRestores s t
recovers_settles Nothing s t (closed, same) synced = (
  s.now,
  (
    closed_restores s.now s.now closed (λ path outside. refl),
    settled_at s.now t synced (λ opens. closed (opens.0, ap (λ (m : Map). m gate_path) (sym same) ∙ opens.1)) (λ path outside. ap (λ (m : Map). m path) same),
  ),
)
recovers_settles (Entries count) s t (opened, back) synced = back_settles count s t opened back synced

step_at : (a b : Option Told) (R : Told → Told → Type 0) (P : Told → Type 0) (Q : Told → Told → Type 0) → Step a b R → OnTold b P → ((s t : Told) → R s t → P t → Q s t) → Step a b Q
step_at None None R P Q step holds f = tt
step_at None (Some t) R P Q step holds f = absurd step
step_at (Some s) None R P Q step holds f = absurd step
step_at (Some s) (Some t) R P Q step holds f = f s t step holds

step_told : (a b : Option Told) (R : Told → Told → Type 0) (P : Told → Type 0) → Step a b R → ((s t : Told) → R s t → P s) → OnTold a P
step_told None b R P step f = tt
step_told (Some s) None R P step f = absurd step
step_told (Some s) (Some t) R P step f = f s t step

pub settles_ok : {E : Type 0} (result : Result Recovered E) (a b : Option Told) → IfOk result (λ recovered. Step a b (λ s t. Recovers recovered s.now t.now)) → OnOk result (OnTold b IsSynced) → OnOk result (Step a b SettlesWhatRestores)
settles_ok (Ok recovered) a b recovers synced = step_at a b (λ s t. Recovers recovered s.now t.now) IsSynced SettlesWhatRestores recovers synced (recovers_settles recovered)
settles_ok (Err fault) a b recovers synced = tt

pub undamaged_ok : {X E : Type 0} (result : Result X E) (a b : Option Told) → OnOk result (Step a b SettlesWhatRestores) → OnOk result (OnTold a (λ s. (path : List (List ℕ)) → ¬ (IsBroken s.now path)))
undamaged_ok (Ok x) a b settles = step_told a b SettlesWhatRestores (λ s. (path : List (List ℕ)) → ¬ (IsBroken s.now path)) settles
    (λ s t restored path broken. never_broken s.now path restored.0 broken restored.1.0)
undamaged_ok (Err e) a b settles = tt

pub broken_never : (told : Option Told) (at : List (List ℕ)) → OnTold told (λ s. IsBroken s.now at) → OnTold told (λ s. (restored : Map) → ¬ (IsRestored s.now restored))
broken_never told at broken = on_each told (λ s. IsBroken s.now at) (λ s. (restored : Map) → ¬ (IsRestored s.now restored)) (λ s is restored. never_broken s.now at restored is) broken

pub recovers_then : {E : Type 0} (result : Result Recovered E) (a b d : Option Told) → Step a b (λ s t. t.now ≡ s.now) → IfOk result (λ recovered. Step b d (λ s t. Recovers recovered s.now t.now)) → IfOk result (λ recovered. Step a d (λ s t. Recovers recovered s.now t.now))
recovers_then (Ok recovered) a b d stays recovers = step_then a b d (λ s t. t.now ≡ s.now) (λ s t. Recovers recovered s.now t.now) (λ s t. Recovers recovered s.now t.now) stays recovers
    (λ s t u same is. subst (λ (m : Map). Recovers recovered m u.now) same is)
recovers_then (Err fault) a b d stays recovers = tt

pub broken_of : (told : Option Told) (at : List (List ℕ)) → OnTold told (λ s. OpensGate s.now) → OnTold told (λ s. NamesDamage s.now at) → OnTold told (λ s. IsBroken s.now at)
broken_of told at opened names = on_each told (λ s. OpensGate s.now × NamesDamage s.now at) (λ s. IsBroken s.now at) (λ s both. record { opened = both.0; names = both.1 })
    (on_both told (λ s. OpensGate s.now) (λ s. NamesDamage s.now at) opened names)

-- what a map before has, where the map stays
pub back_now : (a b : Option Told) (P : Map → Type 0) → Step a b (λ s t. t.now ≡ s.now) → OnTold b (λ t. P t.now) → OnTold a (λ s. P s.now)
back_now None b P stays holds = tt
back_now (Some s) None P stays holds = absurd stays
back_now (Some s) (Some t) P stays holds = subst P stays holds

pub shut_then : (a b d : Option Told) → Step a b Narrows → Step b d IsStill → Step a d (λ s t. IsShut s → IsShut t)
shut_then a b d narrows still = step_then a b d Narrows IsStill (λ s t. IsShut s → IsShut t) narrows still
    (λ s t u narrow more shut m image. shut m (narrow m (image_back t u m more.synced more.touched image)))

-- after a sync all is synced
pub synced_once : (a b : Option Told) → Step a b (λ s t. t.now ≡ s.now) → Step a b (λ s t. t.synced ≡ s.now) → Step a b (λ s t. t.touched ≡ []) → OnTold b IsSynced
synced_once None None stays synced settled = tt
synced_once None (Some t) stays synced settled = absurd stays
synced_once (Some s) None stays synced settled = tt
synced_once (Some s) (Some t) stays synced settled = record { synced = synced ∙ sym stays; settled = settled }

-- where nothing is put back, all stays synced
pub still_synced : {X : Type 0} (result : Result X JournalFault) (a b : Option Told) → OnTold a IsSynced → IfErr result (OnUnchanged (Step a b IsStill)) → IfErr result (OnNoMemoryUnchanged (OnTold b IsSynced))
still_synced (Ok x) a b synced unchanged = tt
still_synced (Err (Failed after)) a b synced unchanged = tt
still_synced (Err (Damaged path)) a b synced unchanged = tt
still_synced (Err (NoMemory after)) a b synced unchanged = λ is. step_on a b IsSynced IsSynced IsStill synced (unchanged is)
    (λ s t had still. record { synced = still.synced ∙ had.synced ∙ sym still.now; settled = still.touched ∙ had.settled })

pub shut_once : (a b : Option Told) → Step a b Narrows → Step a b (λ s t. IsShut s → IsShut t)
shut_once a b narrows = step_each a b Narrows (λ s t. IsShut s → IsShut t) (λ s t narrow shut m image. shut m (narrow m image)) narrows

module _ {D : Type 0} (told : D → Option Told) (left_since : D → ℕ → Map → Type 0) where
  pub looks_stay : (old new : D) → OnlyLooks told left_since old new → Step (told old) (told new) (λ s t. t.now ≡ s.now)
  looks_stay old new looks = step_each (told old) (told new) (Looks (left_since old) (left_since new)) (λ s t. t.now ≡ s.now) (λ s t look. look.now) looks

  pub looks_narrow : (old new : D) → OnlyLooks told left_since old new → Step (told old) (told new) Narrows
  looks_narrow old new looks = step_each (told old) (told new) (Looks (left_since old) (left_since new)) Narrows (λ s t look m image. image_back s t m look.synced look.touched image) looks

  pub looks_time : (old new : D) → OnlyLooks told left_since old new → Step (told old) (told new) (λ s t. Elapses s.moment t.moment (left_since old) (left_since new) (IsImage t))
  looks_time old new looks = step_each (told old) (told new) (Looks (left_since old) (left_since new)) (λ s t. Elapses s.moment t.moment (left_since old) (left_since new) (IsImage t)) (λ s t look. look.time) looks

  -- a map that stays restores as before
  pub restores_left : (old new : D) (plan : Plan) → OnTold (told old) (λ s. IsPlan plan s.now) → OnTold (told old) (λ s. OpensGate s.now) → RestoresSame told left_since old new → OnTold (told old) (λ s. LeavesOnly told left_since old new (RestoresToo s.now))
  restores_left old new plan is opened restores = on_each (told old) (λ s. (IsPlan plan s.now × OpensGate s.now) × LeavesOnly told left_since old new (RestoresLike s.now)) (λ s. LeavesOnly told left_since old new (RestoresToo s.now))
      (λ s all. weaker told left_since old new (RestoresLike s.now) (RestoresToo s.now)
      (λ m like. record { opened = all.0.1; restored = overlay all.0.0.gathered.entries s.now; is_restored = plan_restores plan s.now all.0.0 all.0.1; too = like.restores _ (plan_restores plan s.now all.0.0 all.0.1); foreign = like.foreign }) all.1)
      (on_both (told old) (λ s. IsPlan plan s.now × OpensGate s.now) (λ s. LeavesOnly told left_since old new (RestoresLike s.now)) (on_both (told old) (λ s. IsPlan plan s.now) (λ s. OpensGate s.now) is opened) restores)

  pub too_left : (old new : D) → OnTold (told old) (λ s. LeavesOnly told left_since old new (RestoresToo s.now)) → OnTold (told old) (λ s. LeavesOnly told left_since old new (IsLeftOrRestores s))
  too_left old new leaves = on_each (told old) _ _ (λ s left. weaker told left_since old new (RestoresToo s.now) (IsLeftOrRestores s) (λ m too. inr too) left) leaves

  -- the images at the end of a run that restores
  pub too_now : (old new : D) → OnTold (told new) (λ t. (moment : ℕ) (m : Map) → moment ≤ t.moment → IsImage t m → left_since new moment m)
      → OnTold (told old) (λ s. LeavesOnly told left_since old new (RestoresToo s.now)) → OnTold (told old) (λ s. AllImages (RestoresToo s.now) (told new))
  too_now old new counts leaves = on_each (told old) _ (λ s. AllImages (RestoresToo s.now) (told new)) (λ s left. images_now told left_since old new (RestoresToo s.now) counts left) leaves

  module _ (old : D) (only : OnTold (told old) (λ s. (m : Map) → left_since old s.moment m → IsImage s m)) where
    module _ (mid : D)
        (stays : Step (told old) (told mid) (λ s t. t.now ≡ s.now))
        (narrows : Step (told old) (told mid) Narrows)
        (time : Step (told old) (told mid) (λ s t. Elapses s.moment t.moment (left_since old) (left_since mid) (IsImage t))) where
      -- a call that changes nothing but the moment, or that syncs
      pub once_left : OnTold (told old) (λ s. LeavesOnly told left_since old mid (IsLeftOrRestores s))
      once_left = on_told (told old) _ (λ s e.
          (one told left_since old old mid (λ t. t ≡ s) (λ t. (m : Map) → IsImage t m → IsImage s m) (IsLeftOrRestores s) Narrows
          (start_at told left_since old s (IsLeftOrRestores s) only e (λ m image. inl image))
          narrows time
          (λ t u same narrow. subst (λ (x : Told). Narrows x u) same narrow)
          (λ u m narrow image. inl (narrow m image))).leaves)

      -- and a run after it
      pub left_then : (new : D) (C : Told → Told → Type 0) → Step (told mid) (told new) C → OnTold (told mid) (λ t. LeavesOnly told left_since mid new (IsLeftOrRestores t)) → OnTold (told old) (λ s. LeavesOnly told left_since old new (IsLeftOrRestores s))
      left_then new C call leaves = on_told (told old) _ (λ s e.
          (more told left_since old mid new (λ t. (t.now ≡ s.now) × Narrows s t) (λ t. Unit {0}) (IsLeftOrRestores s) C IsLeftOrRestores
          (one told left_since old old mid (λ t. t ≡ s) (λ t. (t.now ≡ s.now) × Narrows s t) (IsLeftOrRestores s) (λ t u. (u.now ≡ t.now) × Narrows t u)
          (start_at told left_since old s (IsLeftOrRestores s) only e (λ m image. inl image))
          (step_both (told old) (told mid) (λ s t. t.now ≡ s.now) Narrows stays narrows)
          time
          (λ t u same both. subst (λ (x : Told). (u.now ≡ x.now) × Narrows x u) same both)
          (λ u m both image. inl (both.1 m image)))
          call leaves (λ t u both did. tt)
          (λ t m both left. ⊎_elim (λ image. inl (both.1 m image)) (λ too. inr (subst (λ (x : Map). RestoresToo x m) both.0 too)) left)).leaves)
