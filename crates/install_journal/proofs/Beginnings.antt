-- A change begins.
use Rattle.std.proofs.Common.{◌≡◌, ℕ, ◌≤◌, List, [], Option, Some, None, Result, Ok, Err, OnOk, ◌⊎◌, inl, inr, sym, ◌∙◌, ap, subst}
use Rattle.std.specs.Bool.{⊤}
use Rattle.std.specs.Result.{IfErr}
use Rattle.folder_core.specs.Folder.{Map, Told}
use Rattle.folder_core.specs.Crash.{IsImage, AllImages, Narrows, Elapses, LeavesOnly}
use Rattle.folder_core.specs.Step.{OnTold, Step}
use Rattle.folder_core.proofs.Moments.{weaker, images_now}
use Rattle.backup_store.specs.Held.{IsFileOf, gate_text, IsOpen as OpensGate}
use Rattle.backup_store.specs.Places.{gate_path}
use Rattle.install_journal.specs.Looks.{Looks, OnlyLooks}
use Rattle.install_journal.specs.Overlay.{SameOutside}
use Rattle.install_journal.specs.Preparing.{IsPrepared, IsClosedOld, LeavesClosed, Moves, IsShut, OnUnchanged, OnRecover}
use Rattle.install_journal.specs.Restored.{RestoresTo}
use Rattle.install_journal.specs.Undoing.{OnDamage}
use Rattle.install_journal.specs.declared.fault.JournalFault.{JournalFault}
use Rattle.install_journal.specs.declared.fault.JournalFault.TheVariants.{Failed, Damaged, NoMemory}
use Rattle.install_journal.proofs.Fixing.{fixed_all}
use Rattle.install_journal.proofs.Opens.{image_back}
use Rattle.install_journal.proofs.Preparings.{moved_back, prepared_closed, moves_itself, looks_move, one_closed}
use Rattle.install_journal.proofs.Runs.{on_told, on_each, at_told, step_on, step_both, step_each, step_then, Ran, start_at, one, more}

pub on_ok : {X E : Type 0} (result : Result X E) (P : Type 0) → P → OnOk result P
on_ok (Ok x) P p = p
on_ok (Err e) P p = tt

pub undamaged_each : {X : Type 0} (result : Result X JournalFault) (P : List (List ℕ) → Type 0) → IfErr result (OnDamage (λ at. ⊥)) → IfErr result (OnDamage P)
undamaged_each (Ok x) P never = tt
undamaged_each (Err (Failed after)) P never = tt
undamaged_each (Err (Damaged path)) P never = absurd never
undamaged_each (Err (NoMemory after)) P never = tt

pub unchanged_each : {X : Type 0} (result : Result X JournalFault) (P Q : Type 0) → (P → Q) → IfErr result (OnUnchanged P) → IfErr result (OnUnchanged Q)
unchanged_each (Ok x) P Q f shut = tt
unchanged_each (Err (Failed after)) P Q f shut = λ is. f (shut is)
unchanged_each (Err (Damaged path)) P Q f shut = f shut
unchanged_each (Err (NoMemory after)) P Q f shut = λ is. f (shut is)

pub damage_each : {X : Type 0} (result : Result X JournalFault) (P Q : List (List ℕ) → Type 0) → ((at : List (List ℕ)) → P at → Q at) → IfErr result (OnDamage P) → IfErr result (OnDamage Q)
damage_each (Ok x) P Q f holds = tt
damage_each (Err (Failed after)) P Q f holds = tt
damage_each (Err (Damaged path)) P Q f holds = f path holds
damage_each (Err (NoMemory after)) P Q f holds = tt

pub recover_of : {X : Type 0} (result : Result X JournalFault) (P : Type 0) → P → IfErr result (OnRecover P)
recover_of (Ok x) P p = tt
recover_of (Err (Failed after)) P p = λ is. p
recover_of (Err (Damaged path)) P p = tt
recover_of (Err (NoMemory after)) P p = λ is. p

pub ok_each : {X E : Type 0} (result : Result X E) (P Q : Type 0) → (P → Q) → OnOk result P → OnOk result Q
ok_each (Ok x) P Q f p = f p
ok_each (Err e) P Q f p = tt

shut_at : (a b : Option Told) → Step a b (λ s t. ⊤) → OnTold b IsShut → Step a b (λ s t. IsShut s → IsShut t)
shut_at None None tells shut = tt
shut_at None (Some t) tells shut = absurd tells
shut_at (Some s) None tells shut = absurd tells
shut_at (Some s) (Some t) tells shut = λ was. shut

module _ {D : Type 0} (told : D → Option Told) (left_since : D → ℕ → Map → Type 0) where
  pub prepared_shut : (d : D) → OnTold (told d) IsPrepared → OnTold (told d) IsShut
  prepared_shut d prepared = on_each (told d) IsPrepared IsShut (λ s is m image. (prepared_closed s s m is (moves_itself s) image).1) prepared

  pub moves_stay : (old new : D) → Step (told old) (told new) Moves → Step (told old) (told new) (λ s t. SameOutside t.now s.now)
  moves_stay old new moves = step_each (told old) (told new) Moves (λ s t. SameOutside t.now s.now) (λ s t move path outside. move.now path (inl outside)) moves

  pub closed_restored : (old new : D) → LeavesClosed told left_since old new → OnTold (told old) (λ s. LeavesOnly told left_since old new (RestoresTo s.now))
  closed_restored old new leaves = on_each (told old) _ _ (λ s left. weaker told left_since old new (IsClosedOld s.now) (RestoresTo s.now) (λ m closed. closed.0) left) leaves

  pub looks_closed : (old new : D) → OnTold (told old) IsPrepared → OnTold (told old) (λ s. (m : Map) → left_since old s.moment m → IsImage s m) → OnlyLooks told left_since old new → LeavesClosed told left_since old new
  looks_closed old new prepared only looks = one_closed told left_since old new prepared only (looks_move told left_since old new looks)
      (step_each (told old) (told new) (Looks (left_since old) (left_since new)) (λ s t. Elapses s.moment t.moment (left_since old) (left_since new) (IsImage t)) (λ s t look. look.time) looks)

  pub outside_then : (old mid new : D) → Step (told old) (told mid) Moves → Step (told mid) (told new) (λ s t. SameOutside t.now s.now) → Step (told old) (told new) (λ s t. SameOutside t.now s.now)
  outside_then old mid new moves same = step_then (told old) (told mid) (told new) Moves (λ s t. SameOutside t.now s.now) (λ s t. SameOutside t.now s.now) moves same
      (λ s t u move so path outside. so path outside ∙ move.now path (inl outside))

  ran_at : (old mid : D) (s : Told) (P : Map → Type 0) (R : Told → Told → Type 0) → told old ≡ Some s → Step (told old) (told mid) R → LeavesOnly told left_since old mid P → Ran told left_since old mid (R s) P
  ran_at old mid s P R e step leaves = record { holds = go (told old) (told mid) e step; leaves = leaves }
    where
      go : (a b : Option Told) → a ≡ Some s → Step a b R → OnTold b (R s)
      go None b is step = absurd (let f : ⊥ = cc in f)
      go (Some t) None is step = tt
      go (Some t) (Some u) is step = subst (λ (x : Told). R x u) (let same : t ≡ s = cc in same) step

  pub open_then : (old mid new : D) → Step (told old) (told mid) Moves → OnTold (told old) (λ s. LeavesOnly told left_since old mid (RestoresTo s.now))
      → (C : Told → Told → Type 0) → Step (told mid) (told new) C → OnTold (told mid) (λ t. LeavesOnly told left_since mid new (RestoresTo t.now))
      → OnTold (told old) (λ s. LeavesOnly told left_since old new (RestoresTo s.now))
  open_then old mid new moves first C call second = on_told (told old) _ (λ s e.
      (more told left_since old mid new (Moves s) (λ t. Unit {0}) (RestoresTo s.now) C (λ t. RestoresTo t.now)
      (ran_at old mid s (RestoresTo s.now) Moves e moves (at_told (told old) s (λ t. LeavesOnly told left_since old mid (RestoresTo t.now)) e first))
      call second (λ t u move did. tt)
      (λ t m move restored. moved_back s t m move restored)).leaves)

  module _ (old : D) (closed : OnTold (told old) (λ s. ¬ (OpensGate s.now))) (only : OnTold (told old) (λ s. (m : Map) → left_since old s.moment m → IsImage s m)) where
    abbrev Left : Told → Map → Type 0
    Left s m = IsImage s m ⊎ RestoresTo s.now m

    pub none_left : OnTold (told old) (λ s. LeavesOnly told left_since old old (Left s))
    none_left = on_told (told old) _ (λ s e. (start_at told left_since old s (Left s) only e (λ m image. inl image)).leaves)

    pub looks_left : (new : D) → OnlyLooks told left_since old new → OnTold (told old) (λ s. LeavesOnly told left_since old new (Left s))
    looks_left new looks = on_told (told old) _ (λ s e.
        (one told left_since old old new (λ t. t ≡ s) (λ t. (t.synced ≡ s.synced) × (t.touched ≡ s.touched)) (Left s) (Looks (left_since old) (left_since new))
        (start_at told left_since old s (Left s) only e (λ m image. inl image))
        looks
        (step_each (told old) (told new) (Looks (left_since old) (left_since new)) (λ t u. Elapses t.moment u.moment (left_since old) (left_since new) (IsImage u)) (λ t u look. look.time) looks)
        (λ t u same look. (look.synced ∙ ap (λ (x : Told). x.synced) same, look.touched ∙ ap (λ (x : Told). x.touched) same))
        (λ u m same image. inl (image_back s u m same.0 same.1 image))).leaves)

    pub looks_shut : (new : D) → OnlyLooks told left_since old new → Step (told old) (told new) (λ s t. IsShut s → IsShut t)
    looks_shut new looks = step_each (told old) (told new) (Looks (left_since old) (left_since new)) (λ s t. IsShut s → IsShut t)
        (λ s t look shut m image. shut m (image_back s t m look.synced look.touched image)) looks

    module _ (mid : D)
        (stays : Step (told old) (told mid) (λ s t. t.now ≡ s.now))
        (synced : Step (told old) (told mid) (λ s t. t.synced ≡ s.now))
        (settled : Step (told old) (told mid) (λ s t. t.touched ≡ []))
        (narrows : Step (told old) (told mid) Narrows)
        (time : Step (told old) (told mid) (λ s t. Elapses s.moment t.moment (left_since old) (left_since mid) (IsImage t))) where
      pub mid_prepared : OnTold (told mid) IsPrepared
      mid_prepared = step_on (told old) (told mid) (λ s. ¬ (OpensGate s.now)) IsPrepared (λ s t. (t.now ≡ s.now) × ((t.synced ≡ s.now) × (t.touched ≡ []))) closed
          (step_both (told old) (told mid) (λ s t. t.now ≡ s.now) (λ s t. (t.synced ≡ s.now) × (t.touched ≡ [])) stays (step_both (told old) (told mid) (λ s t. t.synced ≡ s.now) (λ s t. t.touched ≡ []) synced settled))
          (λ s t shut call. record {
            rest = λ path left. fixed_all t t path (call.1.0 ∙ sym call.0) call.1.1;
            closed = λ opens. shut (subst (IsFileOf gate_text) (ap (λ (m : Map). m gate_path) call.0) opens);
          })

      module _ (new : D) where
        pub then_left : (C : Told → Told → Type 0) → Step (told mid) (told new) C → OnTold (told mid) (λ t. LeavesOnly told left_since mid new (RestoresTo t.now)) → OnTold (told old) (λ s. LeavesOnly told left_since old new (Left s))
        then_left C call leaves = on_told (told old) _ (λ s e.
            (more told left_since old mid new (λ t. (t.now ≡ s.now) × ((m : Map) → IsImage t m → IsImage s m)) (λ t. Unit {0}) (Left s) C (λ t. RestoresTo t.now)
            (one told left_since old old mid (λ t. t ≡ s) (λ t. (t.now ≡ s.now) × ((m : Map) → IsImage t m → IsImage s m)) (Left s) (λ t u. (u.now ≡ t.now) × Narrows t u)
            (start_at told left_since old s (Left s) only e (λ m image. inl image))
            (step_both (told old) (told mid) (λ s t. t.now ≡ s.now) Narrows stays narrows)
            time
            (λ t u same both. subst (λ (x : Told). (u.now ≡ x.now) × Narrows x u) same both)
            (λ u m both image. inl (both.1 m image)))
            call leaves (λ t u both did. tt)
            (λ t m both restored. inr (subst (λ (x : Map). RestoresTo x m) both.0 restored))).leaves)

        pub then_restores : OnTold (told mid) (λ t. LeavesOnly told left_since mid new (RestoresTo t.now)) → OnTold (told new) (λ t. (moment : ℕ) (m : Map) → moment ≤ t.moment → IsImage t m → left_since new moment m)
            → OnTold (told old) (λ s. AllImages (RestoresTo s.now) (told new))
        then_restores leaves counts = back_to (told old) (told mid) stays
            (on_each (told mid) _ (λ t. AllImages (RestoresTo t.now) (told new)) (λ t left. images_now told left_since mid new (RestoresTo t.now) counts left) leaves)
          where
            back_to : (a b : Option Told) → Step a b (λ s t. t.now ≡ s.now) → OnTold b (λ t. AllImages (RestoresTo t.now) (told new)) → OnTold a (λ s. AllImages (RestoresTo s.now) (told new))
            back_to None b same each = tt
            back_to (Some s) None same each = absurd same
            back_to (Some s) (Some t) same each = λ m image. subst (λ (x : Map). RestoresTo x m) same (each m image)

        pub then_stays : Step (told mid) (told new) (λ s t. SameOutside t.now s.now) → Step (told old) (told new) (λ s t. SameOutside t.now s.now)
        then_stays same = step_then (told old) (told mid) (told new) (λ s t. t.now ≡ s.now) (λ s t. SameOutside t.now s.now) (λ s t. SameOutside t.now s.now) stays same
            (λ s t u now so path outside. so path outside ∙ ap (λ (m : Map). m path) now)

        pub then_shut : (C : Told → Told → Type 0) → Step (told mid) (told new) C → OnTold (told new) IsShut → Step (told old) (told new) (λ s t. IsShut s → IsShut t)
        then_shut C call shut = shut_at (told old) (told new) (step_then (told old) (told mid) (told new) (λ s t. t.now ≡ s.now) C (λ s t. ⊤) stays call (λ s t u p q. tt)) shut

        pub then_same : Step (told mid) (told new) (λ s t. t.now ≡ s.now) → Step (told old) (told new) (λ s t. t.now ≡ s.now)
        then_same same = step_then (told old) (told mid) (told new) (λ s t. t.now ≡ s.now) (λ s t. t.now ≡ s.now) (λ s t. t.now ≡ s.now) stays same (λ s t u p q. q ∙ p)

      back_mid : (a b : Option Told) (P : Map → Type 0) → Step a b (λ s t. t.now ≡ s.now) → OnTold b (λ t. P t.now) → OnTold a (λ s. P s.now)
      back_mid None b P same holds = tt
      back_mid (Some s) None P same holds = absurd same
      back_mid (Some s) (Some t) P same holds = subst P same holds

      pub mid_back : (P : Map → Type 0) → OnTold (told mid) (λ t. P t.now) → OnTold (told old) (λ s. P s.now)
      mid_back P holds = back_mid (told old) (told mid) P stays holds
