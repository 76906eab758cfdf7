-- What stands at a path is removed, if anything does.
use Rattle.std.proofs.Common.{◌≡◌, ℕ, List, Option, None, Contains, ◌⊎◌, refl, sym, ◌∙◌, ap, subst}
use Rattle.folder_core.specs.Folder.{Map, Told, set_at}
use Rattle.folder_core.specs.Crash.{Touches}
use Rattle.folder_core.specs.Step.{OnTold, Step}
use Rattle.folder_core.proofs.Maps.{changed_here}
use Rattle.backup_store.specs.Looking.{IsStill}
use Rattle.backup_store.proofs.Moments.{on_new}
use Rattle.install_journal.proofs.Runs.{step_both, step_each, step_then}

pub still_of : (old new : Option Told) → Step old new (λ s t. t.now ≡ s.now) → Step old new (λ s t. t.synced ≡ s.synced) → Step old new (λ s t. t.touched ≡ s.touched) → Step old new IsStill
still_of old new now synced touched = step_each old new (λ s t. (t.now ≡ s.now) × ((t.synced ≡ s.synced) × (t.touched ≡ s.touched))) IsStill
    (λ s t all. record { now = all.0; synced = all.1.0; touched = all.1.1 })
    (step_both old new (λ s t. t.now ≡ s.now) (λ s t. (t.synced ≡ s.synced) × (t.touched ≡ s.touched)) now (step_both old new (λ s t. t.synced ≡ s.synced) (λ s t. t.touched ≡ s.touched) synced touched))

touches_after : (path : List (List ℕ)) (s t u : Told) → IsStill s t → Touches path t u → Touches path s u
touches_after path s t u still touches = record {
  synced = touches.synced ∙ still.synced;
  touched = λ place has. subst (λ (l : List (List (List ℕ))). Contains l place ⊎ (place ≡ path)) still.touched (touches.touched place has);
  kept = λ place has. touches.kept place (subst (λ (l : List (List (List ℕ))). Contains l place) (sym still.touched) has);
}

pub set_touches : (old mid new : Option Told) (path : List (List ℕ)) → Step old mid IsStill → Step mid new (Touches path) → Step old new (Touches path)
set_touches old mid new path still touches = step_then old mid new IsStill (Touches path) (Touches path) still touches (touches_after path)

pub set_removes : (mid new : Option Told) (path : List (List ℕ)) → Step mid new (λ s t. t.now ≡ set_at s.now path None) → OnTold new (λ t. t.now path ≡ None)
set_removes mid new path set = on_new mid new (λ s t. t.now ≡ set_at s.now path None) (λ t. t.now path ≡ None)
    (λ s t is. ap (λ (m : Map). m path) is ∙ changed_here s.now path None path refl) set
