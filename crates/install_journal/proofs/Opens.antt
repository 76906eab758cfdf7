-- A change stays open over the calls that are made on it.
use Rattle.std.proofs.Common.{◌≡◌, ℕ, List, Option, Some, None, Contains, false, sym, ◌∙◌, ap, subst}
use Rattle.folder_core.specs.Folder.{Map, Told}
use Rattle.folder_core.specs.Crash.{IsImage, Elapses}
use Rattle.folder_core.specs.Step.{OnTold, Step}
use Rattle.folder_core.specs.declared.node.Node.{Node}
use Rattle.install_journal.specs.Fixed.{IsFixed}
use Rattle.install_journal.specs.Kept.{Undoes}
use Rattle.install_journal.specs.Looks.{Looks, OnlyLooks}
use Rattle.install_journal.specs.Open.{IsOpen, spoiled}
use Rattle.install_journal.specs.Restored.{RestoresLike, RestoresSame}
use Rattle.install_journal.specs.declared.change.Change.{Change}
use Rattle.install_journal.proofs.Fixing.{fixed_same}
use Rattle.install_journal.proofs.Keeps.{kept_alike, kept_goes_on}
use Rattle.install_journal.proofs.Runs.{on_told, at_told, step_on, step_each, start_at, one}

pub open_spoiled : (change : Change) (s : Told) → IsOpen change s → IsOpen (spoiled change) s
open_spoiled change s is = record {
  entries = is.entries;
  behind = is.behind;
  old = is.old;
  count = is.count;
  left = is.left;
  kept = is.kept;
  undoes = is.undoes;
  all_left = is.all_left;
  free = is.free;
}

pub open_unready : (change : Change) (s : Told) → IsOpen change s → IsOpen (record change { ready = false }) s
open_unready change s is = record {
  entries = is.entries;
  behind = is.behind;
  old = is.old;
  count = is.count;
  left = is.left;
  kept = is.kept;
  undoes = is.undoes;
  all_left = λ no. absurd (let f : ⊥ = cc in f);
  free = λ no. absurd (let f : ⊥ = cc in f);
}

-- what is fixed stays so, and so does the map now
pub open_stays : (change : Change) (s t : Told) → IsOpen change s → t.now ≡ s.now
    → ((path : List (List ℕ)) (stands : Option Node) → IsFixed s path stands → IsFixed t path stands)
    → IsOpen change t
open_stays change s t is now goes = record {
  entries = is.entries;
  behind = is.behind;
  old = is.old;
  count = is.count;
  left = is.left;
  kept = kept_goes_on is.entries is.behind is.old s t is.kept (λ path stands none. goes path stands);
  undoes = subst (λ (m : Map). Undoes is.entries change.left m is.old) (sym now) is.undoes;
  all_left = is.all_left;
  free = is.free;
}

pub open_looks : (change : Change) (s t : Told) (past since : ℕ → Map → Type 0) → IsOpen change s → Looks past since s t → IsOpen change t
open_looks change s t past since is looks = open_stays change s t is looks.now (λ path stands. fixed_same s t path stands looks.synced looks.touched)

-- each image restores to what the map now restores to
pub open_restores : (change : Change) (s : Told) (m : Map) → IsOpen change s → IsImage s s.now → IsImage s m → RestoresLike s.now m
open_restores change s m is image_now image = kept_alike is.entries is.behind is.entries is.behind is.old s s s.now m is.kept image_now is.kept image

looks_at : (a b : Option Told) (past since : ℕ → Map → Type 0)
    → Step a b (λ s t. t.now ≡ s.now) → Step a b (λ s t. t.synced ≡ s.synced) → Step a b (λ s t. t.touched ≡ s.touched)
    → Step a b (λ s t. Elapses s.moment t.moment past since (IsImage t))
    → Step a b (Looks past since)
looks_at None None past since now synced touched time = tt
looks_at None (Some t) past since now synced touched time = absurd now
looks_at (Some s) None past since now synced touched time = absurd now
looks_at (Some s) (Some t) past since now synced touched time = record { now = now; synced = synced; touched = touched; time = time }

-- an image of what is synced and touched alike
pub image_back : (s t : Told) (m : Map) → t.synced ≡ s.synced → t.touched ≡ s.touched → IsImage t m → IsImage s m
image_back s t m synced touched image = record {
  formed = image.formed;
  untouched = λ path none. image.untouched path (λ is. none (subst (λ (l : List (List (List ℕ))). Contains l path) touched is)) ∙ ap (λ (x : Map). x path) synced;
}

module _ {D : Type 0} (told : D → Option Told) (left_since : D → ℕ → Map → Type 0) where
  pub looked_open : (change : Change) (old new : D) → OnTold (told old) (IsOpen change) → OnlyLooks told left_since old new → OnTold (told new) (IsOpen change)
  looked_open change old new is looks =
      step_on (told old) (told new) (IsOpen change) (IsOpen change) (Looks (left_since old) (left_since new)) is looks
      (λ s t had look. open_looks change s t (left_since old) (left_since new) had look)

  pub looks_of : (old new : D)
      → Step (told old) (told new) (λ s t. t.now ≡ s.now)
      → Step (told old) (told new) (λ s t. t.synced ≡ s.synced)
      → Step (told old) (told new) (λ s t. t.touched ≡ s.touched)
      → Step (told old) (told new) (λ s t. Elapses s.moment t.moment (left_since old) (left_since new) (IsImage t))
      → OnlyLooks told left_since old new
  looks_of old new now synced touched time = looks_at (told old) (told new) (left_since old) (left_since new) now synced touched time

  -- the images over a look
  pub looked_restores : (change : Change) (old new : D)
      → OnTold (told old) (λ s. IsImage s s.now)
      → OnTold (told old) (λ s. (m : Map) → left_since old s.moment m → IsImage s m)
      → OnTold (told old) (IsOpen change)
      → OnlyLooks told left_since old new
      → RestoresSame told left_since old new
  looked_restores change old new image only is looks = on_told (told old) _ (λ s e.
      let began : IsOpen change s = at_told (told old) s (IsOpen change) e is in
      let now : IsImage s s.now = at_told (told old) s (λ t. IsImage t t.now) e image in
      let alike : (m : Map) → IsImage s m → RestoresLike s.now m = λ m. open_restores change s m began now in
      (one told left_since old old new (λ t. t ≡ s) (λ t. (t.synced ≡ s.synced) × (t.touched ≡ s.touched)) (RestoresLike s.now) (Looks (left_since old) (left_since new))
      (start_at told left_since old s (RestoresLike s.now) only e alike)
      looks
      (step_each (told old) (told new) (Looks (left_since old) (left_since new)) (λ t u. Elapses t.moment u.moment (left_since old) (left_since new) (IsImage u)) (λ t u look. look.time) looks)
      (λ t u same look. (look.synced ∙ ap (λ (x : Told). x.synced) same, look.touched ∙ ap (λ (x : Told). x.touched) same))
      (λ u m same image. alike m (image_back s u m same.0 same.1 image))).leaves)
