-- A plan is being put back.
use Rattle.std.proofs.Common.{◌≡◌, ◌≢◌, ℕ, ◌<◌, List, [], ◌∷◌, ◌++◌, None, inl, inr, ⊎_elim, refl, sym, ◌∙◌, ap, subst}
use Rattle.folder_core.specs.Folder.{Map, Told, NothingBelow}
use Rattle.folder_core.specs.Crash.{IsImage, Touches}
use Rattle.folder_core.specs.Path.{IsBelow}
use Rattle.backup_store.specs.Places.{gate_path}
use Rattle.backup_store.specs.declared.entry.Entry.{Entry}
use Rattle.install_journal.specs.Overlay.{overlay, Covers}
use Rattle.install_journal.specs.Plan.{IsPlan}
use Rattle.install_journal.specs.Restored.{AreCounted, CanOverlay, IsRestored, RestoresLike}
use Rattle.install_journal.specs.Restoring.{HasPath, IsUnderway, KeepsTo, IsSetBack}
use Rattle.install_journal.specs.Tidy.{IsForeign}
use Rattle.install_journal.specs.declared.plan.Oldest.{Oldest}
use Rattle.install_journal.specs.declared.plan.Plan.{Plan}
use Rattle.install_journal.proofs.Counting.{restores_alike}
use Rattle.install_journal.proofs.Overlaying.{same_restores_to}
use Rattle.install_journal.proofs.Overlays.{covers_or_not}
use Rattle.install_journal.proofs.PlanOrder.{IsAt, at_contained, contained_at, below_higher}

pub underway_keeps : (plan : Plan) (s t : Told) → IsUnderway plan s → KeepsTo plan s t → IsUnderway plan t
underway_keeps plan s t underway keeps = record {
  is_plan = subst (IsPlan plan) (sym keeps.synced) underway.is_plan;
  opened = (underway.opened.0, ap (λ (m : Map). m gate_path) keeps.synced ∙ underway.opened.1);
  touched = λ path has. ⊎_elim (underway.touched path) (λ own. own) (keeps.touched path has);
}

pub keeps_itself : (plan : Plan) (s : Told) → KeepsTo plan s s
keeps_itself plan s = record { synced = refl; touched = λ path has. inl has }

pub keeps_then : (plan : Plan) (s t u : Told) → KeepsTo plan s t → KeepsTo plan t u → KeepsTo plan s u
keeps_then plan s t u first second = record {
  synced = second.synced ∙ first.synced;
  touched = λ path has. ⊎_elim (first.touched path) (λ own. inr own) (second.touched path has);
}

pub keeps_touches : (plan : Plan) (s t : Told) (path : List (List ℕ)) → HasPath plan path → Touches path s t → KeepsTo plan s t
keeps_touches plan s t path has touches = record {
  synced = touches.synced;
  touched = λ place at. ⊎_elim (λ old. inl old) (λ here. inr (subst (HasPath plan) (sym here) has)) (touches.touched place at);
}

-- what is set back in one map is so in another over what is synced alike
pub set_back_same : (s t : Told) (path : List (List ℕ)) → t.synced ≡ s.synced → t.now path ≡ s.now path → IsSetBack s path → IsSetBack t path
set_back_same s t path synced now set entries counted =
    now ∙ set entries (subst (λ (m : Map). AreCounted m entries) synced counted) ∙ ap (λ (m : Map). overlay entries m path) (sym synced)

module _ (plan : Plan) (s : Told) (underway : IsUnderway plan s) where
  abbrev entries : List Entry
  entries = underway.is_plan.gathered.entries

  abbrev counted : AreCounted s.synced entries
  counted = underway.is_plan.gathered.sound.counted

  abbrev can : CanOverlay entries s.synced
  can = underway.is_plan.can_overlay

  pub has_covered : (path : List (List ℕ)) → HasPath plan path → Covers entries path
  has_covered path has = (underway.is_plan.gathered.covers path).1 has

  pub covered_has : (path : List (List ℕ)) → Covers entries path → HasPath plan path
  covered_has path covers = (underway.is_plan.gathered.covers path).0 covers

  pub at_has : (place : ℕ) (oldest : Oldest) → IsAt plan.oldest place oldest → HasPath plan oldest.path
  at_has place oldest at = (oldest, (contained_at plan.oldest place oldest at, refl))

  pub at_covered : (place : ℕ) (oldest : Oldest) → IsAt plan.oldest place oldest → Covers entries oldest.path
  at_covered place oldest at = has_covered oldest.path (at_has place oldest at)

  pub at_not_root : (place : ℕ) (oldest : Oldest) → IsAt plan.oldest place oldest → oldest.path ≢ []
  at_not_root place oldest at root = can.not_root (subst (Covers entries) root (at_covered place oldest at))

  -- what lies at no path of the plan is in each image as it is synced
  image_same : (m : Map) → IsImage s m → (path : List (List ℕ)) → ¬ (Covers entries path) → m path ≡ s.synced path
  image_same m image path none = image.untouched path (λ at. none (has_covered path (underway.touched path at)))

  -- what a crash leaves while nothing but the plan's paths is touched restores to the overlay
  pub kept_restores : (t : Told) (m : Map) → KeepsTo plan s t → IsImage t m → IsRestored m (overlay entries s.synced)
  kept_restores t m keeps image = same_restores_to entries s.synced counted can underway.opened m (λ path none.
      image.untouched path (λ at. none (has_covered path (⊎_elim (underway.touched path) (λ own. own) (keeps.touched path at))))
      ∙ ap (λ (x : Map). x path) keeps.synced)

  -- and has what is synced where it isn't the journal's
  pub kept_foreign : (t : Told) (m : Map) → KeepsTo plan s t → IsImage t m → (path : List (List ℕ)) → IsForeign path → m path ≡ s.synced path
  kept_foreign t m keeps image path foreign =
      image.untouched path (λ at. can.outside path (has_covered path (⊎_elim (underway.touched path) (λ own. own) (keeps.touched path at))) _ foreign.below)
      ∙ ap (λ (x : Map). x path) keeps.synced

  pub kept_alike : (t : Told) (m : Map) → IsImage s s.now → KeepsTo plan s t → IsImage t m → RestoresLike s.now m
  kept_alike t m now keeps image =
      restores_alike s.now m (overlay entries s.synced) (kept_restores s s.now (keeps_itself plan s) now) (kept_restores t m keeps image)
      (λ path foreign. kept_foreign t m keeps image path foreign ∙ sym (kept_foreign s s.now (keeps_itself plan s) now path foreign))

  -- where the map now is an image
  module _ (image : IsImage s s.now) where
    pub now_same : (path : List (List ℕ)) → ¬ (Covers entries path) → s.now path ≡ s.synced path
    now_same = image_same s.now image

    -- nothing stands below a path of the plan where nothing stands at those below it
    pub bare_below : (place : ℕ) (oldest : Oldest) → IsAt plan.oldest place oldest
        → ((other : ℕ) (next : Oldest) → IsAt plan.oldest other next → place < other → s.now next.path ≡ None)
        → NothingBelow s.now oldest.path
    bare_below place oldest at bare name rest =
        let beneath : IsBelow oldest.path (oldest.path ++ name ∷ rest) = (name, rest, refl) in
        elim (covers_or_not entries (oldest.path ++ name ∷ rest)) [
          | inl covers ↦
              let next = covered_has (oldest.path ++ name ∷ rest) covers in
              let next_at = at_contained plan.oldest next.0 next.1.0 in
              let higher = below_higher plan.oldest underway.is_plan.gathered.rising place next_at.0 oldest next.0 at next_at.1
              (subst (IsBelow oldest.path) (sym next.1.1) beneath) in
              ap s.now (sym next.1.1) ∙ bare next_at.0 next.0 next_at.1 higher
          | inr none ↦
              now_same (oldest.path ++ name ∷ rest) none
              ∙ can.none_below oldest.path (oldest.path ++ name ∷ rest) (at_covered place oldest at) beneath none
        ]
