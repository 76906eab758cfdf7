-- Paths of some kind alone are touched: how that goes on, and what a crash leaves.
use Rattle.std.proofs.Common.{◌≡◌, ◌⊎◌, inl, inr, ⊎_elim, ℕ, zero, suc, ◌+◌, ◌≤◌, List, [], ◌∷◌, ◌++◌, length, Option, Some, None, Contains, refl, sym, ◌∙◌, ap, subst, arith, length-append}
use Rattle.std.proofs.lemmas.List.{append_assoc}
use Rattle.folder_core.specs.Folder.{Map, Told, IsFormed, NothingBelow, SameBut}
use Rattle.folder_core.specs.Crash.{IsImage, Touches}
use Rattle.folder_core.specs.Path.{parent}
use Rattle.folder_core.specs.declared.node.Node.TheVariants.{Dir}
use Rattle.folder_core.proofs.Maps.{front_last, parent-push, push_some}
use Rattle.backup_store.specs.KeepingAll.{TouchesOnly, IsImageBut}
use Rattle.backup_store.specs.Looking.{IsStill}

some_or_none : {V : Type 0} (o : Option V) → (o ≡ None) ⊎ ((v : V) × (o ≡ Some v))
some_or_none None = inl refl
some_or_none (Some v) = inr (v, refl)

-- Below what isn't there nothing stands.
none_below : (m : Map) → IsFormed m → (path : List (List ℕ)) → m path ≡ None → (depth : ℕ) (name : List ℕ) (rest : List (List ℕ)) → length rest ≤ depth → m (path ++ name ∷ rest) ≡ None
none_below m formed path none depth name [] short = ⊎_elim
    (λ absent. absent)
    (λ there.
    let above = formed.parents (path ++ name ∷ []) there.0 (push_some (path ++ name ∷ []) path name refl) there.1 in
    let same : m path ≡ Some Dir = ap m (sym (parent-push (path ++ name ∷ []) path name refl)) ∙ above in
    absurd (let no_node : ⊥ = cc in no_node))
    (some_or_none (m (path ++ name ∷ [])))
none_below m formed path none zero name (next ∷ rest) short = absurd (omega arith)
none_below m formed path none (suc depth) name (next ∷ rest) short = ⊎_elim
    (λ absent. absent)
    (λ there.
    let place = path ++ name ∷ next ∷ rest in
    let cut = front_last (next ∷ rest) (λ e. cc) in
    let front = parent (next ∷ rest) in
    let whole : place ≡ (path ++ name ∷ front) ++ cut.0 ∷ [] = ap (λ (l : List (List ℕ)). path ++ name ∷ l) cut.1 ∙ sym (append_assoc path (name ∷ front) (cut.0 ∷ [])) in
    let above = formed.parents place there.0 (push_some place (path ++ name ∷ front) cut.0 whole) there.1 in
    let same : m (path ++ name ∷ front) ≡ Some Dir = ap m (sym (parent-push place (path ++ name ∷ front) cut.0 whole)) ∙ above in
    let counted : length (next ∷ rest) ≡ length front + 1 = ap length cut.1 ∙ length-append front (cut.0 ∷ []) in
    let absent = none_below m formed path none depth name front (omega (arith, counted)) in
    absurd (let no_node : ⊥ = cc in no_node))
    (some_or_none (m (path ++ name ∷ next ∷ rest)))

pub nothing_below : (m : Map) (path : List (List ℕ)) → IsFormed m → m path ≡ None → NothingBelow m path
nothing_below m path formed none name rest = none_below m formed path none (length rest) name rest (omega arith)

pub nothing_in : (place : List (List ℕ)) (l : List (List (List ℕ))) → l ≡ [] → ¬ (Contains l place)
nothing_in place l is (n, below, at) = let same = subst (λ (x : List (List (List ℕ))). Contains x place) is (n, below, at) in absurd (omega (arith, same.1))

pub touches_same : (P : List (List ℕ) → Type 0) (s : Told) → TouchesOnly P s s
touches_same P s = record { synced = refl; touched = λ place has. inl has; kept = λ place has. has; elsewhere = λ place apart. refl }

-- one call after another
pub touches_then : (P Q : List (List ℕ) → Type 0) (s t u : Told) → ((place : List (List ℕ)) → Q place → P place)
    → TouchesOnly P s t → TouchesOnly Q t u → TouchesOnly P s u
touches_then P Q s t u among first second = record {
  synced = second.synced ∙ first.synced;
  touched = λ place has. ⊎_elim (first.touched place) (λ is. inr (among place is)) (second.touched place has);
  kept = λ place has. second.kept place (first.kept place has);
  elsewhere = λ place apart. second.elsewhere place (λ is. apart (among place is)) ∙ first.elsewhere place apart;
}

pub touches_wider : (P Q : List (List ℕ) → Type 0) (s t : Told) → ((place : List (List ℕ)) → Q place → P place) → TouchesOnly Q s t → TouchesOnly P s t
touches_wider P Q s t among touches = touches_then P Q s s t among (touches_same P s) touches

pub still_touches : (P : List (List ℕ) → Type 0) (s t : Told) → IsStill s t → TouchesOnly P s t
still_touches P s t still = record {
  synced = still.synced;
  touched = λ place has. inl (subst (λ l. Contains l place) still.touched has);
  kept = λ place has. subst (λ l. Contains l place) (sym still.touched) has;
  elsewhere = λ place apart. ap (λ (m : Map). m place) still.now;
}

pub touches_still : (P : List (List ℕ) → Type 0) (s t u : Told) → TouchesOnly P s t → IsStill t u → TouchesOnly P s u
touches_still P s t u touches still = touches_then P P s t u (λ place is. is) touches (still_touches P t u still)

-- a call that sets one path
pub touches_one : (path : List (List ℕ)) (s t : Told) → Touches path s t → SameBut path s.now t.now → TouchesOnly (λ place. place ≡ path) s t
touches_one path s t touches same = record { synced = touches.synced; touched = touches.touched; kept = touches.kept; elsewhere = same }

-- a crash then
pub touches_image : (P : List (List ℕ) → Type 0) (s t : Told) (m : Map) → TouchesOnly P s t → IsImage t m → IsImageBut P s m
touches_image P s t m touches image = record {
  formed = image.formed;
  untouched = λ place before apart.
      image.untouched place (λ has. ⊎_elim before apart (touches.touched place has)) ∙ ap (λ (f : Map). f place) touches.synced;
}

pub image_but : (P : List (List ℕ) → Type 0) (s : Told) (m : Map) → IsImage s m → IsImageBut P s m
image_but P s m image = touches_image P s s m (touches_same P s) image
