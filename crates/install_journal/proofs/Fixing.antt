-- What no crash can change goes on standing.
use Rattle.std.proofs.Common.{◌≡◌, ◌≢◌, ℕ, List, [], Option, Contains, ⊎_elim, ◌∙◌, ap, subst, arith}
use Rattle.folder_core.specs.Folder.{Map, Told}
use Rattle.folder_core.specs.Crash.{IsImage, Touches}
use Rattle.folder_core.specs.declared.node.Node.{Node}
use Rattle.install_journal.specs.Fixed.{IsFixed}

pub fixed_image : (s : Told) (m : Map) (path : List (List ℕ)) (stands : Option Node) → IsFixed s path stands → IsImage s m → m path ≡ stands
fixed_image s m path stands fixed image = image.untouched path fixed.untouched ∙ fixed.synced

pub fixed_touches : (s t : Told) (place path : List (List ℕ)) (stands : Option Node) → Touches place s t → path ≢ place → IsFixed s path stands → IsFixed t path stands
fixed_touches s t place path stands touches apart fixed = record {
  untouched = λ is. ⊎_elim fixed.untouched apart (touches.touched path is);
  synced = ap (λ (m : Map). m path) touches.synced ∙ fixed.synced;
}

pub fixed_same : (s t : Told) (path : List (List ℕ)) (stands : Option Node) → t.synced ≡ s.synced → t.touched ≡ s.touched → IsFixed s path stands → IsFixed t path stands
fixed_same s t path stands synced touched fixed = record {
  untouched = λ is. fixed.untouched (subst (λ (l : List (List (List ℕ))). Contains l path) touched is);
  synced = ap (λ (m : Map). m path) synced ∙ fixed.synced;
}

none_in_nothing : (path : List (List ℕ)) (l : List (List (List ℕ))) → l ≡ [] → ¬ (Contains l path)
none_in_nothing path l is (k, below, at) = let same = subst (λ (x : List (List (List ℕ))). Contains x path) is (k, below, at) in absurd (omega (arith, same.1))

-- after a sync, what stands now stands in each image
pub fixed_all : (s t : Told) (path : List (List ℕ)) → t.synced ≡ s.now → t.touched ≡ [] → IsFixed t path (s.now path)
fixed_all s t path synced touched = record {
  untouched = none_in_nothing path t.touched touched;
  synced = ap (λ (m : Map). m path) synced;
}

pub fixed_synced : (s t : Told) (path : List (List ℕ)) (stands : Option Node) → IsImage s s.now → t.synced ≡ s.now → t.touched ≡ [] → IsFixed s path stands → IsFixed t path stands
fixed_synced s t path stands image synced touched fixed =
    subst (λ (n : Option Node). IsFixed t path n) (fixed_image s s.now path stands fixed image) (fixed_all s t path synced touched)
