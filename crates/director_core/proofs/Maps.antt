-- The nodes of the first install, put into an empty folder.
use Rattle.std.proofs.Common.{◌≡◌, ℕ, zero, suc, ◌-◌, ◌≤◌, true, List, [], ◌∷◌, length, take, Option, Some, None, nat_eq, refl, sym, ap, ◌∙◌, subst, lit≤, arith, eq-eqb}
use mathlib.Core.Path.{fun_ext}
use Rattle.std.specs.Prelude.{Contains}
use Rattle.std.specs.Cmp.Lexicographic.{pointwise}
use Rattle.std.proofs.lemmas.List.{length-take-le}
use Rattle.folder_core.specs.Crash.{IsImage}
use Rattle.folder_core.specs.Folder.{Told, Map, IsFormed}
use Rattle.folder_core.specs.Path.{parent}
use Rattle.folder_core.specs.Step.{OnTold, Step}
use Rattle.folder_core.specs.declared.node.Touch.{Touch}
use Rattle.folder_core.specs.declared.node.Node.{Node}
use Rattle.folder_core.specs.declared.node.Node.TheVariants.{Dir}
use Rattle.unit_model.specs.declared.unit.Unit.{Unit}
use Rattle.director_core.specs.Answer.{first_text}
use Rattle.director_core.specs.Durable.{IsDurable}
use Rattle.director_core.specs.FirstInstall.{first_touches}
use Rattle.director_core.specs.Laid.{bare, IsBare, laid, CanLay, AreNodes}

none_or_some : (o : Option Node) → ((x : Node) → o ≡ Some x → ⊥) → o ≡ None
none_or_some None h = refl
none_or_some (Some x) h = absurd (h x refl)

parent_of : (name x : List ℕ) (rest : List (List ℕ)) → parent (name ∷ x ∷ rest) ≡ name ∷ take (length rest) (x ∷ rest)
parent_of name x rest =
    let n : length (name ∷ x ∷ rest) - 1 ≡ suc (length rest) = omega arith in
    ap (λ (k : ℕ). take k (name ∷ x ∷ rest)) n

-- where nothing stands directly below the root, nothing stands deeper either
nothing_at : (m : Map) → IsFormed m → IsBare m → (n : ℕ) (name : List ℕ) (rest : List (List ℕ)) → length rest ≡ n → m (name ∷ rest) ≡ None
nothing_at m formed is_bare zero name [] e = is_bare name
nothing_at m formed is_bare zero name (x ∷ rest) e = absurd (omega arith)
nothing_at m formed is_bare (suc n) name [] e = absurd (omega arith)
nothing_at m formed is_bare (suc n) name (x ∷ rest) e =
    none_or_some (m (name ∷ x ∷ rest)) (λ node at.
    let above : m (parent (name ∷ x ∷ rest)) ≡ Some Dir = formed.parents (name ∷ x ∷ rest) node (λ f. cc) at in
    let shorter : length (take (length rest) (x ∷ rest)) ≡ n = length-take-le (length rest) (x ∷ rest) (omega arith) ∙ omega arith in
    let none : m (name ∷ take (length rest) (x ∷ rest)) ≡ None = nothing_at m formed is_bare n name (take (length rest) (x ∷ rest)) shorter in
    let same : parent (name ∷ x ∷ rest) ≡ name ∷ take (length rest) (x ∷ rest) = parent_of name x rest in
    let P : List (List ℕ) → Type 0 = λ path. m path ≡ Some Dir in
    let both = subst P same above in
    cc)

map_at : (m : Map) → IsFormed m → IsBare m → (path : List (List ℕ)) → m path ≡ bare path
map_at m formed is_bare [] = formed.root
map_at m formed is_bare (name ∷ rest) = nothing_at m formed is_bare (length rest) name rest refl

pub map_bare : (m : Map) → IsFormed m → IsBare m → m ≡ bare
map_bare m formed is_bare = fun_ext (map_at m formed is_bare)

bytes_same : (bytes : List ℕ) → pointwise nat_eq bytes bytes ≡ true
bytes_same [] = refl
bytes_same (b ∷ bytes) = rw (eq-eqb b b refl) (bytes_same bytes)

-- each directory and file of the first install may be put when its turn comes
pub can_lay_bare : (profile : List ℕ) (unit : Unit) → CanLay (first_touches profile unit) bare
can_lay_bare profile unit = (
  record { not_root = λ e. cc; parent = refl; nothing_below = λ n r. refl },
  (
    record { not_root = λ e. cc; parent = refl; nothing_below = λ n r. refl },
    (
      record { not_root = λ e. cc; parent = refl; nothing_below = λ n r. refl },
      (
        record { not_root = λ e. cc; parent = refl; nothing_below = λ n r. refl },
        (
          record { not_root = λ e. cc; parent = refl; nothing_below = λ n r. refl },
          (
            record { not_root = λ e. cc; parent = rw (bytes_same profile) refl; nothing_below = λ n r. rw (bytes_same profile) refl },
            (
              record { not_root = λ e. cc; parent = rw (bytes_same profile) refl; nothing_below = λ n r. rw (bytes_same profile) refl },
              tt,
            ),
          ),
        ),
      ),
    ),
  ),
)

pub first_nodes : (profile : List ℕ) (unit : Unit) → length (first_text profile unit) ≤ 67108864 → AreNodes (first_touches profile unit)
first_nodes profile unit fits = (
  (tt, tt),
  (
    (tt, tt),
    (
      (tt, tt),
      (
        (tt, tt),
        (
          (tt, tt),
          (
            (lit≤ tt, λ outside. fits),
            (
              (lit≤ tt, λ outside. lit≤ tt),
              tt,
            ),
          ),
        ),
      ),
    ),
  ),
)

pub can_lay_first : (a : Option Told) (profile : List ℕ) (unit : Unit) → OnTold a (λ s. IsFormed s.now) → OnTold a (λ s. IsBare s.now) → OnTold a (λ s. CanLay (first_touches profile unit) s.now)
can_lay_first None profile unit formed is_bare = tt
can_lay_first (Some s) profile unit formed is_bare =
    let P : Map → Type 0 = CanLay (first_touches profile unit) in
    subst P (sym (map_bare s.now formed is_bare)) (can_lay_bare profile unit)

pub laid_first : (m : Map) (profile : List ℕ) (unit : Unit) → IsFormed m → IsBare m → laid (first_touches profile unit) m ≡ laid (first_touches profile unit) bare
laid_first m profile unit formed is_bare = ap (λ (x : Map). laid (first_touches profile unit) x) (map_bare m formed is_bare)

pub put_leaves : (a b d : Option Told) (touches : List Touch) (profile : List ℕ) (unit : Unit) → touches ≡ first_touches profile unit
    → OnTold a (λ s. IsFormed s.now) → OnTold a (λ s. IsBare s.now)
    → Step a b (λ s t. t.now ≡ laid touches s.now)
    → Step b d (λ s t. t.now ≡ s.now)
    → Step a d (λ s t. t.now ≡ laid (first_touches profile unit) bare)
put_leaves None None None touches profile unit e formed is_bare p q = tt
put_leaves None None (Some u) touches profile unit e formed is_bare p q = absurd q
put_leaves None (Some t) d touches profile unit e formed is_bare p q = absurd p
put_leaves (Some s) None d touches profile unit e formed is_bare p q = absurd p
put_leaves (Some s) (Some t) None touches profile unit e formed is_bare p q = absurd q
put_leaves (Some s) (Some t) (Some u) touches profile unit e formed is_bare p q =
    q ∙ (p ∙ (ap (λ (ts : List Touch). laid ts s.now) e ∙ laid_first s.now profile unit formed is_bare))

-- a crash after a sync leaves what stands now
synced_image : (s t : Told) (m : Map) → t.synced ≡ s.now → t.touched ≡ [] → t.now ≡ s.now → IsImage t m → m ≡ t.now
synced_image s t m synced settled stays image =
    fun_ext (λ path. image.untouched path (λ has. no_place path (subst (λ l. Contains l path) settled has)) ∙ ap (λ (f : Map). f path) (synced ∙ sym stays))
  where
    no_place : (path : List (List ℕ)) → ¬ (Contains [] path)
    no_place path (n, below, at) = omega arith

pub durable_now : (a b : Option Told) → Step a b (λ s t. t.synced ≡ s.now) → Step a b (λ s t. t.touched ≡ []) → Step a b (λ s t. t.now ≡ s.now) → OnTold b IsDurable
durable_now None None p q r = tt
durable_now None (Some t) p q r = absurd p
durable_now (Some s) None p q r = tt
durable_now (Some s) (Some t) p q r = λ m. synced_image s t m p q r
