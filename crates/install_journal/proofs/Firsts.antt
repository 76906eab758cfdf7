-- The first child of a directory.
use Rattle.std.proofs.Common.{◌≡◌, ℕ, List, [], ◌∷◌, ◌<◌, ◌++◌, get_or, ⊎_elim, Option, Some, None, Contains, refl, sym, ◌∙◌, ap, subst, arith}
use Rattle.std.proofs.lemmas.Bool.{false≢true}
use Rattle.std.proofs.lemmas.List.{get_or_default}
use Rattle.std.specs.Prelude.{slice_get, IsSome}
use Rattle.folder_core.specs.Folder.{Map, Told, IsFormed, IsKid}
use Rattle.folder_core.specs.Crash.{IsImage}
use Rattle.folder_core.specs.Name.{IsBefore, AreRising, AreThose}
use Rattle.folder_core.specs.PathOrder.{IsPathBefore}
use Rattle.folder_core.specs.Step.{OnTold}
use Rattle.folder_core.specs.declared.node.Node.{Node}
use Rattle.folder_core.specs.declared.node.Node.TheVariants.{Dir}
use Rattle.folder_core.proofs.Maps.{parent-push, push_some}
use Rattle.install_journal.specs.Firsts.{IsFirst}
use Rattle.install_journal.specs.Preparing.{IsChild, IsChildOf}
use Rattle.install_journal.proofs.Orders.{before_below, lower_place, not_before_itself}
use Rattle.install_journal.proofs.Runs.{on_each, on_both}

is_some_none : (stands : Option Node) → (IsSome stands → ⊥) → stands ≡ None
is_some_none None nope = refl
is_some_none (Some stands) nope = absurd (nope refl)

pub is_some_dir : (m : Map) (path : List (List ℕ)) (name : List ℕ) → IsFormed m → IsSome (m (path ++ name ∷ [])) → m path ≡ Some Dir
is_some_dir m path name formed some = go (m (path ++ name ∷ [])) refl some
  where
    go : (stands : Option Node) → m (path ++ name ∷ []) ≡ stands → IsSome stands → m path ≡ Some Dir
    go None is none = absurd (false≢true none)
    go (Some stands) is some = ap m (sym (parent-push (path ++ name ∷ []) path name refl)) ∙ formed.parents (path ++ name ∷ []) stands (push_some (path ++ name ∷ []) path name refl) is

no_child : (m : Map) (path : List (List ℕ)) (names : List (List ℕ)) → IsFormed m → AreThose (IsKid m path) names → names ≡ [] → (name : List ℕ) → m (path ++ name ∷ []) ≡ None
no_child m path names formed those none name = is_some_none (m (path ++ name ∷ [])) (λ some.
    let kid : IsKid m path name = record { directory = is_some_dir m path name formed some; stands = some } in
    let has = subst (λ (l : List (List ℕ)). Contains l name) none ((those name).1 kid) in
    absurd (omega (arith, has.1)))

pub found_none : (told : Option Told) (path : List (List ℕ)) (names : List (List ℕ)) → OnTold told (λ s. IsImage s s.now) → OnTold told (λ s. AreThose (IsKid s.now path) names) → slice_get names 0 ≡ None → OnTold told (λ s. IsChild s.now path None)
found_none told path [] image those none = on_each told (λ s. IsImage s s.now × AreThose (IsKid s.now path) []) (λ s. IsChild s.now path None)
    (λ s both. no_child s.now path [] both.0.formed both.1 refl) (on_both told (λ s. IsImage s s.now) (λ s. AreThose (IsKid s.now path) []) image those)
found_none told path (name ∷ names) image those none = absurd (let no : ⊥ = cc in no)

-- the child with the first name is the first
first_of_kids : (m : Map) (path : List (List ℕ)) (name : List ℕ) (names : List (List ℕ)) → IsFormed m → AreRising (name ∷ names) → AreThose (IsKid m path) (name ∷ names) → IsFirst (IsChildOf m path) (path ++ name ∷ [])
first_of_kids m path name names formed rising those = record {
  has = (((those name).0 (0, omega arith, refl)).stands, (name, refl));
  first = λ other child before.
      let next = child.1.0 in
      let some : IsSome (m (path ++ next ∷ [])) = subst (λ (p : List (List ℕ)). IsSome (m p)) child.1.1 child.0 in
      let at = (those next).1 (record { directory = is_some_dir m path next formed some; stands = some }) in
      let same : get_or (name ∷ names) at.0 [] ≡ next = get_or_default (name ∷ names) at.0 [] next at.1 ∙ at.2 in
      let earlier : IsPathBefore (path ++ next ∷ []) (path ++ name ∷ []) = subst (λ (p : List (List ℕ)). IsPathBefore p (path ++ name ∷ [])) child.1.1 before in
      ⊎_elim
      (λ less. let lower : at.0 < 0 = lower_place (name ∷ names) rising 0 at.0 at.1 (subst (λ (n : List ℕ). IsBefore n name) (sym same) less) in absurd (omega arith))
      (λ tied. not_before_itself [] tied.1)
      (before_below path next name [] [] earlier);
}

pub found_some : (told : Option Told) (path child : List (List ℕ)) (name : List ℕ) (names : List (List ℕ)) → OnTold told (λ s. IsImage s s.now) → AreRising names → OnTold told (λ s. AreThose (IsKid s.now path) names) → slice_get names 0 ≡ Some name → child ≡ path ++ name ∷ [] → OnTold told (λ s. IsChild s.now path (Some child))
found_some told path child name [] image rising those is same = absurd (let no : ⊥ = cc in no)
found_some told path child name (first ∷ names) image rising those is same = on_each told (λ s. IsImage s s.now × AreThose (IsKid s.now path) (first ∷ names)) (λ s. IsChild s.now path (Some child))
    (λ s here.
    let at : path ++ first ∷ [] ≡ child = let e : first ≡ name = cc in ap (λ (n : List ℕ). path ++ n ∷ []) e ∙ sym same in
    subst (IsFirst (IsChildOf s.now path)) at (first_of_kids s.now path first names here.0.formed rising here.1))
    (on_both told (λ s. IsImage s s.now) (λ s. AreThose (IsKid s.now path) (first ∷ names)) image those)
