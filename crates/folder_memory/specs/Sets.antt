-- An equation of what stands somewhere has one proof at most, so one out of sight is one in sight.
use Rattle.std.specs.Prelude.{◌≡◌, ◌⊎◌, ℕ, List, Option, Some, None, refl}
use Rattle.std.proofs.Common.{inl, inr, sym, ◌∙◌, ap}
use Rattle.std.proofs.Math.Logic.{∥∥₁_elim}
use Rattle.std.proofs.Props.{props}
use mathlib.Core.HLevel.{collapsible→set, prop→set, Unit-prop}
use mathlib.Core.Sum.{⊎_set}
use Rattle.folder_core.specs.declared.node.Node.{Node}
use Rattle.folder_core.specs.declared.node.Node.TheVariants.{File, Dir, Link}

-- a type that maps into a set and back is a set
retract_set : {A B : Type 0} (to : A → B) (from : B → A) → ((x : A) → from (to x) ≡ x) → IsSet B → IsSet A
retract_set to from back set = collapsible→set (λ x y p. sym (back x) ∙ ap from (ap to p) ∙ back y)
    (λ x y p q. ap (λ z. sym (back x) ∙ ap from z ∙ back y) (set (to x) (to y) (ap to p) (ap to q)))

abbrev Parts : Type 0
Parts = (ℕ × List ℕ) ⊎ (List ℕ ⊎ (Unit {0} ⊎ Unit {0}))

abbrev to_parts : Option Node → Parts
to_parts (Some (File mode blob)) = inl (mode, blob)
to_parts (Some (Link target)) = inr (inl target)
to_parts (Some Dir) = inr (inr (inl tt))
to_parts None = inr (inr (inr tt))

abbrev from_parts : Parts → Option Node
from_parts (inl p) = Some (File p.0 p.1)
from_parts (inr (inl target)) = Some (Link target)
from_parts (inr (inr (inl u))) = Some Dir
from_parts (inr (inr (inr u))) = None

parts_back : (node : Option Node) → from_parts (to_parts node) ≡ node
parts_back (Some (File mode blob)) = refl
parts_back (Some (Link target)) = refl
parts_back (Some Dir) = refl
parts_back None = refl

unit_set : IsSet (Unit {0})
unit_set = prop→set Unit-prop

bytes_set : IsSet (List ℕ)
bytes_set = hlevel props

file_set : IsSet (ℕ × List ℕ)
file_set = hlevel props

pub nodes_set : IsSet (Option Node)
nodes_set =
    let ends : IsSet (Unit {0} ⊎ Unit {0}) = ⊎_set {A = Unit {0}} {B = Unit {0}} unit_set unit_set in
    let others : IsSet (List ℕ ⊎ (Unit {0} ⊎ Unit {0})) = ⊎_set {A = List ℕ} {B = Unit {0} ⊎ Unit {0}} bytes_set ends in
    retract_set to_parts from_parts parts_back (⊎_set {A = ℕ × List ℕ} {B = List ℕ ⊎ (Unit {0} ⊎ Unit {0})} file_set others)

pub node_had : (a b : Option Node) → ∥ a ≡ b ∥₁ → a ≡ b
node_had a b had = ∥∥₁_elim had (nodes_set a b) (λ h. h)
