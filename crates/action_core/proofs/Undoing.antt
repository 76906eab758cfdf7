-- Undone the newest first, steps leave the map before.
use Rattle.std.proofs.Common.{◌≡◌, ℕ, List, [], ◌∷◌, ◌++◌, Option, Result, Ok, Err, inl, inr, refl, sym, ◌∙◌, ap}
use Rattle.folder_core.specs.Folder.{Map, set_at}
use Rattle.folder_core.specs.declared.node.Node.{Node}
use Rattle.folder_core.specs.declared.node.Touch.{Touch}
use Rattle.folder_core.proofs.Maps.{same_path, changed_here, changed_other}
use Rattle.action_core.specs.Steps.{performed, old_nodes, put_back, Undoes}
use Rattle.std.specs.Result.{IfOk}
use Rattle.action_core.specs.declared.fault.ActionFault.{ActionFault}
use Rattle.action_core.specs.declared.step.Step.{Step}
use Rattle.action_core.specs.declared.step.Step.TheVariants.{Set, Note}

-- maps are the same where they are at each path
pub same_maps : (m n : Map) → ((path : List (List ℕ)) → m path ≡ n path) → m ≡ n
same_maps m n each = λ i path. each path i

set_back : (m : Map) (path : List (List ℕ)) (node : Option Node) → set_at (set_at m path node) path (m path) ≡ m
set_back m path node = same_maps _ _ (λ place. elim (same_path place path) [
  | inl here ↦ changed_here (set_at m path node) path (m path) place here ∙ ap m (sym here)
  | inr other ↦ changed_other (set_at m path node) path (m path) place other ∙ changed_other m path node place other
])

put_back-append : (m : Map) (first second : List Touch) → put_back m (first ++ second) ≡ put_back (put_back m first) second
put_back-append m [] second = refl
put_back-append m (touch ∷ first) second = put_back-append (set_at m touch.path touch.node) first second

pub undoes : (m : Map) (steps : List Step) → Undoes m steps
undoes m [] = refl
undoes m (Set path node ∷ steps) =
    put_back-append (performed (set_at m path node) steps) (old_nodes (set_at m path node) steps) (record { path = path; node = m path } ∷ [])
    ∙ ap (λ (n : Map). set_at n path (m path)) (undoes (set_at m path node) steps)
    ∙ set_back m path node
undoes m (Note paths ∷ steps) = undoes m steps

pub undoes_if_ok : (result : Result (List Step) ActionFault) → IfOk result (λ steps. (m : Map) → Undoes m steps)
undoes_if_ok (Ok steps) = λ m. undoes m steps
undoes_if_ok (Err fault) = tt
