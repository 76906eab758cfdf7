-- The row of `ln`.
use Rattle.std.proofs.Common.{◌≡◌, ℕ, ◌≤◌, false, List, [], ◌∷◌, ◌++◌, length, Option, Some, None, Ok, refl, ◌∙◌, ap, subst}
use Rattle.folder_core.specs.Folder.{Map, IsFormed}
use Rattle.folder_core.specs.declared.node.Node.{Node}
use Rattle.folder_core.specs.declared.node.Node.TheVariants.{Link}
use Rattle.action_core.specs.Places.{Site}
use Rattle.action_core.specs.Rows.{ln, unless}
use Rattle.action_core.specs.Standing.{IsInstall, SameNear}
use Rattle.action_core.specs.Steps.{CanPerform}
use Rattle.action_core.specs.Tests.{first_of, is_dir, common, present}
use Rattle.action_core.specs.declared.fault.ActionFault.{ActionFault}
use Rattle.action_core.specs.declared.step.Step.{Step}
use Rattle.action_core.specs.declared.step.Step.TheVariants.{Set}
use Rattle.native_actions.proofs.MkDirs.{passed_all}
use Rattle.native_actions.proofs.Near.{same_at, same_common}
use Rattle.native_actions.proofs.Settings.{first_passed, way_passed, common_way_passed, common_parent, nothing_below, inside, can_step}
use Rattle.instr_parser.specs.declared.call.Call.{Call}
use Rattle.instr_parser.specs.Given.{IsCall, Fill, slots_of}
use Rattle.action_core.specs.Places.{place_at, names_at, text_at}
use Rattle.action_core.specs.Standing.{IsShape, map_of, site_of}
use Rattle.action_core.specs.declared.shape.Shape.{Shape}
use Rattle.native_actions.proofs.Effects.{Laws, has_effect}
use Rattle.native_actions.proofs.Calls.{LinkPlace, link_place}

pub same_ln : (site : Site) (m n : Map) (path : List (List ℕ)) (target : List ℕ) → SameNear path m n → ln site m path target ≡ ln site n path target
same_ln site m n path target near =
    ap (λ (o : Option Node). unless (first_of (common site m path ∷ present o path ∷ [])) (Set path (Some (Link target)) ∷ [])) (same_at m n path near)
    ∙ ap (λ (f : Option ActionFault). unless (first_of (f ∷ present (n path) path ∷ [])) (Set path (Some (Link target)) ∷ [])) (same_common m n site path near)

absent_leaf : (node : Option Node) (path : List (List ℕ)) → present node path ≡ None → is_dir node ≡ false
absent_leaf None path none = refl
absent_leaf (Some node) path none = absurd (let no : ⊥ = cc in no)

pub ln_settable : (site : Site) (m : Map) (path names : List (List ℕ)) (target : List ℕ) (steps : List Step)
    → IsFormed m → IsInstall site.install → path ≡ site.install ++ names → length target ≤ 4096 → ln site m path target ≡ Ok steps → CanPerform site.install m steps
ln_settable site m path names target steps formed install at short is =
    let passed = passed_all (first_of (common site m path ∷ present (m path) path ∷ [])) (Set path (Some (Link target)) ∷ []) steps is in
    let first = first_passed (common site m path) (present (m path) path ∷ []) passed.0 in
    let second = first_passed (present (m path) path) [] first.1 in
    let below = inside site.install names path at (way_passed site m path (common_way_passed site m path first.0)) in
    subst (CanPerform site.install m) passed.1
    (can_step site.install m path (Some (Link target)) install below (common_parent site m path first.0) (nothing_below m path formed (absent_leaf (m path) path second.0)) short tt, tt)

pub ln_laws : (shape : Shape) (call : Call) → call.kind.0 ≡ 6 → IsCall call → IsShape shape → Laws shape call (ln (site_of shape) (map_of shape) (place_at (site_of shape) call 4 ++ names_at call 8) (text_at call 7))
ln_laws shape call is fills formed =
    let site = site_of shape in
    let path = place_at (site_of shape) call 4 ++ names_at call 8 in
    let place : LinkPlace site call = link_place site call (subst (λ (k : ℕ). Fill (slots_of k) call.params) is fills) in
    record {
      effect = λ outcome answers m stands. has_effect 6 call shape m outcome is formed stands (same_ln site m (map_of shape) path (text_at call 7) (stands.near path place.has)) answers;
      settable = λ steps answers m stands well. ln_settable site m path place.names (text_at call 7) steps well formed.install place.is place.target (same_ln site m (map_of shape) path (text_at call 7) (stands.near path place.has) ∙ answers);
    }
