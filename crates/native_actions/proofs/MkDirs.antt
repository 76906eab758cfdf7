-- The row of `mkdir`.
use Rattle.std.proofs.Common.{◌≡◌, ℕ, Bool, cond, List, [], ◌∷◌, ◌++◌, Option, Some, None, Ok, inl, inr, refl, sym, ◌∙◌, ap, subst}
use Rattle.std.proofs.lemmas.Bool.{cases_Bool}
use Rattle.folder_core.specs.Folder.{Map, IsFormed}
use Rattle.folder_core.specs.declared.node.Node.{Node}
use Rattle.folder_core.specs.declared.node.Node.TheVariants.{Dir}
use Rattle.action_core.specs.Places.{Site}
use Rattle.action_core.specs.Rows.{mkdir, unless}
use Rattle.action_core.specs.Standing.{IsInstall, SameNear}
use Rattle.action_core.specs.Steps.{CanPerform}
use Rattle.action_core.specs.Tests.{first_of, is_dir, too_deep, common, present}
use Rattle.action_core.specs.declared.fault.ActionFault.{ActionFault}
use Rattle.action_core.specs.declared.step.Step.{Step}
use Rattle.action_core.specs.declared.step.Step.TheVariants.{Set}
use Rattle.native_actions.proofs.Near.{same_at, same_common}
use Rattle.native_actions.proofs.Settings.{first_passed, way_passed, common_way_passed, common_parent, nothing_below, inside, can_step}
use Rattle.instr_parser.specs.declared.call.Call.{Call}
use Rattle.instr_parser.specs.Given.{IsCall, Fill, slots_of}
use Rattle.action_core.specs.Places.{place_at}
use Rattle.action_core.specs.Standing.{IsShape, map_of, site_of}
use Rattle.action_core.specs.declared.shape.Shape.{Shape}
use Rattle.native_actions.proofs.Effects.{Laws, has_effect}
use Rattle.native_actions.proofs.Calls.{OnePlace, one_place}

pub same_mkdir : (site : Site) (m n : Map) (path : List (List ℕ)) → SameNear path m n → mkdir site m path ≡ mkdir site n path
same_mkdir site m n path near =
    ap (λ (o : Option Node). cond (is_dir o) (unless (too_deep path) []) (unless (first_of (common site m path ∷ present o path ∷ [])) (Set path (Some Dir) ∷ []))) (same_at m n path near)
    ∙ ap (λ (f : Option ActionFault). cond (is_dir (n path)) (unless (too_deep path) []) (unless (first_of (f ∷ present (n path) path ∷ [])) (Set path (Some Dir) ∷ []))) (same_common m n site path near)

-- no test refused, and these are the steps
pub passed_all : (fault : Option ActionFault) (wanted steps : List Step) → unless fault wanted ≡ Ok steps → (fault ≡ None) × (wanted ≡ steps)
passed_all None wanted steps is = (refl, cc)
passed_all (Some fault) wanted steps is = absurd (let no : ⊥ = cc in no)

pub mkdir_settable : (site : Site) (m : Map) (path names : List (List ℕ)) (steps : List Step)
    → IsFormed m → IsInstall site.install → path ≡ site.install ++ names → mkdir site m path ≡ Ok steps → CanPerform site.install m steps
mkdir_settable site m path names steps formed install at is = elim (cases_Bool (is_dir (m path))) [
  | inl stands ↦
      let none : unless (too_deep path) [] ≡ Ok steps = sym (ap (λ (b : Bool). cond b (unless (too_deep path) []) (unless (first_of (common site m path ∷ present (m path) path ∷ [])) (Set path (Some Dir) ∷ []))) stands) ∙ is in
      subst (CanPerform site.install m) (passed_all (too_deep path) [] steps none).1 tt
  | inr other ↦
      let one : unless (first_of (common site m path ∷ present (m path) path ∷ [])) (Set path (Some Dir) ∷ []) ≡ Ok steps = sym (ap (λ (b : Bool). cond b (unless (too_deep path) []) (unless (first_of (common site m path ∷ present (m path) path ∷ [])) (Set path (Some Dir) ∷ []))) other) ∙ is in
      let passed = passed_all (first_of (common site m path ∷ present (m path) path ∷ [])) (Set path (Some Dir) ∷ []) steps one in
      let way = (first_passed (common site m path) (present (m path) path ∷ []) passed.0).0 in
      let below = inside site.install names path at (way_passed site m path (common_way_passed site m path way)) in
      subst (CanPerform site.install m) passed.1 (can_step site.install m path (Some Dir) install below (common_parent site m path way) (nothing_below m path formed other) tt tt, tt)
]

pub mkdir_laws : (shape : Shape) (call : Call) → call.kind.0 ≡ 0 → IsCall call → IsShape shape → Laws shape call (mkdir (site_of shape) (map_of shape) (place_at (site_of shape) call 0))
mkdir_laws shape call is fills formed =
    let site = site_of shape in
    let path = place_at (site_of shape) call 0 in
    let place : OnePlace site call = one_place site call (subst (λ (k : ℕ). Fill (slots_of k) call.params) is fills) in
    record {
      effect = λ outcome answers m stands. has_effect 0 call shape m outcome is formed stands (same_mkdir site m (map_of shape) path (stands.near path place.has)) answers;
      settable = λ steps answers m stands well. mkdir_settable site m path place.names steps well formed.install place.is (same_mkdir site m (map_of shape) path (stands.near path place.has) ∙ answers);
    }
