-- The row of `chmod`.
use Rattle.std.proofs.Common.{◌≡◌, ℕ, ◌≤◌, List, [], ◌∷◌, ◌++◌, Option, Some, None, Ok, refl, ◌∙◌, ap, subst}
use Rattle.folder_core.specs.Folder.{Map, IsFormed}
use Rattle.folder_core.specs.Path.{IsBelow}
use Rattle.folder_core.specs.declared.node.Node.{Node}
use Rattle.folder_core.specs.declared.node.Node.TheVariants.{File, Dir, Link}
use Rattle.action_core.specs.Places.{Site}
use Rattle.action_core.specs.Rows.{chmod, unless, with_mode}
use Rattle.action_core.specs.Standing.{IsInstall, SameNear}
use Rattle.action_core.specs.Steps.{CanPerform, CanStep}
use Rattle.action_core.specs.Tests.{first_of, is_dir, way, not_there, not_file}
use Rattle.action_core.specs.declared.fault.ActionFault.{ActionFault}
use Rattle.action_core.specs.declared.step.Step.{Step}
use Rattle.action_core.specs.declared.step.Step.TheVariants.{Set}
use Rattle.native_actions.proofs.MkDirs.{passed_all}
use Rattle.native_actions.proofs.Near.{same_at, same_way}
use Rattle.native_actions.proofs.Settings.{first_passed, way_passed, nothing_below, inside, not_root, can_step}
use Rattle.instr_parser.specs.declared.call.Call.{Call}
use Rattle.instr_parser.specs.Given.{IsCall, Fill, slots_of}
use Rattle.action_core.specs.Places.{place_at, names_at, mode_at}
use Rattle.action_core.specs.Standing.{IsShape, map_of, site_of}
use Rattle.action_core.specs.declared.shape.Shape.{Shape}
use Rattle.native_actions.proofs.Effects.{Laws, has_effect}
use Rattle.native_actions.proofs.Calls.{FilePlace, file_place}

pub same_chmod : (site : Site) (m n : Map) (path : List (List ℕ)) (mode : ℕ) → SameNear path m n → chmod site m path mode ≡ chmod site n path mode
same_chmod site m n path mode near =
    ap (λ (o : Option Node). unless (first_of (way site m path ∷ not_there o path ∷ not_file o path ∷ [])) (Set path (with_mode mode o) ∷ [])) (same_at m n path near)
    ∙ ap (λ (f : Option ActionFault). unless (first_of (f ∷ not_there (n path) path ∷ not_file (n path) path ∷ [])) (Set path (with_mode mode (n path)) ∷ [])) (same_way m n site path near)

-- A file stands there, whose mode may be changed.
file_step : (install : List (List ℕ)) (m : Map) (path : List (List ℕ)) (mode : ℕ) (node : Option Node)
    → IsFormed m → IsInstall install → IsBelow install path → mode ≤ 511 → m path ≡ node → not_there node path ≡ None → not_file node path ≡ None
    → CanStep install m path (with_mode mode node)
file_step install m path mode None formed is below small here there file = absurd (let no : ⊥ = cc in no)
file_step install m path mode (Some Dir) formed is below small here there file = absurd (let no : ⊥ = cc in no)
file_step install m path mode (Some (Link target)) formed is below small here there file = absurd (let no : ⊥ = cc in no)
file_step install m path mode (Some (File old blob)) formed is below small here there file =
    can_step install m path (Some (File mode blob)) is below
    (formed.parents path (File old blob) (not_root install path is below) here)
    (nothing_below m path formed (ap is_dir here))
    small
    (formed.small path (File old blob) here)

pub chmod_settable : (site : Site) (m : Map) (path names : List (List ℕ)) (mode : ℕ) (steps : List Step)
    → IsFormed m → IsInstall site.install → path ≡ site.install ++ names → mode ≤ 511 → chmod site m path mode ≡ Ok steps → CanPerform site.install m steps
chmod_settable site m path names mode steps formed install at small is =
    let passed = passed_all (first_of (way site m path ∷ not_there (m path) path ∷ not_file (m path) path ∷ [])) (Set path (with_mode mode (m path)) ∷ []) steps is in
    let first = first_passed (way site m path) (not_there (m path) path ∷ not_file (m path) path ∷ []) passed.0 in
    let second = first_passed (not_there (m path) path) (not_file (m path) path ∷ []) first.1 in
    let third = first_passed (not_file (m path) path) [] second.1 in
    let below = inside site.install names path at (way_passed site m path first.0) in
    subst (CanPerform site.install m) passed.1
    (file_step site.install m path mode (m path) formed install below small refl second.0 third.0, tt)

pub chmod_laws : (shape : Shape) (call : Call) → call.kind.0 ≡ 5 → IsCall call → IsShape shape → Laws shape call (chmod (site_of shape) (map_of shape) (place_at (site_of shape) call 4 ++ names_at call 5) (mode_at call 6))
chmod_laws shape call is fills formed =
    let site = site_of shape in
    let path = place_at (site_of shape) call 4 ++ names_at call 5 in
    let place : FilePlace site call = file_place site call (subst (λ (k : ℕ). Fill (slots_of k) call.params) is fills) in
    record {
      effect = λ outcome answers m stands. has_effect 5 call shape m outcome is formed stands (same_chmod site m (map_of shape) path (mode_at call 6) (stands.near path place.has)) answers;
      settable = λ steps answers m stands well. chmod_settable site m path place.names (mode_at call 6) steps well formed.install place.is place.mode (same_chmod site m (map_of shape) path (mode_at call 6) (stands.near path place.has) ∙ answers);
    }
