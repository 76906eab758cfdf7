-- The row of `rmdir`.
use Rattle.std.proofs.Common.{◌≡◌, ℕ, zero, suc, Bool, true, false, cond, List, [], ◌∷◌, ◌++◌, length, length-append, ◌⊎◌, Option, Some, None, Ok, inl, inr, refl, sym, ◌∙◌, ap, subst, arith}
use Rattle.std.specs.Prelude.{◌||◌, not, is_some}
use Rattle.std.specs.List.{Contains, list_any}
use Rattle.std.proofs.lemmas.Bool.{cases_Bool}
use Rattle.folder_core.specs.Folder.{Map, NothingBelow}
use Rattle.folder_core.specs.Path.{path_eqb}
use Rattle.folder_core.specs.declared.node.Node.{Node}
use Rattle.folder_core.specs.declared.node.Touch.{Touch}
use Rattle.folder_core.proofs.Maps.{path_eqb-Decides}
use Rattle.action_core.specs.Places.{Site}
use Rattle.action_core.specs.Rows.{rmdir, unless, has_below, not_empty}
use Rattle.action_core.specs.Standing.{IsInstall, IsUnder, SameNear}
use Rattle.action_core.specs.Steps.{CanPerform}
use Rattle.action_core.specs.Tests.{first_of, common, not_there, not_directory}
use Rattle.action_core.specs.declared.fault.ActionFault.{ActionFault}
use Rattle.action_core.specs.declared.fault.ActionFault.TheVariants.{NotEmpty}
use Rattle.action_core.specs.declared.step.Step.{Step}
use Rattle.action_core.specs.declared.step.Step.TheVariants.{Set}
use Rattle.native_actions.proofs.Gathered.{at_or_below_true, is_under}
use Rattle.native_actions.proofs.MkDirs.{passed_all}
use Rattle.native_actions.proofs.Near.{same_at, same_common}
use Rattle.native_actions.proofs.Settings.{first_passed, way_passed, common_way_passed, common_parent, inside, can_step}
use Rattle.instr_parser.specs.declared.call.Call.{Call}
use Rattle.instr_parser.specs.Given.{IsCall, Fill, slots_of}
use Rattle.action_core.specs.Places.{place_at}
use Rattle.action_core.specs.Standing.{IsShape, map_of, site_of, under_in}
use Rattle.action_core.specs.declared.shape.Shape.{Shape}
use Rattle.native_actions.proofs.Effects.{Laws, has_effect}
use Rattle.native_actions.proofs.Calls.{OnePlace, one_place}

pub same_rmdir : (site : Site) (m n : Map) (under : List Touch) (path : List (List ℕ)) → SameNear path m n → rmdir site m under path ≡ rmdir site n under path
same_rmdir site m n under path near =
    ap (λ (o : Option Node). unless (first_of (common site m path ∷ not_there o path ∷ not_directory o path ∷ not_empty path under ∷ [])) (Set path None ∷ [])) (same_at m n path near)
    ∙ ap (λ (f : Option ActionFault). unless (first_of (f ∷ not_there (n path) path ∷ not_directory (n path) path ∷ not_empty path under ∷ [])) (Set path None ∷ [])) (same_common m n site path near)

pub either_false : (a b : Bool) → (a || b) ≡ false → (a ≡ false) × (b ≡ false)
either_false true b is = absurd (let no : ⊥ = cc in no)
either_false false b is = (refl, is)

pub none_of : {X : Type 0} (p : X → Bool) (xs : List X) (x : X) → list_any p xs ≡ false → Contains xs x → p x ≡ false
none_of p [] x none (k, below, is) = absurd (omega arith)
none_of p (y ∷ xs) x none (zero, below, is) = ap p (sym is) ∙ (either_false (p y) (list_any p xs) none).0
none_of p (y ∷ xs) x none (suc k, below, is) = none_of p xs x (either_false (p y) (list_any p xs) none).1 (k, omega arith, is)

pub longer_apart : (path : List (List ℕ)) (name : List ℕ) (rest : List (List ℕ)) → path_eqb (path ++ name ∷ rest) path ≡ false
longer_apart path name rest = elim (cases_Bool (path_eqb (path ++ name ∷ rest) path)) [
  | inl same ↦ let counted = ap length ((path_eqb-Decides (path ++ name ∷ rest) path).0 same) in absurd (omega (arith, counted, length-append path (name ∷ rest)))
  | inr other ↦ other
]

pub some_or_none : (node : Option Node) → (is_some node ≡ true) ⊎ (node ≡ None)
some_or_none None = inr refl
some_or_none (Some node) = inl refl

nothing_there : (m : Map) (path : List (List ℕ)) (under : List Touch) → IsUnder m path under → has_below path under ≡ false → NothingBelow m path
nothing_there m path under stands none name rest = elim (some_or_none (m (path ++ name ∷ rest))) [
  | inl some ↦
      let place = path ++ name ∷ rest in
      let has = stands.all place (at_or_below_true path place (name ∷ rest, refl)) some in
      let here = none_of (λ (t : Touch). not (path_eqb t.path path)) under (record { path = place; node = m place }) none has in
      let no : true ≡ false = sym (ap not (longer_apart path name rest)) ∙ here in
      absurd (let never : ⊥ = cc in never)
  | inr absent ↦ absent
]

pub rmdir_settable : (site : Site) (m : Map) (under : List Touch) (path names : List (List ℕ)) (steps : List Step)
    → IsInstall site.install → IsUnder m path under → path ≡ site.install ++ names → rmdir site m under path ≡ Ok steps → CanPerform site.install m steps
rmdir_settable site m under path names steps install stands at is =
    let passed = passed_all (first_of (common site m path ∷ not_there (m path) path ∷ not_directory (m path) path ∷ not_empty path under ∷ [])) (Set path None ∷ []) steps is in
    let first = first_passed (common site m path) (not_there (m path) path ∷ not_directory (m path) path ∷ not_empty path under ∷ []) passed.0 in
    let second = first_passed (not_there (m path) path) (not_directory (m path) path ∷ not_empty path under ∷ []) first.1 in
    let third = first_passed (not_directory (m path) path) (not_empty path under ∷ []) second.1 in
    let fourth = first_passed (not_empty path under) [] third.1 in
    let below = inside site.install names path at (way_passed site m path (common_way_passed site m path first.0)) in
    subst (CanPerform site.install m) passed.1
    (can_step site.install m path None install below (common_parent site m path first.0) (nothing_there m path under stands (empty fourth.0)) tt tt, tt)
  where
    empty : not_empty path under ≡ None → has_below path under ≡ false
    empty none = elim (cases_Bool (has_below path under)) [
      | inl some ↦
          let no : Some (NotEmpty path) ≡ None = sym (ap (λ (b : Bool). cond b (Some (NotEmpty path)) None) some) ∙ none in
          absurd (let never : ⊥ = cc in never)
      | inr other ↦ other
    ]

pub rmdir_laws : (shape : Shape) (call : Call) → call.kind.0 ≡ 1 → IsCall call → IsShape shape → Laws shape call (rmdir (site_of shape) (map_of shape) (under_in shape.nodes (place_at (site_of shape) call 0)) (place_at (site_of shape) call 0))
rmdir_laws shape call is fills formed =
    let site = site_of shape in
    let path = place_at (site_of shape) call 0 in
    let place : OnePlace site call = one_place site call (subst (λ (k : ℕ). Fill (slots_of k) call.params) is fills) in
    record {
      effect = λ outcome answers m stands. has_effect 1 call shape m outcome is formed stands (same_rmdir site m (map_of shape) (under_in shape.nodes path) path (stands.near path place.has)) answers;
      settable = λ steps answers m stands well. rmdir_settable site m (under_in shape.nodes path) path place.names steps formed.install (is_under shape.nodes formed.rising m path (stands.near path place.has)) place.is (same_rmdir site m (map_of shape) (under_in shape.nodes path) path (stands.near path place.has) ∙ answers);
    }
