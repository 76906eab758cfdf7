-- The row of `remove`: what lies below goes before what is above it.
use Rattle.std.proofs.Common.{◌≡◌, ◌≢◌, ℕ, zero, suc, ◌+◌, ◌<◌, Bool, true, false, cond, List, [], ◌∷◌, ◌++◌, length, get_or, map, drop, Option, Some, None, Ok, inl, inr, refl, sym, ◌∙◌, ap, subst, arith, append_assoc, add-one}
use Rattle.std.specs.Prelude.{◌||◌, is_some, IsSome, reverse}
use Rattle.std.specs.List.{AllPairs, Contains, list_any, filter}
use Rattle.std.proofs.Math.Seq.{drop-cons}
use Rattle.std.proofs.lemmas.Bool.{cases_Bool}
use Rattle.std.proofs.lemmas.List.{reverse-append}
use Rattle.folder_core.specs.Folder.{Map, IsFormed, NothingBelow, set_at}
use Rattle.folder_core.specs.Path.{IsBelow, parent, path_eqb}
use Rattle.folder_core.specs.PathOrder.{IsPathBefore}
use Rattle.folder_core.specs.declared.node.Node.{Node}
use Rattle.folder_core.specs.declared.node.Node.TheVariants.{Dir}
use Rattle.folder_core.specs.declared.node.Touch.{Touch}
use Rattle.folder_core.proofs.Maps.{path_eqb-Decides, same_path, changed_here, changed_other, front_last}
use Rattle.folder_core.proofs.PathOrder.{path_cmp_total, above_first}
use Rattle.install_journal.proofs.Orders.{not_before_itself}
use Rattle.action_core.specs.Places.{Site}
use Rattle.action_core.specs.Rows.{remove, unless, is_at}
use Rattle.action_core.specs.Standing.{IsInstall, IsUnder, SameNear, stands_under}
use Rattle.action_core.specs.Steps.{CanPerform, CanStep, performed}
use Rattle.action_core.specs.Tests.{way}
use Rattle.action_core.specs.declared.fault.ActionFault.{ActionFault}
use Rattle.action_core.specs.declared.step.Step.{Step}
use Rattle.action_core.specs.declared.step.Step.TheVariants.{Set, Note}
use Rattle.action_core.proofs.Lookups.{rises_far}
use Rattle.action_core.proofs.Undoing.{same_maps}
use Rattle.native_actions.specs.Removals.{removals}
use Rattle.native_actions.proofs.Gathered.{at_or_below, at_or_below_true}
use Rattle.native_actions.proofs.MkDirs.{passed_all}
use Rattle.native_actions.proofs.Near.{same_way}
use Rattle.native_actions.proofs.RmDirs.{some_or_none}
use Rattle.native_actions.proofs.Settings.{way_passed, inside, not_root, can_step}
use Rattle.instr_parser.specs.declared.call.Call.{Call}
use Rattle.instr_parser.specs.Given.{IsCall, Fill, slots_of}
use Rattle.action_core.specs.Places.{place_at}
use Rattle.action_core.specs.Standing.{IsShape, map_of, site_of, under_in}
use Rattle.action_core.specs.declared.shape.Shape.{Shape}
use Rattle.native_actions.proofs.Calls.{OnePlace, one_place}
use Rattle.native_actions.proofs.Effects.{Laws, has_effect}
use Rattle.native_actions.proofs.Gathered.{is_under}

pub same_remove : (site : Site) (m n : Map) (under : List Touch) (path : List (List ℕ)) → SameNear path m n → remove site m under path ≡ remove site n under path
same_remove site m n under path near = ap (λ (f : Option ActionFault). unless f (map (λ (touch : Touch). Set touch.path None) (reverse under))) (same_way m n site path near)

abbrev removal : Touch → Step
removal touch = Set touch.path None

map-append : (xs ys : List Touch) → map removal (xs ++ ys) ≡ map removal xs ++ map removal ys
map-append [] ys = refl
map-append (x ∷ xs) ys = ap (λ (l : List Step). removal x ∷ l) (map-append xs ys)

pub removals-cons : (touch : Touch) (touches : List Touch) → removals (touch ∷ touches) ≡ removals touches ++ removal touch ∷ []
removals-cons touch touches = ap (map removal) (reverse-append (touch ∷ []) touches) ∙ map-append (reverse touches) (touch ∷ [])

pub performed-append : (m : Map) (first second : List Step) → performed m (first ++ second) ≡ performed (performed m first) second
performed-append m [] second = refl
performed-append m (Set path set ∷ first) second = performed-append (set_at m path set) first second
performed-append m (Note paths ∷ first) second = performed-append m first second

pub can_perform-append : (install : List (List ℕ)) (m : Map) (first second : List Step) → CanPerform install m first → CanPerform install (performed m first) second → CanPerform install m (first ++ second)
can_perform-append install m [] second done can = can
can_perform-append install m (Set path set ∷ first) second can more = (can.0, can_perform-append install (set_at m path set) first second can.1 more)
can_perform-append install m (Note paths ∷ first) second can more = can_perform-append install m first second can more

-- the map without what stands at these paths
abbrev without : List Touch → Map → Map
without touches m path = cond (list_any (is_at path) touches) None (m path)

none_either : (b : Bool) (there : Option Node) → there ≡ None → cond b None there ≡ None
none_either true there none = refl
none_either false there none = none

performed-removals : (m : Map) (touches : List Touch) → performed m (removals touches) ≡ without touches m
performed-removals m [] = refl
performed-removals m (touch ∷ touches) =
    ap (performed m) (removals-cons touch touches)
    ∙ performed-append m (removals touches) (removal touch ∷ [])
    ∙ ap (λ (n : Map). set_at n touch.path None) (performed-removals m touches)
    ∙ same_maps (set_at (without touches m) touch.path None) (without (touch ∷ touches) m) (λ path. elim (same_path path touch.path) [
      | inl here ↦
          changed_here (without touches m) touch.path None path here
          ∙ sym (ap (λ (b : Bool). cond (b || list_any (is_at path) touches) None (m path)) ((path_eqb-Decides touch.path path).1 (sym here)))
      | inr other ↦
          changed_other (without touches m) touch.path None path other
          ∙ sym (ap (λ (b : Bool). cond (b || list_any (is_at path) touches) None (m path)) (apart path other))
    ])
  where
    apart : (path : List (List ℕ)) → path ≢ touch.path → path_eqb touch.path path ≡ false
    apart path other = elim (cases_Bool (path_eqb touch.path path)) [
      | inl same ↦ absurd (other (sym ((path_eqb-Decides touch.path path).0 same)))
      | inr no_same ↦ no_same
    ]

-- These stand, in the order of paths, in the folder of the profile, with all that stands below them.
record CanGo (install : List (List ℕ)) (m : Map) (touches : List Touch) : Type 0 where
  rising : AllPairs (λ (a b : Touch). IsPathBefore a.path b.path) touches
  stands : (touch : Touch) → Contains touches touch → IsSome (m touch.path)
  closed : (touch : Touch) → Contains touches touch → (path : List (List ℕ)) → IsBelow touch.path path → IsSome (m path) → Contains touches (record { path = path; node = m path })
  inside : (touch : Touch) → Contains touches touch → IsBelow install touch.path

pub behind : (touch : Touch) (touches : List Touch) (other : Touch) → Contains touches other → Contains (touch ∷ touches) other
behind touch touches other (k, below, is) = (suc k, omega arith, is)

pub before_all : (touch : Touch) (touches : List Touch) (other : Touch) → AllPairs (λ (a b : Touch). IsPathBefore a.path b.path) (touch ∷ touches) → Contains touches other → IsPathBefore touch.path other.path
before_all touch touches other rising (k, below, is) = subst (λ (t : Touch). IsPathBefore touch.path t.path) is (rising 0 (suc k) other (omega arith) (omega arith))

pub below_after : (above path : List (List ℕ)) → IsBelow above path → IsPathBefore above path
below_after above path (name, rest, is) = subst (IsPathBefore above) (sym is) (above_first above name rest)

can_go_behind : (install : List (List ℕ)) (m : Map) (touch : Touch) (touches : List Touch) → CanGo install m (touch ∷ touches) → CanGo install m touches
can_go_behind install m touch touches can = record {
  rising = λ i j d less below. can.rising (suc i) (suc j) d (omega arith) (omega arith);
  stands = λ other has. can.stands other (behind touch touches other has);
  closed = λ other has path below some. later other has path below (can.closed other (behind touch touches other has) path below some);
  inside = λ other has. can.inside other (behind touch touches other has);
}
  where
    later : (other : Touch) → Contains touches other → (path : List (List ℕ)) → IsBelow other.path path → Contains (touch ∷ touches) (record { path = path; node = m path }) → Contains touches (record { path = path; node = m path })
    later other has path below (zero, inside', is) =
        let first = before_all touch touches other can.rising has in
        let second = below_after other.path path below in
        let same : touch.path ≡ path = ap (λ (t : Touch). t.path) is in
        absurd (not_before_itself path (subst (λ (p : List (List ℕ)). IsPathBefore p path) same (path_cmp_total.trans touch.path other.path path first second)))
    later other has path below (suc k, inside', is) = (k, omega arith, is)

any_at : (touches : List Touch) (path : List (List ℕ)) (other : Touch) → Contains touches other → other.path ≡ path → list_any (is_at path) touches ≡ true
any_at [] path other (k, below, is) same = absurd (omega arith)
any_at (touch ∷ touches) path other (zero, below, is) same =
    ap (λ (b : Bool). b || list_any (is_at path) touches) ((path_eqb-Decides touch.path path).1 (ap (λ (t : Touch). t.path) is ∙ same))
any_at (touch ∷ touches) path other (suc k, below, is) same =
    ap (λ (b : Bool). path_eqb touch.path path || b) (any_at touches path other (k, omega arith, is) same) ∙ either (path_eqb touch.path path)
  where
    either : (b : Bool) → (b || true) ≡ true
    either true = refl
    either false = refl

-- a path before all of these isn't among them
not_among : (touches : List Touch) (path : List (List ℕ)) → ((touch : Touch) → Contains touches touch → IsPathBefore path touch.path) → list_any (is_at path) touches ≡ false
not_among [] path before = refl
not_among (touch ∷ touches) path before = elim (cases_Bool (path_eqb touch.path path)) [
  | inl same ↦ absurd (not_before_itself path (subst (IsPathBefore path) ((path_eqb-Decides touch.path path).0 same) (before touch (0, omega arith, refl))))
  | inr other ↦ ap (λ (b : Bool). b || list_any (is_at path) touches) other ∙ not_among touches path (λ t has. before t (behind touch touches t has))
]

parent_before : (path : List (List ℕ)) → path ≢ [] → IsPathBefore (parent path) path
parent_before path some = let last = front_last path some in below_after (parent path) path (last.0, [], last.1)

pub some_node : (found : Option Node) → IsSome found → (node : Node) × (found ≡ Some node)
some_node None some = absurd (let never : ⊥ = cc in never)
some_node (Some node) some = (node, refl)

can_remove : (install : List (List ℕ)) (m : Map) (touches : List Touch) → IsFormed m → IsInstall install → CanGo install m touches → CanPerform install m (removals touches)
can_remove install m [] formed is can = tt
can_remove install m (touch ∷ touches) formed is can =
    subst (CanPerform install m) (sym (removals-cons touch touches))
    (can_perform-append install m (removals touches) (removal touch ∷ []) (can_remove install m touches formed is (can_go_behind install m touch touches can))
    (subst (λ (n : Map). CanPerform install n (removal touch ∷ [])) (sym (performed-removals m touches)) (step, tt)))
  where
    here : Contains (touch ∷ touches) touch
    here = (0, omega arith, refl)

    some : touch.path ≢ []
    some = not_root install touch.path is (can.inside touch here)

    above : without touches m (parent touch.path) ≡ Some Dir
    above =
        let node = some_node (m touch.path) (can.stands touch here) in
        ap (λ (b : Bool). cond b None (m (parent touch.path)))
        (not_among touches (parent touch.path) (λ other has. path_cmp_total.trans (parent touch.path) touch.path other.path (parent_before touch.path some) (before_all touch touches other can.rising has)))
        ∙ formed.parents touch.path node.0 some node.1

    later : (path : List (List ℕ)) → IsBelow touch.path path → Contains (touch ∷ touches) (record { path = path; node = m path }) → Contains touches (record { path = path; node = m path })
    later path below (zero, inside', is') =
        absurd (not_before_itself path (subst (λ (p : List (List ℕ)). IsPathBefore p path) (ap (λ (t : Touch). t.path) is') (below_after touch.path path below)))
    later path below (suc k, inside', is') = (k, omega arith, is')

    nothing : NothingBelow (without touches m) touch.path
    nothing name rest =
        let path = touch.path ++ name ∷ rest in
        elim (some_or_none (m path)) [
          | inl stands ↦
              let has = later path (name, rest, refl) (can.closed touch here path (name, rest, refl) stands) in
              ap (λ (b : Bool). cond b None (m path)) (any_at touches path (record { path = path; node = m path }) has refl)
          | inr absent ↦ none_either (list_any (is_at path) touches) (m path) absent
        ]

    step : CanStep install (without touches m) touch.path None
    step = can_step install (without touches m) touch.path None is (can.inside touch here) above nothing tt tt

pub remove_settable : (site : Site) (m : Map) (under : List Touch) (path names : List (List ℕ)) (steps : List Step)
    → IsFormed m → IsInstall site.install → IsUnder m path under → path ≡ site.install ++ names → remove site m under path ≡ Ok steps → CanPerform site.install m steps
remove_settable site m under path names steps formed install stands at is =
    let passed = passed_all (way site m path) (removals under) steps is in
    let below = inside site.install names path at (way_passed site m path passed.0) in
    subst (CanPerform site.install m) passed.1 (can_remove site.install m under formed install (record {
      rising = λ i j d less end. rises_far under stands.rising i j d less end;
      stands = λ touch has. let each = stands.each touch has in ap is_some each.2 ∙ each.1;
      closed = λ touch has place under' some.
          let each = stands.each touch has in
          let lower = at_or_below path touch.path each.0 in
          stands.all place (at_or_below_true path place (lower.0 ++ under'.0 ∷ under'.1, under'.2 ∙ ap (λ (l : List (List ℕ)). l ++ under'.0 ∷ under'.1) lower.1 ∙ append_assoc path lower.0 (under'.0 ∷ under'.1))) some;
      inside = λ touch has.
          let each = stands.each touch has in
          let lower = at_or_below path touch.path each.0 in
          (below.0, below.1 ++ lower.0, lower.1 ∙ ap (λ (l : List (List ℕ)). l ++ lower.0) below.2 ∙ append_assoc site.install (below.0 ∷ below.1) lower.0);
    }))

from : (nodes : List Touch) (k : ℕ) (touch : Touch) → k < length nodes → touch ≡ get_or nodes k touch → drop k nodes ≡ touch ∷ drop (k + 1) nodes
from nodes k touch below is =
    drop-cons nodes k touch below
    ∙ ap (λ (t : Touch). t ∷ drop (suc k) nodes) (sym is)
    ∙ ap (λ (n : ℕ). touch ∷ drop n nodes) (sym (add-one k))

-- one node more, from the last to the first
pub removals_next : (nodes : List Touch) (path : List (List ℕ)) (k : ℕ) (touch : Touch) → k < length nodes → touch ≡ get_or nodes k touch → stands_under path touch ≡ true
    → removals (filter (stands_under path) (drop k nodes)) ≡ removals (filter (stands_under path) (drop (k + 1) nodes)) ++ removal touch ∷ []
removals_next nodes path k touch below is kept =
    ap (λ (l : List Touch). removals (filter (stands_under path) l)) (from nodes k touch below is)
    ∙ ap (λ (b : Bool). removals (cond b (touch ∷ filter (stands_under path) (drop (k + 1) nodes)) (filter (stands_under path) (drop (k + 1) nodes)))) kept
    ∙ removals-cons touch (filter (stands_under path) (drop (k + 1) nodes))

pub removals_over : (nodes : List Touch) (path : List (List ℕ)) (k : ℕ) (touch : Touch) → k < length nodes → touch ≡ get_or nodes k touch → stands_under path touch ≡ false
    → removals (filter (stands_under path) (drop k nodes)) ≡ removals (filter (stands_under path) (drop (k + 1) nodes))
removals_over nodes path k touch below is other =
    ap (λ (l : List Touch). removals (filter (stands_under path) l)) (from nodes k touch below is)
    ∙ ap (λ (b : Bool). removals (cond b (touch ∷ filter (stands_under path) (drop (k + 1) nodes)) (filter (stands_under path) (drop (k + 1) nodes)))) other

pub remove_laws : (shape : Shape) (call : Call) → call.kind.0 ≡ 2 → IsCall call → IsShape shape → Laws shape call (remove (site_of shape) (map_of shape) (under_in shape.nodes (place_at (site_of shape) call 0)) (place_at (site_of shape) call 0))
remove_laws shape call is fills formed =
    let site = site_of shape in
    let path = place_at (site_of shape) call 0 in
    let place : OnePlace site call = one_place site call (subst (λ (k : ℕ). Fill (slots_of k) call.params) is fills) in
    record {
      effect = λ outcome answers m stands. has_effect 2 call shape m outcome is formed stands (same_remove site m (map_of shape) (under_in shape.nodes path) path (stands.near path place.has)) answers;
      settable = λ steps answers m stands well. remove_settable site m (under_in shape.nodes path) path place.names steps well formed.install (is_under shape.nodes formed.rising m path (stands.near path place.has)) place.is (same_remove site m (map_of shape) (under_in shape.nodes path) path (stands.near path place.has) ∙ answers);
    }
