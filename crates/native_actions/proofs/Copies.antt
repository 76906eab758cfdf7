-- The row of `copy`: what stands above is set before what lies below it.
use Rattle.std.proofs.Common.{◌≡◌, ◌≢◌, ◌⊎◌, ℕ, zero, suc, ◌-◌, ◌≤◌, Bool, true, false, cond, List, [], ◌∷◌, ◌++◌, length, get_or, map, drop, Option, Some, None, Ok, inl, inr, refl, sym, ◌∙◌, ap, subst, arith, append_assoc, append-nil, length-append}
use Rattle.std.specs.Prelude.{◌&&◌, not, unwrap_or, is_some, IsSome, IfSome, codes}
use Rattle.std.specs.List.{AllPairs, Contains}
use Rattle.std.proofs.lemmas.Bool.{cases_Bool}
use Rattle.std.proofs.lemmas.List.{append_cancel_left, length-take}
use Rattle.folder_core.specs.Folder.{Map, IsFormed, NothingBelow, set_at}
use Rattle.folder_core.specs.Node.{IsNode, IsSmallAt, entries_path}
use Rattle.folder_core.specs.Path.{IsBelow, parent, path_eqb}
use Rattle.folder_core.specs.PathOrder.{IsPathBefore}
use Rattle.folder_core.specs.declared.node.Node.{Node}
use Rattle.folder_core.specs.declared.node.Node.TheVariants.{File, Dir, Link}
use Rattle.folder_core.specs.declared.node.Touch.{Touch}
use Rattle.folder_core.proofs.Maps.{same_path, changed_here, changed_other, front_last, parent-push, push_some}
use Rattle.folder_core.proofs.PathOrder.{path_cmp_total}
use Rattle.install_journal.proofs.Orders.{not_before_itself}
use Rattle.instr_parser.specs.declared.call.Base.{Base}
use Rattle.instr_parser.specs.declared.call.Base.TheVariants.{Install, Artifact}
use Rattle.instr_parser.specs.declared.call.Call.{Call}
use Rattle.instr_parser.specs.declared.call.Value.TheVariants.{Place}
use Rattle.instr_parser.specs.Given.{IsCall, IsSource, Fill, slots_of, optional, AFlag}
use Rattle.action_core.specs.Places.{Site, base_path, place_at, flag_at}
use Rattle.action_core.specs.Rows.{copy, copy_source, copied_set, moved, or_refused, unless, into_itself, too_deep_from, link_as_source, file_target}
use Rattle.action_core.specs.Standing.{IsInstall, IsPooled, IsShape, IsUnder, SameNear, map_of, site_of, under_in}
use Rattle.action_core.specs.Steps.{CanPerform, CanStep}
use Rattle.action_core.specs.Tests.{first_of, is_dir, through_link, common, not_there, present}
use Rattle.action_core.specs.declared.fault.ActionFault.{ActionFault}
use Rattle.action_core.specs.declared.fault.ActionFault.TheVariants.{IntoItself}
use Rattle.action_core.specs.declared.shape.Shape.{Shape}
use Rattle.action_core.specs.declared.step.Step.{Step}
use Rattle.action_core.specs.declared.step.Step.TheVariants.{Set, Note}
use Rattle.action_core.proofs.Lookups.{rises_far}
use Rattle.native_actions.proofs.Calls.{TwoPlaces, two_places}
use Rattle.native_actions.proofs.Effects.{Laws, Outcome, has_effect}
use Rattle.native_actions.proofs.Gathered.{at_or_below, at_or_below_true, is_under, rest_behind}
use Rattle.native_actions.proofs.MkDirs.{passed_all}
use Rattle.native_actions.proofs.Near.{same_at, same_through, same_common}
use Rattle.native_actions.proofs.Removings.{behind, before_all, below_after, some_node}
use Rattle.native_actions.proofs.RmDirs.{some_or_none}
use Rattle.native_actions.proofs.Settings.{first_passed, common_way_passed, common_parent, way_passed, nothing_below, inside, not_root, can_step}

same_source : (m n : Map) (source : List (List ℕ)) → SameNear source m n → copy_source m source ≡ copy_source n source
unfolding copy_source
same_source m n source near =
    ap (λ (f : Option ActionFault). first_of (f ∷ not_there (m source) source ∷ link_as_source (m source) source ∷ [])) (same_through m n source near)
    ∙ ap (λ (o : Option Node). first_of (through_link n source ∷ not_there o source ∷ link_as_source o source ∷ [])) (same_at m n source near)

-- the row, by what stands at the two places
abbrev body : Option Node → Option Node → List Touch → List (List ℕ) → List (List ℕ) → Bool → Outcome
body here there under source target overwrite =
    cond (is_dir here)
    (unless (first_of (into_itself source target ∷ present there target ∷ too_deep_from source target under ∷ [])) (map (copied_set source target) under ++ Note (map (λ (touch : Touch). moved source target touch.path) under) ∷ []))
    (unless (file_target overwrite there target) (Set target here ∷ Note (target ∷ []) ∷ []))

pub same_copy : (site : Site) (m n : Map) (under : List Touch) (source target : List (List ℕ)) (overwrite : Bool) → SameNear source m n → SameNear target m n → copy site m under source target overwrite ≡ copy site n under source target overwrite
same_copy site m n under source target overwrite near_source near_target =
    ap (λ (f : Option ActionFault). or_refused (first_of (f ∷ common site m target ∷ [])) (body (m source) (m target) under source target overwrite)) (same_source m n source near_source)
    ∙ ap (λ (f : Option ActionFault). or_refused (first_of (copy_source n source ∷ f ∷ [])) (body (m source) (m target) under source target overwrite)) (same_common m n site target near_target)
    ∙ ap (λ (o : Option Node). or_refused (first_of (copy_source n source ∷ common site n target ∷ [])) (body o (m target) under source target overwrite)) (same_at m n source near_source)
    ∙ ap (λ (o : Option Node). or_refused (first_of (copy_source n source ∷ common site n target ∷ [])) (body (n source) o under source target overwrite)) (same_at m n target near_target)

-- A file that isn't among the journal's entries may stand elsewhere too.
small_elsewhere : (node : Option Node) (path place : List (List ℕ)) → ¬ (IsBelow entries_path path) → IfSome node (IsSmallAt path) → IfSome node (IsSmallAt place)
small_elsewhere None path place outside small = tt
small_elsewhere (Some (File mode blob)) path place outside small = λ _. small outside
small_elsewhere (Some Dir) path place outside small = tt
small_elsewhere (Some (Link target)) path place outside small = tt

node_there : (m : Map) (path : List (List ℕ)) → IsFormed m → (node : Option Node) → m path ≡ node → IfSome node IsNode
node_there m path formed None is = tt
node_there m path formed (Some node) is = formed.nodes path node is

small_there : (m : Map) (path : List (List ℕ)) → IsFormed m → (node : Option Node) → m path ≡ node → IfSome node (IsSmallAt path)
small_there m path formed None is = tt
small_there m path formed (Some node) is = formed.small path node is

-- what isn't among the journal's entries, with all below it
abbrev pub IsOutside : List (List ℕ) → Type 0
IsOutside source = (rest : List (List ℕ)) → ¬ (IsBelow entries_path (source ++ rest))

-- the first of some nodes, or one behind it
first_or_behind : (touch : Touch) (touches : List Touch) (other : Touch) → AllPairs (λ (a b : Touch). IsPathBefore a.path b.path) (touch ∷ touches) → Contains (touch ∷ touches) other → (touch.path ≡ other.path) ⊎ IsPathBefore touch.path other.path
first_or_behind touch touches other rising (zero, below, is) = inl (ap (λ (t : Touch). t.path) is)
first_or_behind touch touches other rising (suc k, below, is) = inr (before_all touch touches other rising (k, omega arith, is))

parent_shorter : (path rest : List (List ℕ)) → path ≢ [] → parent path ≢ path ++ rest
parent_shorter [] rest some same = some refl
parent_shorter (name ∷ path) rest some same =
    let shorter = length-take (length (name ∷ path) - 1) (name ∷ path) in
    let counted = ap length same in
    absurd (omega (arith, shorter, counted, length-append (name ∷ path) rest))

module _ (install : List (List ℕ)) (m : Map) (source target : List (List ℕ)) where
  abbrev rest_of : Touch → List (List ℕ)
  rest_of touch = drop (length source) touch.path

  -- These are still to be copied to the map, which has the others.
  record CanCopy (n : Map) (touches : List Touch) : Type 0 where
    rising : AllPairs (λ (a b : Touch). IsPathBefore a.path b.path) touches
    each : (touch : Touch) → Contains touches touch → (touch.path ≡ source ++ rest_of touch) × IsSome touch.node × (m touch.path ≡ touch.node)
    closed : (touch : Touch) → Contains touches touch → (path : List (List ℕ)) → IsBelow touch.path path → IsSome (m path) → Contains touches (record { path = path; node = m path })
    done : (rest : List (List ℕ)) → IsSome (m (source ++ rest)) → ((touch : Touch) → Contains touches touch → touch.path ≢ source ++ rest) → n (target ++ rest) ≡ m (source ++ rest)
    free : (touch : Touch) → Contains touches touch → n (target ++ rest_of touch) ≡ None
    absent : (rest : List (List ℕ)) → m (source ++ rest) ≡ None → n (target ++ rest) ≡ None
    above : n (parent target) ≡ Some Dir

  module _ (formed : IsFormed m) (is : IsInstall install) (below : IsBelow install target) (outside : IsOutside source) where
    module _ (n : Map) (touch : Touch) (touches : List Touch) (can : CanCopy n (touch ∷ touches)) where
      here : Contains (touch ∷ touches) touch
      here = (0, omega arith, refl)

      abbrev rest : List (List ℕ)
      rest = rest_of touch

      at : touch.path ≡ source ++ rest
      at = (can.each touch here).0

      apart : (other : List (List ℕ)) → other ≢ rest → target ++ other ≢ target ++ rest
      apart other differs same = differs (append_cancel_left target other rest same)

      step_parent : (r : List (List ℕ)) → touch.path ≡ source ++ r → n (parent (target ++ r)) ≡ Some Dir
      step_parent [] whole = ap (λ (l : List (List ℕ)). n (parent l)) (append-nil target) ∙ can.above
      step_parent (name ∷ more) whole =
          let cut = front_last (name ∷ more) (λ e. cc) in
          let front = parent (name ∷ more) in
          let there : target ++ name ∷ more ≡ (target ++ front) ++ cut.0 ∷ [] = ap (λ (l : List (List ℕ)). target ++ l) cut.1 ∙ sym (append_assoc target front (cut.0 ∷ [])) in
          let from : source ++ name ∷ more ≡ (source ++ front) ++ cut.0 ∷ [] = ap (λ (l : List (List ℕ)). source ++ l) cut.1 ∙ sym (append_assoc source front (cut.0 ∷ [])) in
          let each = can.each touch here in
          let node = some_node touch.node each.1 in
          let dir : m (source ++ front) ≡ Some Dir =
          ap m (sym (parent-push (source ++ name ∷ more) (source ++ front) cut.0 from))
          ∙ formed.parents (source ++ name ∷ more) node.0 (push_some (source ++ name ∷ more) (source ++ front) cut.0 from) (ap m (sym whole) ∙ each.2 ∙ node.1) in
          let first : IsPathBefore (source ++ front) touch.path = below_after (source ++ front) touch.path (cut.0, [], whole ∙ from) in
          ap n (parent-push (target ++ name ∷ more) (target ++ front) cut.0 there)
          ∙ can.done front (ap is_some dir) (λ other has same. elim (first_or_behind touch touches other can.rising has) [
            | inl it ↦ not_before_itself touch.path (subst (λ (p : List (List ℕ)). IsPathBefore p touch.path) (sym (it ∙ same)) first)
            | inr later ↦ not_before_itself (source ++ front) (path_cmp_total.trans (source ++ front) touch.path (source ++ front) first (subst (IsPathBefore touch.path) same later))
          ])
          ∙ dir

      nothing : NothingBelow n (target ++ rest)
      nothing name more =
          let path = source ++ (rest ++ name ∷ more) in
          let longer : path ≡ touch.path ++ name ∷ more = sym (append_assoc source rest (name ∷ more)) ∙ ap (λ (l : List (List ℕ)). l ++ name ∷ more) (sym at) in
          ap n (append_assoc target rest (name ∷ more)) ∙ elim (some_or_none (m path)) [
            | inl stands ↦
                let has = can.closed touch here path (name, more, longer) stands in
                let all = can.each (record { path = path; node = m path }) has in
                ap (λ (l : List (List ℕ)). n (target ++ l)) (append_cancel_left source (rest ++ name ∷ more) (drop (length source) path) all.0) ∙ can.free (record { path = path; node = m path }) has
            | inr none ↦ can.absent (rest ++ name ∷ more) none
          ]

      step : CanStep install n (target ++ rest) touch.node
      step =
          let each = can.each touch here in
          can_step install n (target ++ rest) touch.node is
          (below.0, below.1 ++ rest, ap (λ (l : List (List ℕ)). l ++ rest) below.2 ∙ append_assoc install (below.0 ∷ below.1) rest)
          (step_parent rest at)
          nothing
          (node_there m touch.path formed touch.node each.2)
          (small_elsewhere touch.node touch.path (target ++ rest) (λ entry. outside rest (subst (IsBelow entries_path) at entry)) (small_there m touch.path formed touch.node each.2))

      abbrev after : Map
      after = set_at n (target ++ rest) touch.node

      not_first : (path : List (List ℕ)) → IsPathBefore touch.path path → touch.path ≢ path
      not_first path later same = not_before_itself path (subst (λ (p : List (List ℕ)). IsPathBefore p path) same later)

      next : CanCopy after touches
      next = record {
        rising = λ i j d less end. can.rising (suc i) (suc j) d (omega arith) (omega arith);
        each = λ other has. can.each other (behind touch touches other has);
        closed = λ other has path lower stands.
            later path (λ same. not_first path (path_cmp_total.trans touch.path other.path path (before_all touch touches other can.rising has) (below_after other.path path lower)) same)
            (can.closed other (behind touch touches other has) path lower stands);
        done = λ more stands others. elim (same_path more rest) [
          | inl same ↦
              changed_here n (target ++ rest) touch.node (target ++ more) (ap (λ (l : List (List ℕ)). target ++ l) same)
              ∙ sym (can.each touch here).2 ∙ ap m (at ∙ ap (λ (l : List (List ℕ)). source ++ l) (sym same))
          | inr differs ↦
              changed_other n (target ++ rest) touch.node (target ++ more) (apart more differs)
              ∙ can.done more stands (λ other has same. others_too more differs others other has same)
        ];
        free = λ other has.
            changed_other n (target ++ rest) touch.node (target ++ rest_of other) (apart (rest_of other) (λ same.
            not_first other.path (before_all touch touches other can.rising has) (at ∙ ap (λ (l : List (List ℕ)). source ++ l) (sym same) ∙ sym (can.each other (behind touch touches other has)).0)))
            ∙ can.free other (behind touch touches other has);
        absent = λ more none. changed_other n (target ++ rest) touch.node (target ++ more) (apart more (λ same.
            let each = can.each touch here in
            let gone : touch.node ≡ None = sym each.2 ∙ ap m (at ∙ ap (λ (l : List (List ℕ)). source ++ l) (sym same)) ∙ none in
            let no : true ≡ false = sym each.1 ∙ ap is_some gone in
            let never : ⊥ = cc in never)) ∙ can.absent more none;
        above = changed_other n (target ++ rest) touch.node (parent target) (λ same.
            parent_shorter target rest (not_root install target is below) same) ∙ can.above;
      }
        where
          later : (path : List (List ℕ)) → touch.path ≢ path → Contains (touch ∷ touches) (record { path = path; node = m path }) → Contains touches (record { path = path; node = m path })
          later path differs (zero, end, same) = absurd (differs (ap (λ (t : Touch). t.path) same))
          later path differs (suc k, end, same) = (k, omega arith, same)

          others_too : (more : List (List ℕ)) → more ≢ rest → ((other : Touch) → Contains touches other → other.path ≢ source ++ more) → (other : Touch) → Contains (touch ∷ touches) other → other.path ≢ source ++ more
          others_too more differs others other (zero, end, same) is' = differs (append_cancel_left source more rest (sym is' ∙ ap (λ (t : Touch). t.path) (sym same) ∙ at))
          others_too more differs others other (suc k, end, same) is' = others other (k, omega arith, same) is'

    can_copy : (n : Map) (touches : List Touch) (noted : List (List (List ℕ))) → CanCopy n touches → CanPerform install n (map (copied_set source target) touches ++ Note noted ∷ [])
    can_copy n [] noted can = tt
    can_copy n (touch ∷ touches) noted can = (step n touch touches can, can_copy (after n touch touches can) touches noted (next n touch touches can))

not_refused : (fault : Option ActionFault) (result : Outcome) (steps : List Step) → or_refused fault result ≡ Ok steps → (fault ≡ None) × (result ≡ Ok steps)
not_refused None result steps is = (refl, is)
not_refused (Some fault) result steps is = absurd (let no : ⊥ = cc in no)

not_present : (there : Option Node) (target : List (List ℕ)) → present there target ≡ None → there ≡ None
not_present None target passed = refl
not_present (Some node) target passed = absurd (let no : ⊥ = cc in no)

no_directory : (there : Option Node) (target : List (List ℕ)) (overwrite : Bool) → file_target overwrite there target ≡ None → is_dir there ≡ false
no_directory None target overwrite passed = refl
no_directory (Some (File mode blob)) target overwrite passed = refl
no_directory (Some Dir) target overwrite passed = absurd (let no : ⊥ = cc in no)
no_directory (Some (Link link)) target overwrite passed = refl

-- All lies below the root.
root_itself : (target : List (List ℕ)) → target ≢ [] → into_itself [] target ≡ Some (IntoItself target)
root_itself [] some = absurd (some refl)
root_itself (name ∷ rest) some =
    ap (λ (b : Bool). cond (b && not (path_eqb [] (name ∷ rest))) (Some (IntoItself (name ∷ rest))) None) (at_or_below_true [] (name ∷ rest) (name ∷ rest, refl))

not_from_root : (source target : List (List ℕ)) → target ≢ [] → into_itself source target ≡ None → source ≢ []
not_from_root source target some passed root =
    let no : Some (IntoItself target) ≡ None = sym (root_itself target some) ∙ ap (λ (l : List (List ℕ)). into_itself l target) (sym root) ∙ passed in
    let never : ⊥ = cc in never

-- Nothing is copied yet.
first_copy : (install : List (List ℕ)) (m : Map) (under : List Touch) (source target : List (List ℕ))
    → IsFormed m → IsUnder m source under → m target ≡ None → m (parent target) ≡ Some Dir → CanCopy install m source target m under
first_copy install m under source target formed stands none above = record {
  rising = λ i j d less end. rises_far under stands.rising i j d less end;
  each = λ touch has. let each = stands.each touch has in (rest_behind source touch.path each.0, each.1, each.2);
  closed = λ touch has path lower some.
      let front = at_or_below source touch.path (stands.each touch has).0 in
      stands.all path (at_or_below_true source path (front.0 ++ lower.0 ∷ lower.1, lower.2 ∙ ap (λ (l : List (List ℕ)). l ++ lower.0 ∷ lower.1) front.1 ∙ append_assoc source front.0 (lower.0 ∷ lower.1))) some;
  done = λ rest some others.
      let path = source ++ rest in
      absurd (others (record { path = path; node = m path }) (stands.all path (at_or_below_true source path (rest, refl)) some) refl);
  free = λ touch has. empty (drop (length source) touch.path);
  absent = λ rest gone. empty rest;
  above = above;
}
  where
    empty : (behind : List (List ℕ)) → m (target ++ behind) ≡ None
    empty [] = ap m (append-nil target) ∙ none
    empty (name ∷ more) = nothing_below m target formed (ap is_dir none) name more

pub copy_settable : (site : Site) (m : Map) (under : List Touch) (source target names : List (List ℕ)) (overwrite : Bool) (steps : List Step)
    → IsFormed m → IsInstall site.install → IsUnder m source under → target ≡ site.install ++ names → (source ≢ [] → IsOutside source)
    → copy site m under source target overwrite ≡ Ok steps → CanPerform site.install m steps
copy_settable site m under source target names overwrite steps formed install stands at outside is =
    elim (cases_Bool (is_dir (m source))) [
      | inl dir ↦
          let all = passed_all (first_of (into_itself source target ∷ present (m target) target ∷ too_deep_from source target under ∷ [])) sets steps (sym (ap choice dir) ∙ passed.1) in
          let one = first_passed (into_itself source target) (present (m target) target ∷ too_deep_from source target under ∷ []) all.0 in
          let two = first_passed (present (m target) target) (too_deep_from source target under ∷ []) one.1 in
          let none = not_present (m target) target two.0 in
          let some = not_from_root source target (not_root site.install target install below) one.0 in
          subst (CanPerform site.install m) all.1
          (can_copy site.install m source target formed install below (outside some) m under (map (λ (touch : Touch). moved source target touch.path) under)
          (first_copy site.install m under source target formed stands none (common_parent site m target reached)))
      | inr file ↦
          let all = passed_all (file_target overwrite (m target) target) (Set target (m source) ∷ Note (target ∷ []) ∷ []) steps (sym (ap choice file) ∙ passed.1) in
          let some : source ≢ [] = λ root. let no : true ≡ false = sym (ap is_dir (ap m root ∙ formed.root)) ∙ file in let never : ⊥ = cc in never in
          let free : ¬ (IsBelow entries_path source) = λ entry. outside some [] (subst (IsBelow entries_path) (sym (append-nil source)) entry) in
          subst (CanPerform site.install m) all.1 (
            can_step site.install m target (m source) install below (common_parent site m target reached)
                (nothing_below m target formed (no_directory (m target) target overwrite all.0))
                (node_there m source formed (m source) refl)
                (small_elsewhere (m source) source target free (small_there m source formed (m source) refl)),
            tt,
          )
    ]
  where
    sets : List Step
    sets = map (copied_set source target) under ++ Note (map (λ (touch : Touch). moved source target touch.path) under) ∷ []

    choice : Bool → Outcome
    choice dir =
        cond dir
        (unless (first_of (into_itself source target ∷ present (m target) target ∷ too_deep_from source target under ∷ [])) sets)
        (unless (file_target overwrite (m target) target) (Set target (m source) ∷ Note (target ∷ []) ∷ []))

    passed : (first_of (copy_source m source ∷ common site m target ∷ []) ≡ None) × (choice (is_dir (m source)) ≡ Ok steps)
    passed = not_refused (first_of (copy_source m source ∷ common site m target ∷ [])) (choice (is_dir (m source))) steps is

    reached : common site m target ≡ None
    reached = (first_passed (common site m target) [] (first_passed (copy_source m source) (common site m target ∷ []) passed.0).1).0

    below : IsBelow site.install target
    below = inside site.install names target at (way_passed site m target (common_way_passed site m target reached))

-- what begins with another name than the journal's folder
headed : (first : List ℕ) (more path : List (List ℕ)) → path ≡ first ∷ more → length first ≢ length (codes ".p2") → IsOutside path
headed first more path is apart rest (name, deep, entry) =
    let same : first ∷ (more ++ rest) ≡ codes ".p2" ∷ (codes "e" ∷ name ∷ deep) = sym (ap (λ (l : List (List ℕ)). l ++ rest) is) ∙ entry in
    apart (ap length (ap (λ (l : List (List ℕ)). get_or l 0 []) same))

artifact_outside : (artifact : Option (List (List ℕ))) → ((path : List (List ℕ)) → artifact ≡ Some path → IsPooled path) → unwrap_or artifact [] ≢ [] → IsOutside (unwrap_or artifact [])
artifact_outside None pooled some = absurd (some refl)
artifact_outside (Some path) pooled some =
    let is = pooled path refl in
    headed (codes "pool") (is.0 ∷ is.1 ∷ []) path is.3 (λ e. absurd (omega (arith, e)))

-- A call copies from the folder of the profile or from the pool.
pub source_outside : (shape : Shape) → IsShape shape → (base : Base) (names : List (List ℕ)) → IsSource (Place base names)
    → base_path (site_of shape) base ++ names ≢ [] → IsOutside (base_path (site_of shape) base ++ names)
source_outside shape formed Install names is some =
    let install = formed.install in
    headed (codes "installs") (install.0 ∷ names) (shape.install ++ names) (ap (λ (l : List (List ℕ)). l ++ names) install.2) (λ e. absurd (omega (arith, e)))
source_outside shape formed Artifact names is some =
    let whole : unwrap_or shape.artifact [] ++ names ≡ unwrap_or shape.artifact [] = ap (λ (l : List (List ℕ)). unwrap_or shape.artifact [] ++ l) is ∙ append-nil (unwrap_or shape.artifact []) in
    subst IsOutside (sym whole) (artifact_outside shape.artifact formed.artifact (λ none. some (whole ∙ none)))

artifact_short : (artifact : Option (List (List ℕ))) → ((path : List (List ℕ)) → artifact ≡ Some path → IsPooled path) → length (unwrap_or artifact []) ≤ 3
artifact_short None pooled = omega arith
artifact_short (Some path) pooled = let is = pooled path refl in let three = ap length is.3 in omega (arith, three)

pub source_short : (shape : Shape) → IsShape shape → (base : Base) (names : List (List ℕ)) → IsSource (Place base names) → length (base_path (site_of shape) base ++ names) ≤ 64
source_short shape formed Install names is =
    let two = ap length formed.install.2 in omega (arith, two, is, length-append shape.install names)
source_short shape formed Artifact names is =
    let none = ap length is in omega (arith, none, artifact_short shape.artifact formed.artifact, length-append (unwrap_or shape.artifact []) names)

pub target_short : (shape : Shape) → IsShape shape → (names : List (List ℕ)) → length names ≤ 60 → length (shape.install ++ names) ≤ 64
target_short shape formed names short =
    let two = ap length formed.install.2 in omega (arith, two, short, length-append shape.install names)

module _ (shape : Shape) (call : Call) (is : call.kind.0 ≡ 3) (fills : IsCall call) (formed : IsShape shape) where
  places : TwoPlaces (site_of shape) call
  places = two_places (optional 3 AFlag ∷ []) (site_of shape) call (subst (λ (k : ℕ). Fill (slots_of k) call.params) is fills)

  pub copy_source_short : length (place_at (site_of shape) call 1) ≤ 64
  copy_source_short = subst (λ (l : List (List ℕ)). length l ≤ 64) (sym places.source_is) (source_short shape formed places.base places.source places.form)

  pub copy_target_short : length (place_at (site_of shape) call 2) ≤ 64
  copy_target_short = subst (λ (l : List (List ℕ)). length l ≤ 64) (sym places.target_is) (target_short shape formed places.target places.short)

  pub copy_laws : Laws shape call (copy (site_of shape) (map_of shape) (under_in shape.nodes (place_at (site_of shape) call 1)) (place_at (site_of shape) call 1) (place_at (site_of shape) call 2) (flag_at call 3))
  copy_laws =
      let source = place_at (site_of shape) call 1 in
      let target = place_at (site_of shape) call 2 in
      let under = under_in shape.nodes source in
      let outside : source ≢ [] → IsOutside source = λ some. subst IsOutside (sym places.source_is) (source_outside shape formed places.base places.source places.form (λ none. some (places.source_is ∙ none))) in
      record {
        effect = λ outcome answers m stands. has_effect 3 call shape m outcome is formed stands
            (same_copy (site_of shape) m (map_of shape) under source target (flag_at call 3) (stands.near source places.has_source) (stands.near target places.has_target)) answers;
        settable = λ steps answers m stands well.
            copy_settable (site_of shape) m under source target places.target (flag_at call 3) steps well formed.install
            (is_under shape.nodes formed.rising m source (stands.near source places.has_source)) places.target_is outside
            (same_copy (site_of shape) m (map_of shape) under source target (flag_at call 3) (stands.near source places.has_source) (stands.near target places.has_target) ∙ answers);
      }
