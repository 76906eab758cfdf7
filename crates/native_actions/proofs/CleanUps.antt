-- The row of `cleanupcopy`: what is taken away stands when its turn comes, with nothing below it.
use Rattle.std.proofs.Common.{◌≡◌, ◌≢◌, ℕ, zero, suc, ◌≤◌, Bool, true, false, cond, List, [], ◌∷◌, ◌++◌, length, None, inl, inr, refl, sym, ◌∙◌, ap, subst, arith, append_assoc}
use Rattle.std.specs.Prelude.{◌&&◌, not, is_some, IsSome, reverse}
use Rattle.std.specs.List.{Contains, filter, list_any}
use Rattle.std.proofs.lemmas.Bool.{cases_Bool}
use Rattle.std.proofs.lemmas.List.{reverse-append}
use Rattle.std.proofs.lemmas.List.Elements.{Contains-append_cases}
use Rattle.std.proofs.lemmas.List.Folds.{Any-from_list_any}
use Rattle.folder_core.specs.Folder.{Map, IsFormed, NothingBelow, set_at}
use Rattle.folder_core.specs.Path.{IsBelow, path_eqb}
use Rattle.folder_core.specs.declared.node.Touch.{Touch}
use Rattle.folder_core.proofs.Maps.{path_eqb-Decides, changed_here, changed_other, IsFormed-set_at}
use Rattle.instr_parser.specs.declared.call.Call.{Call}
use Rattle.instr_parser.specs.Given.{IsCall, Fill, slots_of}
use Rattle.action_core.specs.Places.{place_at}
use Rattle.action_core.specs.Rows.{all_but, can_go, cleaned, cleanupcopy, has_child, is_at}
use Rattle.action_core.specs.Standing.{IsInstall, IsShape, IsUnder, IsAtOrBelow, is_at_or_below, site_of, under_in}
use Rattle.action_core.specs.Steps.{CanPerform, CanStep}
use Rattle.action_core.specs.declared.shape.Shape.{Shape}
use Rattle.action_core.specs.declared.step.Step.TheVariants.{Set, Note}
use Rattle.native_actions.proofs.Calls.{TwoPlaces, two_places}
use Rattle.native_actions.proofs.Copies.{target_short}
use Rattle.native_actions.proofs.Effects.{Laws, has_effect}
use Rattle.native_actions.proofs.Gathered.{at_or_below_true, both_true, contains_filter, filtered_rise, is_under}
use Rattle.native_actions.proofs.MkDirs.{passed_all}
use Rattle.native_actions.proofs.Removings.{some_node}
use Rattle.native_actions.proofs.RmDirs.{longer_apart, none_of, some_or_none}
use Rattle.native_actions.proofs.Settings.{not_root, can_step}

contains_whole : (p : Touch → Bool) (xs : List Touch) (x : Touch) → Contains (filter p xs) x → Contains xs x × (p x ≡ true)
contains_whole p [] x (k, below, is) = absurd (omega arith)
contains_whole p (y ∷ xs) x has = elim (cases_Bool (p y)) [
  | inl here ↦ first (λ (behind : Contains (filter p xs) x). contains_whole p xs x behind) here (subst (λ (l : List Touch). Contains l x) (ap (λ (b : Bool). cond b (y ∷ filter p xs) (filter p xs)) here) has)
  | inr other ↦
      let behind = contains_whole p xs x (subst (λ (l : List Touch). Contains l x) (ap (λ (b : Bool). cond b (y ∷ filter p xs) (filter p xs)) other) has) in
      (later behind.0, behind.1)
]
  where
    later : Contains xs x → Contains (y ∷ xs) x
    later (k, below, is) = (suc k, omega arith, is)

    first : (Contains (filter p xs) x → Contains xs x × (p x ≡ true)) → p y ≡ true → Contains (y ∷ filter p xs) x → Contains (y ∷ xs) x × (p x ≡ true)
    first deeper here (zero, below, is) = ((0, omega arith, is), ap p (sym is) ∙ here)
    first deeper here (suc k, below, is) = let behind = deeper (k, omega arith, is) in (later behind.0, behind.1)

not_true : (b : Bool) → not b ≡ true → b ≡ false
not_true true is = absurd (let no : ⊥ = cc in no)
not_true false is = refl

module _ (install : List (List ℕ)) (is : IsInstall install) (target : List (List ℕ)) where
  module _ (n : Map) (path : List (List ℕ)) (under : List Touch) (formed : IsFormed n) (stands : IsUnder n target under) (can : can_go path under ≡ true) (lower : IsAtOrBelow target path) (inside : IsBelow install path) where
    there : IsSome (n path)
    there =
        let any = Any-from_list_any (is_at path) under (both_true (list_any (is_at path) under) (not (has_child path under)) can).0 in
        let each = stands.each any.1 (any.0, any.2, any.3) in
        ap (λ (p : List (List ℕ)). is_some (n p)) (sym ((path_eqb-Decides any.1.path path).0 any.4)) ∙ ap is_some each.2 ∙ each.1

    some : path ≢ []
    some = not_root install path is inside

    childless : has_child path under ≡ false
    childless = not_true (has_child path under) (both_true (list_any (is_at path) under) (not (has_child path under)) can).1

    nothing : NothingBelow n path
    nothing name more = elim (some_or_none (n (path ++ name ∷ more))) [
      | inl child ↦
          let place = path ++ name ∷ more in
          let below : is_at_or_below path place ≡ true = at_or_below_true path place (name ∷ more, refl) in
          let has = stands.all place (at_or_below_true target place (lower.0 ++ name ∷ more, ap (λ (l : List (List ℕ)). l ++ name ∷ more) lower.1 ∙ append_assoc target lower.0 (name ∷ more))) child in
          let no_child = none_of (λ (t : Touch). is_at_or_below path t.path && not (path_eqb t.path path)) under (record { path = place; node = n place }) childless has in
          let no : true ≡ false = sym (ap (λ (b : Bool). b && not (path_eqb place path)) below ∙ ap not (longer_apart path name more)) ∙ no_child in
          absurd (let never : ⊥ = cc in never)
      | inr absent ↦ absent
    ]

    step : CanStep install n path None
    step =
        let node = some_node (n path) there in
        can_step install n path None is inside (formed.parents path node.0 some node.1) nothing tt tt

    abbrev after : Map
    after = set_at n path None

    still_formed : IsFormed after
    still_formed = let node = some_node (n path) there in IsFormed-set_at n path None formed step.place (formed.paths path node.0 node.1) tt tt

    still_under : IsUnder after target (all_but path under)
    still_under = record {
      rising = filtered_rise under stands.rising (λ (t : Touch). not (path_eqb t.path path));
      each = λ touch has.
          let whole = contains_whole (λ (t : Touch). not (path_eqb t.path path)) under touch has in
          let each = stands.each touch whole.0 in
          (each.0, each.1, changed_other n path None touch.path (λ same. kept_apart touch whole.1 same) ∙ each.2);
      all = λ place below stays.
          let apart : place ≢ path = λ same. let no : false ≡ true = sym (ap is_some (changed_here n path None place same)) ∙ stays in let never : ⊥ = cc in never in
          let same : after place ≡ n place = changed_other n path None place apart in
          let has = stands.all place below (sym (ap is_some same) ∙ stays) in
          let d : Touch = record { path = place; node = n place } in
          let e : Touch = record { path = place; node = after place } in
          let one : d ≡ e = λ i. record { path = place; node = sym same i } in
          let differs : not (path_eqb place path) ≡ true = elim (cases_Bool (path_eqb place path)) [
            | inl is_it ↦ absurd (apart ((path_eqb-Decides place path).0 is_it))
            | inr other ↦ ap not other
          ] in
          subst (Contains (all_but path under)) one (contains_filter (λ (t : Touch). not (path_eqb t.path path)) under d has differs);
    }
      where
        kept_apart : (touch : Touch) → not (path_eqb touch.path path) ≡ true → touch.path ≢ path
        kept_apart touch kept same =
            let no : true ≡ false = sym kept ∙ ap not ((path_eqb-Decides touch.path path).1 same) in
            let never : ⊥ = cc in never

  -- Each may go when its turn comes.
  can_clean : (n : Map) (paths : List (List (List ℕ))) (under : List Touch) → IsFormed n → IsUnder n target under
      → ((path : List (List ℕ)) → Contains paths path → IsAtOrBelow target path × IsBelow install path) → CanPerform install n (cleaned paths under ++ Note [] ∷ [])
  can_clean n [] under formed stands noted = tt
  can_clean n (path ∷ paths) under formed stands noted = elim (cases_Bool (can_go path under)) [
    | inl can ↦
        subst (λ (b : Bool). CanPerform install n (cond b (Set path None ∷ cleaned paths (all_but path under)) (cleaned paths under) ++ Note [] ∷ [])) (sym can) (
          step n path under formed stands can place.0 place.1,
          can_clean (after n path under formed stands can place.0 place.1) paths (all_but path under)
              (still_formed n path under formed stands can place.0 place.1) (still_under n path under formed stands can place.0 place.1) later,
        )
    | inr stays ↦
        subst (λ (b : Bool). CanPerform install n (cond b (Set path None ∷ cleaned paths (all_but path under)) (cleaned paths under) ++ Note [] ∷ [])) (sym stays)
        (can_clean n paths under formed stands later)
  ]
    where
      place : IsAtOrBelow target path × IsBelow install path
      place = noted path (0, omega arith, refl)

      later : (other : List (List ℕ)) → Contains paths other → IsAtOrBelow target other × IsBelow install other
      later other (k, below, same) = noted other (suc k, omega arith, same)

reverse_has : (noted : List (List (List ℕ))) (path : List (List ℕ)) → Contains (reverse noted) path → Contains noted path
reverse_has [] path (k, below, same) = absurd (omega arith)
reverse_has (first ∷ noted) path has = elim (Contains-append_cases (reverse noted) (first ∷ []) path (subst (λ (l : List (List (List ℕ))). Contains l path) (reverse-append (first ∷ []) noted) has)) [
  | inl front ↦ let behind = reverse_has noted path front in (suc behind.0, let b = behind.1 in omega arith, behind.2)
  | inr last ↦ one last
]
  where
    one : Contains (first ∷ []) path → Contains (first ∷ noted) path
    one (zero, below, same) = (0, omega arith, same)
    one (suc k, below, same) = absurd (omega arith)

module _ (shape : Shape) (call : Call) (is : call.kind.0 ≡ 4) (fills : IsCall call) (formed : IsShape shape) where
  places : TwoPlaces (site_of shape) call
  places = two_places [] (site_of shape) call (subst (λ (k : ℕ). Fill (slots_of k) call.params) is fills)

  pub cleaned_target_short : length (place_at (site_of shape) call 2) ≤ 64
  cleaned_target_short = subst (λ (l : List (List ℕ)). length l ≤ 64) (sym places.target_is) (target_short shape formed places.target places.short)

  pub cleanupcopy_laws : Laws shape call (cleanupcopy (under_in shape.nodes (place_at (site_of shape) call 2)) shape.noted)
  cleanupcopy_laws =
      let target = place_at (site_of shape) call 2 in
      let under = under_in shape.nodes target in
      record {
        effect = λ outcome answers m stands. has_effect 4 call shape m outcome is formed stands refl answers;
        settable = λ steps answers m stands well.
            subst (CanPerform shape.install m) (passed_all None (cleaned (reverse shape.noted) under ++ Note [] ∷ []) steps answers).1
            (can_clean shape.install formed.install target m (reverse shape.noted) under well (is_under shape.nodes formed.rising m target (stands.near target places.has_target))
            (λ path has. let noted = reverse_has shape.noted path has in (stands.noted_at path noted, stands.noted_in path noted)));
      }
