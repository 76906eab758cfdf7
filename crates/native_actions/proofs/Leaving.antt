-- What can leave among the paths that stand.
use Rattle.std.proofs.Common.{◌≡◌, ◌≢◌, ◌⊎◌, ℕ, zero, suc, ◌+◌, ◌-◌, ◌<◌, ◌≤◌, Bool, true, false, cond, List, [], ◌∷◌, ◌++◌, length, get_or, take, None, Ordering, Ok, Err, inl, inr, refl, sym, ◌∙◌, ap, subst, arith, append_assoc, append-nil}
use Rattle.std.specs.Prelude.{◌&&◌, not, reverse}
use Rattle.std.specs.Cmp.Lexicographic.{slice_cmp, texts_ties}
use Rattle.std.specs.List.{AllPairs, filter, list_any, remove}
use Rattle.std.specs.List.Sorted.{IsBinarySearchResult, IsNonDecreasingBy}
use Rattle.std.specs.Ordering.{nat_cmp, ordering_reverse, ordering_index, ordering_then, is_eq, is_lt}
use Rattle.std.specs.declared.cmp.Ordering.TheVariants.{Less, Equal, Greater}
use Rattle.std.proofs.lemmas.Bool.{cases_Bool, cases_eq, cases_lt}
use Rattle.std.proofs.lemmas.Cmp.{nat_list_cmp_total, tied_itself}
use Rattle.std.proofs.lemmas.List.{get_or-map, get_or_default, length-map, reverse-append, take_more}
use Rattle.std.proofs.lemmas.List.Folds.{list_any_at, list_any_none}
use Rattle.std.proofs.lemmas.List.Kept.{AllPairs-filter}
use Rattle.std.proofs.lemmas.Slice.Eq.{bytes_eq-Decides}
use Rattle.std.proofs.lemmas.List.Sorted.{searchable_from_sorted}
use Rattle.instr_parser.proofs.Walks.{list_any-map}
use Rattle.folder_core.specs.Path.{path_eqb}
use Rattle.folder_core.specs.PathOrder.{path_cmp, IsPathBefore}
use Rattle.folder_core.specs.declared.node.Touch.{Touch}
use Rattle.folder_core.proofs.Maps.{path_eqb-Decides}
use Rattle.folder_core.proofs.PathOrder.{path_cmp_total, above_first}
use Rattle.install_journal.proofs.Orders.{not_before_itself}
use Rattle.action_core.specs.Rows.{all_but, can_go, cleaned, cleanupcopy, is_at}
use Rattle.action_core.specs.Standing.{AreRising, IsAtOrBelow, is_at_or_below, stands_under, under_in}
use Rattle.action_core.specs.declared.step.Step.{Step}
use Rattle.action_core.specs.declared.step.Step.TheVariants.{Set, Note}
use Rattle.action_core.proofs.Lookups.{exact_paths, rises_far}
use Rattle.native_actions.specs.Cleared.{ArePathsRising, can_leave, cleared, holds_child, paths_of, without}
use Rattle.native_actions.proofs.Effects.{Outcome}
use Rattle.native_actions.proofs.Gathered.{at_or_below, at_or_below_true}

exact_names : (a b : List ℕ) → slice_cmp nat_cmp a b ≡ Equal → a ≡ b
exact_names a b tied = (bytes_eq-Decides a b).0 (texts_ties a b ∙ ap is_eq tied)

-- What lies between a path and one below it lies below the path too.
between : (path place rest : List (List ℕ)) → IsPathBefore path place → (place ≡ path ++ rest) ⊎ IsPathBefore place (path ++ rest) → IsAtOrBelow path place
between [] place rest after before = (place, refl)
between (name ∷ path) [] rest after before = absurd (let no : ⊥ = cc in no)
between (name ∷ path) (other ∷ place) rest after (inl is) = (rest, is)
between (name ∷ path) (other ∷ place) rest after (inr before) = by_order (λ (first : IsPathBefore path place) (last : (place ≡ path ++ rest) ⊎ IsPathBefore place (path ++ rest)). between path place rest first last) (slice_cmp nat_cmp name other) refl
  where
    by_order : (IsPathBefore path place → (place ≡ path ++ rest) ⊎ IsPathBefore place (path ++ rest) → IsAtOrBelow path place) → (order : Ordering) → slice_cmp nat_cmp name other ≡ order → IsAtOrBelow (name ∷ path) (other ∷ place)
    by_order deeper Less is =
        let back : slice_cmp nat_cmp other name ≡ Greater = nat_list_cmp_total.antisymm other name ∙ ap ordering_reverse is in
        let no : Greater ≡ Less = sym (ap (λ (o : Ordering). ordering_then o (path_cmp place (path ++ rest))) back) ∙ before in
        absurd (let never : ⊥ = cc in never)
    by_order deeper Greater is =
        let no : Greater ≡ Less = sym (ap (λ (o : Ordering). ordering_then o (path_cmp path place)) is) ∙ after in
        absurd (let never : ⊥ = cc in never)
    by_order deeper Equal is =
        let back : slice_cmp nat_cmp other name ≡ Equal = nat_list_cmp_total.antisymm other name ∙ ap ordering_reverse is in
        let same : name ≡ other = exact_names name other is in
        let lower = deeper
        (sym (ap (λ (o : Ordering). ordering_then o (path_cmp path place)) is) ∙ after)
        (inr (sym (ap (λ (o : Ordering). ordering_then o (path_cmp place (path ++ rest))) back) ∙ before)) in
        (lower.0, ap (λ (l : List (List ℕ)). other ∷ l) lower.1 ∙ ap (λ (n : List ℕ). n ∷ (path ++ lower.0)) (sym same))

not_below_before : (path place : List (List ℕ)) → IsPathBefore place path → is_at_or_below path place ≡ false
not_below_before path place before = elim (cases_Bool (is_at_or_below path place)) [
  | inl is ↦
      let lower = at_or_below path place is in
      absurd (below lower.0 lower.1)
  | inr other ↦ other
]
  where
    below : (rest : List (List ℕ)) → place ≡ path ++ rest → ⊥
    below [] is = not_before_itself path (subst (λ (p : List (List ℕ)). IsPathBefore p path) (is ∙ append-nil path) before)
    below (name ∷ rest) is =
        not_before_itself path (path_cmp_total.trans path place path (subst (IsPathBefore path) (sym is) (above_first path name rest)) before)

and_false : (b : Bool) → (b && false) ≡ false
and_false true = refl
and_false false = refl

apart_at : (path place : List (List ℕ)) → place ≢ path → path_eqb place path ≡ false
apart_at path place other = elim (cases_Bool (path_eqb place path)) [
  | inl same ↦ absurd (other ((path_eqb-Decides place path).0 same))
  | inr differs ↦ differs
]

-- what none of these is stays as it is
kept_all : (path : List (List ℕ)) (left : List (List (List ℕ))) → ((k : ℕ) (d : List (List ℕ)) → k < length left → get_or left k d ≢ path) → without path left ≡ left
kept_all path [] apart = refl
kept_all path (place ∷ left) apart =
    ap (λ (b : Bool). cond (not b) (place ∷ without path left) (without path left)) (apart_at path place (apart 0 path (omega arith)))
    ∙ ap (λ (l : List (List (List ℕ))). place ∷ l) (kept_all path left (λ k d below. apart (suc k) d (omega arith)))

left_behind : (path : List (List ℕ)) (left : List (List (List ℕ))) (k : ℕ) → ArePathsRising left → k < length left → get_or left k path ≡ path → remove left k ≡ without path left
left_behind path [] k rising below is = absurd (omega arith)
left_behind path (place ∷ left) zero rising below is =
    sym (kept_all path left (λ k d end same. not_before_itself path (subst (λ (p : List (List ℕ)). IsPathBefore p path) is (subst (IsPathBefore place) same (rising 0 (suc k) d (omega arith) (omega arith))))))
    ∙ sym (ap (λ (b : Bool). cond (not b) (place ∷ without path left) (without path left)) ((path_eqb-Decides place path).1 is))
left_behind path (place ∷ left) (suc k) rising below is =
    let before : IsPathBefore place path = subst (IsPathBefore place) is (rising 0 (suc k) path (omega arith) (omega arith)) in
    ap (λ (l : List (List (List ℕ))). place ∷ l) (left_behind path left k (λ i j d less end. rising (suc i) (suc j) d (omega arith) (omega arith)) (omega arith) is)
    ∙ sym (ap (λ (b : Bool). cond (not b) (place ∷ without path left) (without path left))
    (apart_at path place (λ same. not_before_itself path (subst (λ (p : List (List ℕ)). IsPathBefore p path) same before))))

module _ (left : List (List (List ℕ))) (rising : ArePathsRising left) (path : List (List ℕ)) where
  searchable : IsNonDecreasingBy (λ place. ordering_index (path_cmp place path)) left
  searchable = searchable_from_sorted path_cmp_total (λ (place : List (List ℕ)). place) left path
      (λ k d low below. ap is_lt (path_cmp_total.antisymm (get_or left (k + 1) d) (get_or left k d) ∙ ap ordering_reverse (rising k (k + 1) d (omega arith) below)))

  -- A search that finds no place says that the path doesn't stand.
  pub none_leaves : (place : ℕ) → IsBinarySearchResult (λ p. path_cmp p path) left (Err place) → can_leave path left ≡ false
  none_leaves place parted =
      ap (λ (b : Bool). b && not (holds_child path left)) (list_any_none (λ (p : List (List ℕ)). path_eqb p path) left (λ k d below. apart_at path (get_or left k d) (none k d below)))
    where
      none : (k : ℕ) (d : List (List ℕ)) → k < length left → get_or left k d ≢ path
      none k d below same =
          let tied : path_cmp (get_or left k d) path ≡ Equal = ap (λ (p : List (List ℕ)). path_cmp p path) same ∙ tied_itself path_cmp_total path in
          elim (cases_lt k place) [
            | inl low ↦ let less = (parted searchable).0 k d (omega arith) low in let no : ⊥ = cc in no
            | inr high ↦ let more = (parted searchable).1 k d high below in let no : ⊥ = cc in no
          ]

  module _ (place : ℕ) (below : place < length left) (found : IsBinarySearchResult (λ p. path_cmp p path) left (Ok place)) where
    pub stands_here : get_or left place path ≡ path
    stands_here = exact_paths (get_or left place path) path (found path)

    before_here : (k : ℕ) (d : List (List ℕ)) → k < place → IsPathBefore (get_or left k d) path
    before_here k d less = subst (IsPathBefore (get_or left k d)) (get_or_default left place d path below ∙ stands_here) (rising k place d less below)

    behind_here : (k : ℕ) (d : List (List ℕ)) → place < k → k < length left → IsPathBefore path (get_or left k d)
    behind_here k d less end = subst (λ (p : List (List ℕ)). IsPathBefore p (get_or left k d)) (get_or_default left place d path below ∙ stands_here) (rising place k d less end)

    -- Right behind it stands something below it.
    pub holds_next : (next : List (List ℕ)) → place + 1 < length left → next ≡ get_or left (place + 1) next → is_at_or_below path next ≡ true → can_leave path left ≡ false
    holds_next next end is lower =
        let after : IsPathBefore path next = subst (IsPathBefore path) (sym is) (behind_here (place + 1) next (omega arith) end) in
        let differs = apart_at path next (λ same. not_before_itself path (subst (IsPathBefore path) same after)) in
        let child : (is_at_or_below path (get_or left (place + 1) next) && not (path_eqb (get_or left (place + 1) next) path)) ≡ true =
        ap (λ (p : List (List ℕ)). is_at_or_below path p && not (path_eqb p path)) (sym is)
        ∙ ap (λ (b : Bool). b && not (path_eqb next path)) lower ∙ ap not differs in
        ap (λ (b : Bool). list_any (λ (p : List (List ℕ)). path_eqb p path) left && not b) (list_any_at (λ (p : List (List ℕ)). is_at_or_below path p && not (path_eqb p path)) left (place + 1) next end child)
        ∙ and_false (list_any (λ (p : List (List ℕ)). path_eqb p path) left)

    module _ (next : place + 1 < length left → is_at_or_below path (get_or left (place + 1) path) ≡ false) where
      no_child : (k : ℕ) (d : List (List ℕ)) → k < length left → (is_at_or_below path (get_or left k d) && not (path_eqb (get_or left k d) path)) ≡ false
      no_child k d end = elim (cases_lt k place) [
        | inl low ↦ ap (λ (b : Bool). b && not (path_eqb (get_or left k d) path)) (not_below_before path (get_or left k d) (before_here k d low))
        | inr high ↦ elim (cases_eq k place) [
          | inl same ↦
              let here : get_or left k d ≡ path = ap (λ (n : ℕ). get_or left n d) same ∙ get_or_default left place d path below ∙ stands_here in
              ap (λ (b : Bool). is_at_or_below path (get_or left k d) && not b) ((path_eqb-Decides (get_or left k d) path).1 here) ∙ and_false (is_at_or_below path (get_or left k d))
          | inr differs ↦ ap (λ (b : Bool). b && not (path_eqb (get_or left k d) path)) (behind_next k d (omega (arith, high, differs)) end)
        ]
      ]
        where
          behind_next : (k : ℕ) (d : List (List ℕ)) → place < k → k < length left → is_at_or_below path (get_or left k d) ≡ false
          behind_next k d less end = elim (cases_Bool (is_at_or_below path (get_or left k d))) [
            | inl is ↦
                let lower = at_or_below path (get_or left k d) is in
                let first = get_or left (place + 1) path in
                let at : first ≡ get_or left (place + 1) d = get_or_default left (place + 1) path d (omega arith) in
                let order : (first ≡ path ++ lower.0) ⊎ IsPathBefore first (path ++ lower.0) = elim (cases_eq k (place + 1)) [
                  | inl same ↦ inl (at ∙ ap (λ (n : ℕ). get_or left n d) (sym same) ∙ lower.1)
                  | inr differs ↦ inr (subst (λ (p : List (List ℕ)). IsPathBefore p (path ++ lower.0)) (sym at) (subst (IsPathBefore (get_or left (place + 1) d)) lower.1 (rising (place + 1) k d (omega (arith, differs)) end)))
                ] in
                let near = between path first lower.0 (behind_here (place + 1) path (omega arith) (omega arith)) order in
                let no : true ≡ false = sym (at_or_below_true path first near) ∙ next (omega arith) in
                absurd (let never : ⊥ = cc in never)
            | inr other ↦ other
          ]

      pub leaves_here : (place < length left) × (get_or left place path ≡ path) × (can_leave path left ≡ true) × (remove left place ≡ without path left)
      leaves_here = (below, stands_here, stands, left_behind path left place rising below stands_here)
        where
          stands : can_leave path left ≡ true
          stands =
              ap (λ (b : Bool). b && not (holds_child path left)) (list_any_at (λ (p : List (List ℕ)). path_eqb p path) left place path below ((path_eqb-Decides (get_or left place path) path).1 stands_here))
              ∙ ap not (list_any_none (λ (p : List (List ℕ)). is_at_or_below path p && not (path_eqb p path)) left no_child)

-- one noted path less
last_first : (noted : List (List (List ℕ))) (count : ℕ) (path : List (List ℕ)) → 0 < count → count ≤ length noted → path ≡ get_or noted (count - 1) path
    → reverse (take count noted) ≡ path ∷ reverse (take (count - 1) noted)
last_first noted count path some up is =
    let next : count ≡ count - 1 + 1 = omega arith in
    ap (λ (n : ℕ). reverse (take n noted)) next
    ∙ ap reverse (take_more noted (count - 1) path (omega arith))
    ∙ ap (λ (p : List (List ℕ)). reverse (take (count - 1) noted ++ p ∷ [])) (sym is)
    ∙ reverse-append (take (count - 1) noted) (path ∷ [])

module _ (noted left : List (List (List ℕ))) (count : ℕ) (path : List (List ℕ)) (some : 0 < count) (up : count ≤ length noted) (is : path ≡ get_or noted (count - 1) path) (steps all : List Step)
    (so_far : all ≡ steps ++ cleared (reverse (take count noted)) left) where
  next : all ≡ steps ++ cond (can_leave path left) (Set path None ∷ cleared (reverse (take (count - 1) noted)) (without path left)) (cleared (reverse (take (count - 1) noted)) left)
  next = so_far ∙ ap (λ (l : List (List (List ℕ))). steps ++ cleared l left) (last_first noted count path some up is)

  pub stays : can_leave path left ≡ false → all ≡ steps ++ cleared (reverse (take (count - 1) noted)) left
  stays remains = next ∙ ap (λ (b : Bool). steps ++ cond b (Set path None ∷ cleared (reverse (take (count - 1) noted)) (without path left)) (cleared (reverse (take (count - 1) noted)) left)) remains

  pub leaves : (place : ℕ) (removed : List (List ℕ)) (new : List (List (List ℕ))) (pushed : List Step) → place < length left → get_or left place path ≡ path → can_leave path left ≡ true → remove left place ≡ without path left
      → removed ≡ get_or left place removed → new ≡ remove left place → pushed ≡ steps ++ Set removed None ∷ []
      → all ≡ pushed ++ cleared (reverse (take (count - 1) noted)) new
  leaves place removed new pushed below here can gone takes news pushes =
      let same : removed ≡ path = takes ∙ get_or_default left place removed path below ∙ here in
      next
      ∙ ap (λ (b : Bool). steps ++ cond b (Set path None ∷ cleared (reverse (take (count - 1) noted)) (without path left)) (cleared (reverse (take (count - 1) noted)) left)) can
      ∙ sym (append_assoc steps (Set path None ∷ []) (cleared (reverse (take (count - 1) noted)) (without path left)))
      ∙ ap (λ (p : List (List ℕ)). (steps ++ Set p None ∷ []) ++ cleared (reverse (take (count - 1) noted)) (without path left)) (sym same)
      ∙ ap (λ (l : List Step). l ++ cleared (reverse (take (count - 1) noted)) (without path left)) (sym pushes)
      ∙ ap (λ (l : List (List (List ℕ))). pushed ++ cleared (reverse (take (count - 1) noted)) l) (sym (news ∙ gone))

pub still_rising : (path : List (List ℕ)) (left new : List (List (List ℕ))) (place : ℕ) → ArePathsRising left → remove left place ≡ without path left → new ≡ remove left place → ArePathsRising new
still_rising path left new place rising gone news =
    subst ArePathsRising (sym (news ∙ gone)) (AllPairs-filter IsPathBefore (λ (p : List (List ℕ)). not (path_eqb p path)) left rising)

-- What stands under a place rises by its paths.
pub under_rises : (nodes : List Touch) (place : List (List ℕ)) (left : List (List (List ℕ))) → AreRising nodes → left ≡ paths_of (under_in nodes place) → ArePathsRising left
under_rises nodes place left rising is = subst ArePathsRising (sym is) paths_rise
  where
    kept : AllPairs (λ (a b : Touch). IsPathBefore a.path b.path) (under_in nodes place)
    kept = AllPairs-filter (λ (a b : Touch). IsPathBefore a.path b.path) (stands_under place) nodes (λ i j d less end. rises_far nodes rising i j d less end)

    of_paths : (touches : List Touch) → AllPairs (λ (a b : Touch). IsPathBefore a.path b.path) touches → ArePathsRising (paths_of touches)
    of_paths touches pairs i j d less end =
        let size : length (paths_of touches) ≡ length touches = length-map touches (λ (t : Touch). t.path) in
        let e : Touch = record { path = d; node = None } in
        subst (λ (p : List (List ℕ)). IsPathBefore p (get_or (paths_of touches) j d)) (sym (get_or-map (λ (t : Touch). t.path) touches i e d (omega (arith, size))))
        (subst (IsPathBefore (get_or touches i e).path) (sym (get_or-map (λ (t : Touch). t.path) touches j e d (omega (arith, size)))) (pairs i j e less (omega (arith, size))))

    paths_rise : ArePathsRising (paths_of (under_in nodes place))
    paths_rise = of_paths (under_in nodes place) kept

-- The same by nodes and by their paths.
filter_paths : (p : List (List ℕ) → Bool) (touches : List Touch) → paths_of (filter (λ (t : Touch). p t.path) touches) ≡ filter p (paths_of touches)
filter_paths p [] = refl
filter_paths p (touch ∷ touches) = elim (cases_Bool (p touch.path)) [
  | inl here ↦
      ap (λ (b : Bool). paths_of (cond b (touch ∷ filter (λ (t : Touch). p t.path) touches) (filter (λ (t : Touch). p t.path) touches))) here
      ∙ ap (λ (l : List (List (List ℕ))). touch.path ∷ l) (filter_paths p touches)
      ∙ sym (ap (λ (b : Bool). cond b (touch.path ∷ filter p (paths_of touches)) (filter p (paths_of touches))) here)
  | inr other ↦
      ap (λ (b : Bool). paths_of (cond b (touch ∷ filter (λ (t : Touch). p t.path) touches) (filter (λ (t : Touch). p t.path) touches))) other
      ∙ filter_paths p touches
      ∙ sym (ap (λ (b : Bool). cond b (touch.path ∷ filter p (paths_of touches)) (filter p (paths_of touches))) other)
]

pub cleared-cleaned : (paths : List (List (List ℕ))) (under : List Touch) → cleared paths (paths_of under) ≡ cleaned paths under
cleared-cleaned [] under = refl
cleared-cleaned (path ∷ paths) under =
    ap (λ (b : Bool). cond b (Set path None ∷ cleared paths (without path (paths_of under))) (cleared paths (paths_of under))) same_test
    ∙ ap (λ (l : List (List (List ℕ))). cond (can_go path under) (Set path None ∷ cleared paths l) (cleared paths (paths_of under))) (sym (filter_paths (λ (p : List (List ℕ)). not (path_eqb p path)) under))
    ∙ ap (λ (l : List Step). cond (can_go path under) (Set path None ∷ l) (cleared paths (paths_of under))) (cleared-cleaned paths (all_but path under))
    ∙ ap (λ (l : List Step). cond (can_go path under) (Set path None ∷ cleaned paths (all_but path under)) l) (cleared-cleaned paths under)
  where
    same_test : can_leave path (paths_of under) ≡ can_go path under
    same_test =
        ap (λ (b : Bool). b && not (holds_child path (paths_of under))) (list_any-map (λ (p : List (List ℕ)). path_eqb p path) (λ (t : Touch). t.path) under)
        ∙ ap (λ (b : Bool). list_any (is_at path) under && not b) (list_any-map (λ (p : List (List ℕ)). is_at_or_below path p && not (path_eqb p path)) (λ (t : Touch). t.path) under)

pub clean_steps : (nodes held : List Touch) (target place : List (List ℕ)) (noted all left paths : List (List (List ℕ))) (steps pushed : List Step)
    → held ≡ nodes → all ≡ noted → target ≡ place → left ≡ paths_of (under_in held target) → steps ≡ cleared (reverse all) left → paths ≡ [] → pushed ≡ steps ++ Note paths ∷ []
    → cleanupcopy (under_in nodes place) noted ≡ Ok pushed
clean_steps nodes held target place noted all left paths steps pushed same_nodes same_noted at stands clears none pushes =
    let same : cleaned (reverse noted) (under_in nodes place) ≡ steps =
    sym (cleared-cleaned (reverse noted) (under_in nodes place))
    ∙ ap (λ (l : List Touch). cleared (reverse noted) (paths_of (under_in l place))) (sym same_nodes)
    ∙ ap (λ (p : List (List ℕ)). cleared (reverse noted) (paths_of (under_in held p))) (sym at)
    ∙ ap (λ (l : List (List (List ℕ))). cleared (reverse noted) l) (sym stands)
    ∙ ap (λ (l : List (List (List ℕ))). cleared (reverse l) left) (sym same_noted)
    ∙ sym clears in
    ap (λ (l : List Step). let outcome : Outcome = Ok (l ++ Note [] ∷ []) in outcome) same
    ∙ ap (λ (l : List (List (List ℕ))). let outcome : Outcome = Ok (steps ++ Note l ∷ []) in outcome) (sym none)
    ∙ ap (λ (l : List Step). let outcome : Outcome = Ok l in outcome) (sym pushes)
