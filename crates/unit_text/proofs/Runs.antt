-- A unit's parts, one after the other, are put: so no other part comes where a unit has one.
use Rattle.std.proofs.Common.{◌≡◌, ℕ, zero, suc, ◌<◌, ◌≤◌, nat_lt, Bool, true, false, ◌&&◌, List, [], ◌∷◌, ◌++◌, length, get_or, map, All, Option, Some, None, refl, sym, ap, ◌∙◌, subst, append_assoc, append-nil, arith, length-append}
use Rattle.std.specs.List.{list_all, AllPairs}
use Rattle.std.specs.List.Sorted.{IsStrictlyIncreasing}
use Rattle.std.proofs.Math.Seq.{get_or-append_seam}
use Rattle.std.proofs.lemmas.Bool.Decides.{nat_tests}
use Rattle.std.proofs.lemmas.List.{map-append}
use Rattle.std.proofs.lemmas.List.Elements.{All-nil, All-cons, All-head, All-tail}
use Rattle.std.proofs.lemmas.List.Kept.{AllPairs-from_increasing}
use Rattle.ldap_filter.specs.declared.filter.Filter.{Filter}
use Rattle.unit_model.specs.declared.name.UnitName.{UnitName}
use Rattle.unit_model.specs.declared.update.Update.{Update}
use Rattle.unit_model.specs.declared.touchpoint.Touchpoint.{Touchpoint}
use Rattle.unit_model.specs.declared.property.Property.{Property}
use Rattle.unit_model.specs.declared.provided.Provided.{Provided}
use Rattle.unit_model.specs.declared.required.Required.{Required}
use Rattle.unit_model.specs.declared.artifact.ArtifactKey.{ArtifactKey}
use Rattle.unit_model.specs.declared.phase.PhaseText.{PhaseText}
use Rattle.unit_model.specs.declared.unit.Unit.{Unit as Package}
use Rattle.unit_lines.specs.Phases.{phase_place}
use Rattle.unit_lines.specs.declared.part.Part.{Part}
use Rattle.unit_lines.specs.declared.part.Part.TheVariants as part
use Rattle.unit_text.specs.declared.draft.Draft.{Draft}
use Rattle.unit_text.specs.UnitText.{IsUnit, singleton_parts, filter_parts, touchpoint_parts, late_parts, unit_parts, places}
use Rattle.unit_text.specs.Draft.{bare, rises, kept, next}
use Rattle.unit_text.proofs.Drafts.{more_parts, draft_parts, run, run_append, run_none, IsDraft}

abbrev make : UnitName → Bool → Option Filter → Option Update → Option Touchpoint → List Property → List Provided → List Required → List ArtifactKey → List PhaseText → Draft
make n b f u t ps qs rs as' hs = record {
  name = n;
  singleton = b;
  filter = f;
  update = u;
  touchpoint = t;
  properties = ps;
  provided = qs;
  required = rs;
  artifacts = as';
  phases = hs;
}

-- phases that rise

below_seam : (ms ns : List ℕ) (n : ℕ) → AllPairs (λ x y. x < y) (ms ++ n ∷ ns) → All (λ m. m < n) ms
below_seam [] ns n pairs = All-nil (λ m. m < n)
below_seam (m ∷ ms) ns n pairs =
    let inside : suc (length ms) < length (m ∷ (ms ++ n ∷ ns)) = omega (arith, length-append ms (n ∷ ns)) in
    let less : m < get_or (ms ++ n ∷ ns) (length ms) 0 = pairs zero (suc (length ms)) 0 (omega arith) inside in
    let below : m < n = subst (λ k. m < k) (get_or-append_seam ms n ns 0) less in
    All-cons (λ k. k < n) m ms below
    (below_seam ms ns n (λ i j d first second. pairs (suc i) (suc j) d (omega arith) (omega arith)))

tested : (phases : List PhaseText) (n : ℕ) → All (λ m. m < n) (places phases) → list_all (λ h. nat_lt (phase_place h.phase) n) phases ≡ true
tested [] n all = refl
tested (h ∷ hs) n all =
    let less : phase_place h.phase < n = All-head (λ m. m < n) (phase_place h.phase) (places hs) all in
    let test : nat_lt (phase_place h.phase) n ≡ true = grind (arith, nat_tests) in
    let rest = tested hs n (All-tail (λ m. m < n) (phase_place h.phase) (places hs) all) in
    (λ i. test i && list_all (λ g. nat_lt (phase_place g.phase) n) hs) ∙ rest

rises_there : (done xs : List PhaseText) (x : PhaseText) → IsStrictlyIncreasing (places (done ++ x ∷ xs)) → rises done x ≡ true
rises_there done xs x rising =
    let spread : IsStrictlyIncreasing (places done ++ phase_place x.phase ∷ places xs) = subst IsStrictlyIncreasing (map-append (λ p. phase_place p.phase) done (x ∷ xs)) rising in
    tested done (phase_place x.phase) (below_seam (places done) (places xs) (phase_place x.phase) (AllPairs-from_increasing (places done ++ phase_place x.phase ∷ places xs) spread))

module _ (n : UnitName) (b : Bool) (f : Option Filter) (u : Update) (t : Option Touchpoint) where
  abbrev so_far : List Property → List Provided → List Required → List ArtifactKey → List PhaseText → Option Draft
  so_far ps qs rs as' hs = Some (make n b f (Some u) t ps qs rs as' hs)

  of_properties : (done xs : List Property) (rest : List Part) → run (so_far done [] [] [] []) (map part.Property xs ++ rest) ≡ run (so_far (done ++ xs) [] [] [] []) rest
  of_properties done [] rest = ap (λ l. run (so_far l [] [] [] []) rest) (sym (append-nil done))
  of_properties done (x ∷ xs) rest = of_properties (done ++ x ∷ []) xs rest ∙ ap (λ l. run (so_far l [] [] [] []) rest) (append_assoc done (x ∷ []) xs)

  of_provided : (ps : List Property) (done xs : List Provided) (rest : List Part) → run (so_far ps done [] [] []) (map part.Provided xs ++ rest) ≡ run (so_far ps (done ++ xs) [] [] []) rest
  of_provided ps done [] rest = ap (λ l. run (so_far ps l [] [] []) rest) (sym (append-nil done))
  of_provided ps done (x ∷ xs) rest = of_provided ps (done ++ x ∷ []) xs rest ∙ ap (λ l. run (so_far ps l [] [] []) rest) (append_assoc done (x ∷ []) xs)

  of_required : (ps : List Property) (qs : List Provided) (done xs : List Required) (rest : List Part) → length (done ++ xs) ≤ 1024
      → run (so_far ps qs done [] []) (map part.Required xs ++ rest) ≡ run (so_far ps qs (done ++ xs) [] []) rest
  of_required ps qs done [] rest few = ap (λ l. run (so_far ps qs l [] []) rest) (sym (append-nil done))
  of_required ps qs done (x ∷ xs) rest few =
      let less : length done < 1024 = omega (arith, length-append done (x ∷ xs)) in
      let test : nat_lt (length done) 1024 ≡ true = grind (arith, nat_tests) in
      let few' : length ((done ++ x ∷ []) ++ xs) ≤ 1024 = subst (λ l. length l ≤ 1024) (sym (append_assoc done (x ∷ []) xs)) few in
      ap (λ g. run (kept g (make n b f (Some u) t ps qs (done ++ x ∷ []) [] [])) (map part.Required xs ++ rest)) test
      ∙ (of_required ps qs (done ++ x ∷ []) xs rest few' ∙ ap (λ l. run (so_far ps qs l [] []) rest) (append_assoc done (x ∷ []) xs))

  of_artifacts : (ps : List Property) (qs : List Provided) (rs : List Required) (done xs : List ArtifactKey) (rest : List Part)
      → run (so_far ps qs rs done []) (map part.Artifact xs ++ rest) ≡ run (so_far ps qs rs (done ++ xs) []) rest
  of_artifacts ps qs rs done [] rest = ap (λ l. run (so_far ps qs rs l []) rest) (sym (append-nil done))
  of_artifacts ps qs rs done (x ∷ xs) rest = of_artifacts ps qs rs (done ++ x ∷ []) xs rest ∙ ap (λ l. run (so_far ps qs rs l []) rest) (append_assoc done (x ∷ []) xs)

  of_phases : (ps : List Property) (qs : List Provided) (rs : List Required) (as' : List ArtifactKey) (done xs : List PhaseText) → IsStrictlyIncreasing (places (done ++ xs))
      → run (so_far ps qs rs as' done) (map part.Phase xs) ≡ so_far ps qs rs as' (done ++ xs)
  of_phases ps qs rs as' done [] rising = ap (so_far ps qs rs as') (sym (append-nil done))
  of_phases ps qs rs as' done (x ∷ xs) rising =
      ap (λ g. run (kept g (make n b f (Some u) t ps qs rs as' (done ++ x ∷ []))) (map part.Phase xs)) (rises_there done xs x rising)
      ∙ (of_phases ps qs rs as' (done ++ x ∷ []) xs (subst (λ l. IsStrictlyIncreasing (places l)) (sym (append_assoc done (x ∷ []) xs)) rising)
      ∙ ap (so_far ps qs rs as') (append_assoc done (x ∷ []) xs))

  of_lists : (ps : List Property) (qs : List Provided) (rs : List Required) (as' : List ArtifactKey) (hs : List PhaseText) → length rs ≤ 1024 → IsStrictlyIncreasing (places hs)
      → run (so_far [] [] [] [] []) (map part.Property ps ++ (map part.Provided qs ++ (map part.Required rs ++ (map part.Artifact as' ++ map part.Phase hs)))) ≡ so_far ps qs rs as' hs
  of_lists ps qs rs as' hs few rising =
      of_properties [] ps _ ∙ (of_provided ps [] qs _ ∙ (of_required ps qs [] rs _ few ∙ (of_artifacts ps qs rs [] as' _ ∙ of_phases ps qs rs as' [] hs rising)))

of_touchpoint : (n : UnitName) (b : Bool) (f : Option Filter) (u : Update) (t : Option Touchpoint) (rest : List Part)
    → run (Some (make n b f (Some u) None [] [] [] [] [])) (touchpoint_parts t ++ rest) ≡ run (Some (make n b f (Some u) t [] [] [] [] [])) rest
of_touchpoint n b f u None rest = refl
of_touchpoint n b f u (Some t) rest = refl

of_filter : (n : UnitName) (b : Bool) (f : Option Filter) (rest : List Part) → run (Some (make n b None None None [] [] [] [] [])) (filter_parts f ++ rest) ≡ run (Some (make n b f None None [] [] [] [] [])) rest
of_filter n b None rest = refl
of_filter n b (Some f) rest = refl

of_singleton : (n : UnitName) (b : Bool) (rest : List Part) → run (Some (make n false None None None [] [] [] [] [])) (singleton_parts b ++ rest) ≡ run (Some (make n b None None None [] [] [] [] [])) rest
of_singleton n true rest = refl
of_singleton n false rest = refl

-- behind a unit's name
abbrev pub unit_more : Package → List Part
unit_more u = ((singleton_parts u.singleton ++ filter_parts u.filter) ++ (part.Update u.update ∷ late_parts u)) ++ part.End ∷ []

abbrev drafted : Package → Draft
drafted u = make u.name u.singleton u.filter (Some u.update) u.touchpoint u.properties u.provided u.required u.artifacts u.phases

unit_runs : (u : Package) → IsUnit u → run (Some (bare u.name)) (unit_more u) ≡ Some (drafted u)
unit_runs u is =
    run_append (Some (bare u.name)) ((singleton_parts u.singleton ++ filter_parts u.filter) ++ (part.Update u.update ∷ late_parts u)) (part.End ∷ [])
    ∙ ap (λ o. run o (part.End ∷ []))
    (ap (run (Some (bare u.name))) (append_assoc (singleton_parts u.singleton) (filter_parts u.filter) (part.Update u.update ∷ late_parts u))
    ∙ (of_singleton u.name u.singleton (filter_parts u.filter ++ part.Update u.update ∷ late_parts u)
    ∙ (of_filter u.name u.singleton u.filter (part.Update u.update ∷ late_parts u)
    ∙ (of_touchpoint u.name u.singleton u.filter u.update u.touchpoint _
    ∙ of_lists u.name u.singleton u.filter u.update u.touchpoint u.properties u.provided u.required u.artifacts u.phases is.few is.rising))))

-- A part that isn't put is no unit's there.
pub refuses : (d : Draft) → IsDraft d → (u : Package) → IsUnit u → (q : Part) (qs : List Part) → unit_parts u ≡ draft_parts d ++ q ∷ qs → next d q ≡ None → ⊥
refuses d is u iu q qs e none =
    let names : u.name ≡ d.name = cc in
    let rest : unit_more u ≡ more_parts d ++ q ∷ qs = cc in
    let there = unit_runs u iu in
    let ran : run (Some (bare d.name)) (more_parts d ++ q ∷ qs) ≡ None =
    run_append (Some (bare d.name)) (more_parts d) (q ∷ qs) ∙ (ap (λ o. run o (q ∷ qs)) is.ran ∙ (ap (λ o. run o qs) none ∙ run_none qs)) in
    let nowhere : run (Some (bare u.name)) (unit_more u) ≡ None = (λ i. run (Some (bare (names i))) (rest i)) ∙ ran in
    let clash : Some (drafted u) ≡ None = sym there ∙ nowhere in
    absurd (cc)
