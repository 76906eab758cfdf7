-- What was read so far, told by its parts, and what one part more makes of it.
use Rattle.std.proofs.Common.{◌≡◌, ℕ, ◌+◌, ◌<◌, ◌≤◌, nat_lt, Bool, true, false, ◌&&◌, not, List, [], ◌∷◌, ◌++◌, length, map, All, Option, Some, None, refl, sym, ap, ◌∙◌, subst, append_assoc, append-nil, arith}
use Rattle.std.specs.List.{list_all, AllPairs}
use Rattle.std.specs.List.Sorted.{IsStrictlyIncreasing}
use Rattle.std.proofs.lemmas.Bool.Decides.{nat_tests}
use Rattle.std.proofs.lemmas.List.{map-append}
use Rattle.std.proofs.lemmas.List.Elements.{All-nil, All-cons, All-get_or}
use Rattle.std.proofs.lemmas.List.Kept.{AllPairs-from_increasing}
use Rattle.std.proofs.lemmas.List.Quantifiers.{all_pairs_push}
use Rattle.ldap_filter.specs.declared.filter.Filter.{Filter}
use Rattle.unit_model.specs.declared.touchpoint.Touchpoint.{Touchpoint}
use Rattle.unit_model.specs.declared.update.Update.{Update}
use Rattle.unit_model.specs.declared.phase.PhaseText.{PhaseText}
use Rattle.unit_lines.specs.Phases.{phase_place}
use Rattle.unit_lines.specs.declared.part.Part.{Part}
use Rattle.unit_lines.specs.declared.part.Part.TheVariants as part
use Rattle.unit_text.specs.declared.draft.Draft.{Draft}
use Rattle.unit_text.specs.UnitText.{singleton_parts, filter_parts, touchpoint_parts, places}
use Rattle.unit_text.specs.Draft.{is_bare, has, bare, ends_artifacts, ends_required, ends_provided, ends_properties, ends_touchpoint, rises, next}
use Rattle.unit_text.proofs.Forms.{NotEnd}
use Rattle.unit_text.proofs.Walks.{IsWhole}

abbrev pub update_parts : Option Update → List Part
update_parts None = []
update_parts (Some u) = part.Update u ∷ []

-- behind the update
abbrev pub tail_parts : Draft → List Part
tail_parts d =
    touchpoint_parts d.touchpoint
    ++ (map part.Property d.properties
    ++ (map part.Provided d.provided ++ (map part.Required d.required ++ (map part.Artifact d.artifacts ++ map part.Phase d.phases))))

-- behind the name
abbrev pub more_parts : Draft → List Part
more_parts d = singleton_parts d.singleton ++ (filter_parts d.filter ++ (update_parts d.update ++ tail_parts d))

abbrev pub draft_parts : Draft → List Part
draft_parts d = part.Name d.name ∷ more_parts d

abbrev pub step_of : Option Draft → Part → Option Draft
step_of None p = None
step_of (Some d) p = next d p

-- what parts make of what was read before them
abbrev pub run : Option Draft → List Part → Option Draft
run o [] = o
run o (p ∷ ps) = run (step_of o p) ps

pub run_append : (o : Option Draft) (ps qs : List Part) → run o (ps ++ qs) ≡ run (run o ps) qs
run_append o [] qs = refl
run_append o (p ∷ ps) qs = run_append (step_of o p) ps qs

pub run_none : (ps : List Part) → run None ps ≡ None
run_none [] = refl
run_none (p ∷ ps) = run_none ps

-- What was read is in its form, and comes of its parts.
pub record IsDraft (d : Draft) : Type 0 where
  pub whole : All IsWhole (draft_parts d)
  pub going : All NotEnd (draft_parts d)
  pub few : length d.required ≤ 1024
  pub rising : IsStrictlyIncreasing (places d.phases)
  pub ordered : has d.update ≡ false → tail_parts d ≡ []
  pub ran : run (Some (bare d.name)) (more_parts d) ≡ Some d

-- With the part behind what was read.
pub record Puts (d : Draft) (p : Part) (d' : Draft) : Type 0 where
  pub is : IsDraft d'
  pub parts : draft_parts d' ≡ draft_parts d ++ p ∷ []

-- lists of parts

pub under : (front ys xs : List Part) (p : Part) → ys ≡ xs ++ p ∷ [] → front ++ ys ≡ (front ++ xs) ++ p ∷ []
under front ys xs p e = ap (λ l. front ++ l) e ∙ sym (append_assoc front xs (p ∷ []))

pub only : (slot behind : List Part) (p : Part) → slot ≡ [] → behind ≡ [] → p ∷ behind ≡ (slot ++ behind) ++ p ∷ []
only slot behind p none nothing = (λ i. p ∷ nothing i) ∙ sym (λ i. (none i ++ nothing i) ++ p ∷ [])

pub one_more : {X : Type 0} (f : X → Part) (xs : List X) (x : X) (behind : List Part) → behind ≡ [] → map f (xs ++ x ∷ []) ++ behind ≡ (map f xs ++ behind) ++ f x ∷ []
one_more f xs x behind nothing =
    (λ i. map f (xs ++ x ∷ []) ++ nothing i) ∙ (append-nil (map f (xs ++ x ∷ [])) ∙ (map-append f xs (x ∷ []) ∙ sym (ap (λ l. l ++ f x ∷ []) ((λ i. map f xs ++ nothing i) ∙ append-nil (map f xs)))))

-- tests

pub both : (a b : Bool) → (a && b) ≡ true → (a ≡ true) × (b ≡ true)
both true b e = (refl, e)
both false b e = absurd (cc)

pub bare_map : {X : Type 0} (f : X → Part) (xs : List X) → is_bare xs ≡ true → map f xs ≡ []
bare_map f [] e = refl
bare_map f (x ∷ xs) e = absurd (cc)

pub bare_join : {X : Type 0} (f : X → Part) (xs : List X) (more : Bool) (behind : List Part) → (is_bare xs && more) ≡ true → (more ≡ true → behind ≡ []) → map f xs ++ behind ≡ []
bare_join f [] more behind e nothing = nothing e
bare_join f (x ∷ xs) more behind e nothing = absurd (cc)

pub no_filter : (o : Option Filter) → not (has o) ≡ true → filter_parts o ≡ []
no_filter None e = refl
no_filter (Some f) e = absurd (cc)

pub no_update : (o : Option Update) → not (has o) ≡ true → update_parts o ≡ []
no_update None e = refl
no_update (Some u) e = absurd (cc)

pub no_touchpoint : (o : Option Touchpoint) → not (has o) ≡ true → touchpoint_parts o ≡ []
no_touchpoint None e = refl
no_touchpoint (Some t) e = absurd (cc)

pub no_singleton : (b : Bool) → not b ≡ true → singleton_parts b ≡ []
no_singleton true e = absurd (cc)
no_singleton false e = refl

pub not_true : (b : Bool) → not b ≡ true → b ≡ false
not_true true e = absurd (cc)
not_true false e = refl

pub ended_artifacts : (d : Draft) → ends_artifacts d ≡ true → map part.Phase d.phases ≡ []
ended_artifacts d e = bare_map part.Phase d.phases e

pub ended_required : (d : Draft) → ends_required d ≡ true → map part.Artifact d.artifacts ++ map part.Phase d.phases ≡ []
ended_required d e = bare_join part.Artifact d.artifacts (ends_artifacts d) _ e (ended_artifacts d)

pub ended_provided : (d : Draft) → ends_provided d ≡ true → map part.Required d.required ++ (map part.Artifact d.artifacts ++ map part.Phase d.phases) ≡ []
ended_provided d e = bare_join part.Required d.required (ends_required d) _ e (ended_required d)

pub ended_properties : (d : Draft) → ends_properties d ≡ true → map part.Provided d.provided ++ (map part.Required d.required ++ (map part.Artifact d.artifacts ++ map part.Phase d.phases)) ≡ []
ended_properties d e = bare_join part.Provided d.provided (ends_provided d) _ e (ended_provided d)

pub ended_touchpoint : (d : Draft) → ends_touchpoint d ≡ true
    → map part.Property d.properties ++ (map part.Provided d.provided ++ (map part.Required d.required ++ (map part.Artifact d.artifacts ++ map part.Phase d.phases))) ≡ []
ended_touchpoint d e = bare_join part.Property d.properties (ends_properties d) _ e (ended_properties d)

-- phases that rise

increasing : (xs : List ℕ) → AllPairs (λ x y. x < y) xs → IsStrictlyIncreasing xs
increasing xs pairs k inside = pairs k (k + 1) 0 (omega arith) inside

below_all : (phases : List PhaseText) (n : ℕ) → list_all (λ h. nat_lt (phase_place h.phase) n) phases ≡ true → All (λ m. m < n) (places phases)
below_all [] n e = All-nil (λ m. m < n)
below_all (h ∷ hs) n e =
    let split = both (nat_lt (phase_place h.phase) n) (list_all (λ g. nat_lt (phase_place g.phase) n) hs) e in
    let test : nat_lt (phase_place h.phase) n ≡ true = split.0 in
    let less : phase_place h.phase < n = grind (arith, nat_tests) in
    All-cons (λ m. m < n) (phase_place h.phase) (places hs) less (below_all hs n split.1)

pub rising_more : (phases : List PhaseText) (text : PhaseText) → IsStrictlyIncreasing (places phases) → rises phases text ≡ true → IsStrictlyIncreasing (places (phases ++ text ∷ []))
rising_more phases text rising test =
    let below = below_all phases (phase_place text.phase) test in
    subst IsStrictlyIncreasing (sym (map-append (λ p. phase_place p.phase) phases (text ∷ [])))
    (increasing (places phases ++ phase_place text.phase ∷ [])
    (all_pairs_push (λ x y. x < y) (places phases) (phase_place text.phase) (AllPairs-from_increasing (places phases) rising)
    (λ k d inside. All-get_or (λ m. m < phase_place text.phase) (places phases) k d inside below)))
