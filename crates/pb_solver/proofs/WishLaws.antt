-- Values that agree with the wanted assignment, and what was forced from nothing.
use Rattle.std.proofs.Common.{◌≡◌, ℕ, zero, suc, ◌+◌, ◌-◌, ◌<◌, ◌≤◌, Bool, true, false, not, cond, List, [], length, get_or, replicate, Option, Some, None, Contains, refl, sym, ap, subst, ◌∙◌, arith}
use Rattle.std.proofs.lemmas.List.{get_or_default}
use Rattle.pb_core.specs.AtLeast.{AtLeast}
use Rattle.pb_core.specs.ConstraintAt.{constraint_at}
use Rattle.pb_core.specs.Literal.{holds}
use Rattle.pb_core.specs.Propagates.{Propagates, nothing, forced, ReachesViolation}
use Rattle.pb_core.specs.Satisfied.{IsSatisfied, SatisfiesAll}
use Rattle.pb_core.specs.Slack.{Forces}
use Rattle.pb_core.specs.Values.{make_true, Completes}
use Rattle.pb_core.specs.declared.literal.Lit.{Lit}
use Rattle.pb_core.proofs.PropagationLaws.{violation_or_rest}
use Rattle.pb_core.proofs.SatisfactionLaws.{forced_holds, violated_has_no_completion}
use Rattle.pb_core.proofs.ValueLaws.{Completes-make_true}
use Rattle.pb_trail.specs.Along.{values_before}
use Rattle.pb_trail.specs.Growth.{Grows, IsDecided}
use Rattle.pb_trail.specs.Rest.{IsSettled}
use Rattle.pb_trail.specs.Trail.{AreSteps, IsTrail}
use Rattle.pb_trail.specs.declared.trail.Entry.{Entry}
use Rattle.pb_trail.specs.declared.trail.Trail.{Trail}
use Rattle.pb_trail.proofs.AlongLaws.{no_entry, along-none, along-more, before_all}
use Rattle.pb_trail.proofs.RestLaws.{values_earlier}
use Rattle.pb_solver.specs.Levels.{AreLevels, values_at}
use Rattle.pb_solver.proofs.LevelLaws.{reasons_first}

abbrev none : AtLeast
none = record { terms = []; degree = 0 }

-- ---- values that a satisfying assignment completes

pub satisfied_at : (full : ℕ → Bool) (cs : List AtLeast) (n : ℕ) → SatisfiesAll full cs → 0 < n → n ≤ length cs → IsSatisfied full (constraint_at cs n)
satisfied_at full cs n all some most = all (n - 1) none (omega arith)

completes_by : (full : ℕ → Bool) (cs : List AtLeast) (n : ℕ) (es : List Entry) → AreSteps cs n es → SatisfiesAll full cs → (i : ℕ) → ((k : ℕ) (d : Entry) → i ≤ k → k < length es → 0 < (get_or es k d).reason) → Completes full (values_before n es i) → (gap : ℕ) → i + gap ≤ length es → Completes full (values_before n es (i + gap))
completes_by full cs n es are all i was first zero h =
    let none : i ≡ i + 0 = omega arith in
    let same : values_before n es i ≡ values_before n es (i + 0) = ap (values_before n es) none in
    subst (λ (vs : List (Option Bool)). Completes full vs) same first
completes_by full cs n es are all i was first (suc gap) h =
    let within : i + gap < length es = omega arith in
    let step = are (i + gap) no_entry within in
    let some = was (i + gap) no_entry (omega arith) within in
    let forces = step.forced some in
    let before = completes_by full cs n es are all i was first gap (omega arith) in
    let holds_now = forced_holds full (values_before n es (i + gap)) (constraint_at cs (get_or es (i + gap) no_entry).reason) (get_or es (i + gap) no_entry).lit forces.1 before (satisfied_at full cs (get_or es (i + gap) no_entry).reason all some forces.0) in
    let next : i + gap + 1 ≡ i + suc gap = omega arith in
    let now : make_true (values_before n es (i + gap)) (get_or es (i + gap) no_entry).lit ≡ values_before n es (i + suc gap) = sym (along-more n es (i + gap) no_entry within) ∙ ap (values_before n es) next in
    subst (λ (vs : List (Option Bool)). Completes full vs) now (Completes-make_true full (values_before n es (i + gap)) (get_or es (i + gap) no_entry).lit before holds_now)

completes_from : (full : ℕ → Bool) (trail : Trail) (i : ℕ) → IsTrail trail → SatisfiesAll full trail.kept.constraints → i ≤ length trail.entries.items → ((k : ℕ) (d : Entry) → i ≤ k → k < length trail.entries.items → 0 < (get_or trail.entries.items k d).reason) → Completes full (values_at trail i) → Completes full trail.kept.values
completes_from full trail i good all h was first =
    let back : i + (length trail.entries.items - i) ≡ length trail.entries.items = omega arith in
    let last : values_at trail (i + (length trail.entries.items - i)) ≡ trail.kept.values = ap (values_at trail) back ∙ (before_all (length trail.kept.values) trail.entries.items ∙ sym good.along) in
    subst (λ (vs : List (Option Bool)). Completes full vs) last (completes_by full trail.kept.constraints (length trail.kept.values) trail.entries.items good.are_steps all i was first (length trail.entries.items - i) (omega arith))

pub Completes-grown : (full : ℕ → Bool) (before after : Trail) → IsTrail before → IsTrail after → Grows before after → SatisfiesAll full before.kept.constraints → Completes full before.kept.values → Completes full after.kept.values
Completes-grown full before after good longer grows all first =
    completes_from full after (length before.entries.items) longer (subst (λ (cs : List AtLeast). SatisfiesAll full cs) (sym grows.extends.constraints) all) grows.extends.longer grows.reasons (subst (λ (vs : List (Option Bool)). Completes full vs) (values_earlier before after good grows.extends) first)

pub Completes-decided : (full : ℕ → Bool) (before after : Trail) (lit : Lit) → IsTrail before → IsTrail after → IsDecided before after lit → holds full lit ≡ true → SatisfiesAll full before.kept.constraints → Completes full before.kept.values → Completes full after.kept.values
Completes-decided full before after lit good longer decided chosen all first =
    completes_from full after (length before.entries.items + 1) longer (subst (λ (cs : List AtLeast). SatisfiesAll full cs) (sym decided.extends.constraints) all) (omega (arith, decided.some)) (λ k d h within. decided.reasons k d (omega arith) within) (subst (λ (vs : List (Option Bool)). Completes full vs) now (Completes-make_true full before.kept.values lit first chosen))
  where
    now : make_true before.kept.values lit ≡ values_at after (length before.entries.items + 1)
    now =
        ap (λ (vs : List (Option Bool)). make_true vs lit) (values_earlier before after good decided.extends) ∙ (ap (λ (e : Entry). make_true (values_at after (length before.entries.items)) e.lit) (sym (decided.chosen no_entry)) ∙ sym (along-more (length after.kept.values) after.entries.items (length before.entries.items) no_entry decided.some))

-- the literal of a variable with its own truth holds
pub wish_holds : (full : ℕ → Bool) (v : ℕ) → holds full (record { variable = v; positive = full v }) ≡ true
wish_holds full v = by (full v)
  where
    by : (b : Bool) → cond b b (not b) ≡ true
    by true = refl
    by false = refl

-- a violated constraint stands against each assignment that agrees
pub violated_unwanted : (full : ℕ → Bool) (trail : Trail) (conflict : ℕ) → IsSettled trail (Some conflict) → SatisfiesAll full trail.kept.constraints → Completes full trail.kept.values → ⊥
violated_unwanted full trail conflict found all agrees =
    violated_has_no_completion full trail.kept.values (constraint_at trail.kept.constraints conflict) found.2 agrees (satisfied_at full trail.kept.constraints conflict all found.0 found.1)

-- ---- what was forced from nothing

Propagates-push : {cs : List AtLeast} {first values : List (Option Bool)} → Propagates cs first values → (c : AtLeast) (lit : Lit) → Contains cs c → Forces values c lit → Propagates cs first (make_true values lit)
Propagates-push nothing c lit stands forces = forced c lit stands forces nothing
Propagates-push (forced c' lit' stands' forces' rest) c lit stands forces = forced c' lit' stands' forces' (Propagates-push rest c lit stands forces)

contains_at : (cs : List AtLeast) (n : ℕ) → 0 < n → n ≤ length cs → Contains cs (constraint_at cs n)
contains_at cs n some most = (n - 1, omega arith, get_or_default cs (n - 1) (constraint_at cs n) none (omega arith))

propagates_to : (cs : List AtLeast) (n : ℕ) (es : List Entry) → AreSteps cs n es → (i : ℕ) → i ≤ length es → ((k : ℕ) (d : Entry) → k < i → k < length es → 0 < (get_or es k d).reason) → Propagates cs (replicate n None) (values_before n es i)
propagates_to cs n es are zero h was =
    subst (λ (vs : List (Option Bool)). Propagates cs (replicate n None) vs) (sym (along-none n)) nothing
propagates_to cs n es are (suc i) h was =
    let step = are i no_entry (omega arith) in
    let some = was i no_entry (omega arith) (omega arith) in
    let forces = step.forced some in
    let next : i + 1 ≡ suc i = omega arith in
    let now : make_true (values_before n es i) (get_or es i no_entry).lit ≡ values_before n es (suc i) = sym (along-more n es i no_entry (omega arith)) ∙ ap (values_before n es) next in
    subst (λ (vs : List (Option Bool)). Propagates cs (replicate n None) vs) now
    (Propagates-push (propagates_to cs n es are i (omega arith) (λ k d lt within. was k d (omega arith) within)) (constraint_at cs (get_or es i no_entry).reason) (get_or es i no_entry).lit (contains_at cs (get_or es i no_entry).reason some forces.0) forces.1)

-- before the first decision propagation from nothing came to rest
pub decided_quiet : (trail : Trail) (starts : List ℕ) → AreLevels trail starts → 0 < length starts → ReachesViolation trail.kept.constraints (replicate (length trail.kept.values) None) → ⊥
decided_quiet trail starts levels some reaches =
    violation_or_rest trail.kept.constraints (replicate (length trail.kept.values) None) (values_at trail (get_or starts 0 0)) reaches (leads, levels.at_rest 0 some)
  where
    first_lowest : (i : ℕ) → i < length starts → get_or starts 0 0 ≤ get_or starts i 0
    first_lowest zero h = omega arith
    first_lowest (suc i) h = omega (arith, levels.rising 0 (suc i) (omega arith) h)

    leads : Propagates trail.kept.constraints (replicate (length trail.kept.values) None) (values_at trail (get_or starts 0 0))
    leads =
        let low = levels.within 0 some in
        propagates_to trail.kept.constraints (length trail.kept.values) trail.entries.items levels.good.are_steps (get_or starts 0 0) (omega (arith, low)) (reasons_first trail starts levels (get_or starts 0 0) first_lowest)
