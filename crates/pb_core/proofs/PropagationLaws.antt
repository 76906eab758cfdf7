-- Propagation is sound, and where it ends doesn't depend on its order.
use Rattle.std.proofs.Common.{◌≡◌, ℕ, zero, suc, ◌+◌, ◌<◌, ◌≤◌, Bool, true, false, cond, IsTrue, List, [], ◌∷◌, length, get_or, fold, max, pos, ◌≤ℤ◌, is_none, Option, Some, None, Contains, All, refl, ◌∙◌, arith}
use Rattle.std.proofs.lemmas.Bool.{false≢true}
use Rattle.std.proofs.lemmas.Int.{ints}
use Rattle.std.proofs.lemmas.List.Sums.{sum_by-cons, sum_by-le-sum_by}
use Rattle.std.proofs.lemmas.List.Elements.{All-contains, All-head, All-tail}
use Rattle.pb_core.specs.AtLeast.{AtLeast, clause}
use Rattle.pb_core.specs.Fresh.{Fresh}
use Rattle.pb_core.specs.Satisfied.{IsSatisfied, SatisfiesAll}
use Rattle.pb_core.specs.Slack.{reachable, slack_of, greatest_coef, IsViolated, Forces}
use Rattle.pb_core.specs.Values.{value_of, is_false, make_true, Completes, Includes}
use Rattle.pb_core.specs.Propagates.{Propagates, nothing, forced, IsAtRest, SettlesAt, ReachesViolation}
use Rattle.pb_core.specs.declared.literal.Lit.{Lit}
use Rattle.pb_core.specs.declared.literal.Term.{Term}
use Rattle.pb_core.proofs.SumLaws.{sum_by-less}
use Rattle.pb_core.proofs.ValueLaws.{Truth, open_one, true_one, false_one, truth_of, open_not_false, Completes-make_true, Includes-itself, Includes-grown, Includes-through, Includes-make_true, is_false-Includes, same_values}
use Rattle.pb_core.proofs.SatisfactionLaws.{forced_holds, violated_has_no_completion}

pub Completes-Propagates : {constraints : List AtLeast} {values later : List (Option Bool)} → Propagates constraints values later → (full : ℕ → Bool) → SatisfiesAll full constraints → Completes full values → Completes full later
Completes-Propagates nothing full satisfied completes = completes
Completes-Propagates {constraints} {values} (forced c lit stands forces rest) full satisfied completes =
    Completes-Propagates rest full satisfied (Completes-make_true full values lit completes
    (forced_holds full values c lit forces completes (All-contains (IsSatisfied full) constraints c satisfied stands)))

pub violation_refutes : (constraints : List AtLeast) (values : List (Option Bool)) → ReachesViolation constraints values → (full : ℕ → Bool) → SatisfiesAll full constraints → Completes full values → ⊥
violation_refutes constraints values r full satisfied completes =
    violated_has_no_completion full r.later r.violated r.fails (Completes-Propagates r.leads full satisfied completes)
    (All-contains (IsSatisfied full) constraints r.violated satisfied r.stands)

-- ---- more values

cond_falls : (less more : Bool) (coef : ℕ) → (less ≡ true → more ≡ true) → cond more 0 coef ≤ cond less 0 coef
cond_falls true true coef e = omega arith
cond_falls true false coef e = absurd (false≢true (e refl))
cond_falls false true coef e = omega arith
cond_falls false false coef e = omega arith

term_falls : (less more : List (Option Bool)) → Includes less more → (t : Term) → cond (is_false more t.lit) 0 t.coef ≤ cond (is_false less t.lit) 0 t.coef
term_falls less more includes t = cond_falls (is_false less t.lit) (is_false more t.lit) t.coef (is_false-Includes less more t.lit includes)

pub reachable-Includes : (less more : List (Option Bool)) (terms : List Term) → Includes less more → reachable more terms ≤ reachable less terms
reachable-Includes less more terms includes = sum_by-le-sum_by (λ (t : Term). cond (is_false more t.lit) 0 t.coef) (λ (t : Term). cond (is_false less t.lit) 0 t.coef) terms (term_falls less more includes)

lost_at : (less more : Bool) (coef : ℕ) → less ≡ false → more ≡ true → cond more 0 coef + coef ≤ cond less 0 coef
lost_at true more coef e f = cc
lost_at false true coef e f = omega arith
lost_at false false coef e f = cc

-- a literal that was open and is false now takes its coefficient with it
reachable-lost : (less more : List (Option Bool)) (c : AtLeast) (lit : Lit) → Includes less more → (forces : Forces less c lit) → is_false more lit ≡ true → reachable more c.terms + forces.coef ≤ reachable less c.terms
reachable-lost less more c lit includes forces fails =
    let place = forces.stands in
    sum_by-less (λ (t : Term). cond (is_false more t.lit) 0 t.coef) (λ (t : Term). cond (is_false less t.lit) 0 t.coef) c.terms place.0 (record { coef = forces.coef; lit = lit }) forces.coef place.1 (term_falls less more includes)
    (rw place.2 (lost_at (is_false less lit) (is_false more lit) forces.coef (open_not_false _ _ forces.open_literal) fails))

open_from_none : (o : Option Bool) → o ≡ None → is_none o ≡ true
open_from_none o e = rw e refl

-- values at rest that include those before a step include those after it
step_stays : (constraints : List AtLeast) (values rest : List (Option Bool)) (c : AtLeast) (lit : Lit) → IsAtRest constraints rest → Contains constraints c → Includes values rest → Forces values c lit → value_of rest lit.variable ≡ Some lit.positive
step_stays constraints values rest c lit at_rest stands includes forces = by (truth_of (value_of rest lit.variable) lit.positive)
  where
    resting : ¬ (IsViolated rest c) × ((l : Lit) → ¬ (Forces rest c l))
    resting = All-contains (λ x. ¬ (IsViolated rest x) × ((l : Lit) → ¬ (Forces rest x l))) constraints c at_rest stands

    by : Truth (value_of rest lit.variable) lit.positive → value_of rest lit.variable ≡ Some lit.positive
    by (true_one e) = e
    by (open_one e) =
        absurd (resting.1 lit (record {
          coef = forces.coef;
          stands = forces.stands;
          open_literal = open_from_none _ e;
          above_slack = omega (arith, reachable-Includes values rest c.terms includes, forces.above_slack);
        }))
    by (false_one e) =
        absurd (resting.0 (omega (arith, reachable-lost values rest c lit includes forces e, forces.above_slack)))

pub Propagates-within_rest : {constraints : List AtLeast} {values later : List (Option Bool)} → Propagates constraints values later → (rest : List (Option Bool)) → IsAtRest constraints rest → Includes values rest → Includes later rest
Propagates-within_rest nothing rest at_rest includes = includes
Propagates-within_rest {constraints} {values} (forced c lit stands forces more) rest at_rest includes =
    Propagates-within_rest more rest at_rest
    (Includes-make_true values rest lit includes (step_stays constraints values rest c lit at_rest stands includes forces))

pub Propagates-includes : {constraints : List AtLeast} {values later : List (Option Bool)} → Propagates constraints values later → Includes values later
Propagates-includes {constraints} {values} nothing = Includes-itself values
Propagates-includes {constraints} {values} {later} (forced c lit stands forces more) =
    Includes-through values (make_true values lit) later (Includes-grown values lit forces.open_literal) (Propagates-includes more)

-- every order of propagation ends in the same values
pub settles_alike : (constraints : List AtLeast) (values one other : List (Option Bool)) → SettlesAt constraints values one → SettlesAt constraints values other → (v : ℕ) → value_of one v ≡ value_of other v
settles_alike constraints values one other s t =
    same_values one other (Propagates-within_rest s.0 other t.1 (Propagates-includes t.0)) (Propagates-within_rest t.0 one s.1 (Propagates-includes s.0))

-- no order ends at rest where another ends in a violation
pub violation_or_rest : (constraints : List AtLeast) (values later : List (Option Bool)) → ReachesViolation constraints values → SettlesAt constraints values later → ⊥
violation_or_rest constraints values later r s =
    let within = reachable-Includes r.later later r.violated.terms (Propagates-within_rest r.leads later s.1 (Propagates-includes s.0)) in
    let resting : ¬ (IsViolated later r.violated) × ((l : Lit) → ¬ (Forces later r.violated l)) = All-contains (λ x. ¬ (IsViolated later x) × ((l : Lit) → ¬ (Forces later x l))) constraints r.violated s.1 r.stands in
    resting.0 (omega (arith, within, r.fails))

-- ---- clauses that are fresh

reachable-false : (values : List (Option Bool)) (lits : List Lit) → All (λ l. IsTrue (is_false values l)) lits → reachable values (clause lits).terms ≡ 0
reachable-false values [] fail = refl
reachable-false values (lit ∷ lits) fail =
    let here : is_false values lit ≡ true = All-head (λ (l : Lit). IsTrue (is_false values l)) lit lits fail in
    let cons = sum_by-cons (λ (t : Term). cond (is_false values t.lit) 0 t.coef) (record { coef = 1; lit = lit }) (clause lits).terms in
    let rest = reachable-false values lits (All-tail (λ (l : Lit). IsTrue (is_false values l)) lit lits fail) in
    cons ∙ rw (here, rest) refl

pub fresh_is_new : (lits : List Lit) (database : List AtLeast) → Fresh lits database → Contains database (clause lits) → ⊥
fresh_is_new [] database fresh stands = fresh
fresh_is_new (lit ∷ others) database fresh stands =
    let values = fresh.0 in
    let under = fresh.1 in
    let resting : ¬ (IsViolated values (clause (lit ∷ others))) × ((l : Lit) → ¬ (Forces values (clause (lit ∷ others)) l)) = All-contains (λ x. ¬ (IsViolated values x) × ((l : Lit) → ¬ (Forces values x l))) database (clause (lit ∷ others)) under.at_rest stands in
    let cons = sum_by-cons (λ (t : Term). cond (is_false values t.lit) 0 t.coef) (record { coef = 1; lit = lit }) (clause others).terms in
    let here : is_false values lit ≡ false = open_not_false _ _ under.first_open in
    let all_reached : reachable values (clause (lit ∷ others)).terms ≡ 1 = cons ∙ rw (here, reachable-false values others under.others_false) refl in
    resting.1 lit (record { coef = 1; stands = (0, omega arith, refl); open_literal = under.first_open; above_slack = omega (arith, all_reached) })

-- ---- slacks that are large enough

greatest_start : (a : ℕ) (terms : List Term) → a ≤ fold (λ m (t : Term). max m t.coef) a terms
greatest_start a [] = omega arith
greatest_start a (t ∷ terms) = omega (arith, greatest_start (max a t.coef) terms)

greatest_at : (a : ℕ) (terms : List Term) (i : ℕ) (d : Term) → i < length terms → (get_or terms i d).coef ≤ fold (λ m (t : Term). max m t.coef) a terms
greatest_at a [] i d within = absurd (omega arith)
greatest_at a (t ∷ terms) zero d within = omega (arith, greatest_start (max a t.coef) terms)
greatest_at a (t ∷ terms) (suc i) d within = greatest_at (max a t.coef) terms i d (omega arith)

pub wide_slack_rests : (values : List (Option Bool)) (c : AtLeast) → pos (greatest_coef c.terms) ≤ℤ slack_of values c → ¬ (IsViolated values c) × ((lit : Lit) → ¬ (Forces values c lit))
wide_slack_rests values c wide = (λ violated. absurd (omega (arith, ints)), λ lit forces. let below = greatest_at 0 c.terms forces.stands.0 (record { coef = forces.coef; lit = lit }) forces.stands.1 in let coef : forces.coef ≤ greatest_coef c.terms = rw forces.stands.2 at below in let above = forces.above_slack in absurd (omega (arith, ints)))
