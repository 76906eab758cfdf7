-- A line that checks follows.
use Rattle.std.proofs.Common.{◌≡◌, ℕ, zero, suc, ◌+◌, ◌-◌, ◌<◌, ◌≤◌, Bool, true, false, not, cond, eqb, ltb, ◌&&◌, ◌||◌, List, [], ◌∷◌, length, get_or, map, fold, take, replicate, Option, None, IfSome, Contains, All, append_assoc, refl, sym, ⊎_elim, arith}
use Rattle.std.specs.List.{list_any}
use Rattle.std.proofs.lemmas.Bool.{false≢true, cases_lt}
use Rattle.std.proofs.lemmas.List.{get_or-replicate, get_or_past, length-replicate, map-append, append-nil}
use Rattle.std.proofs.lemmas.Bool.Decides.{nat_tests}
use Rattle.std.proofs.lemmas.List.Elements.{All-head, All-tail, All-map, All-push, All-contains_itself}
use Rattle.std.proofs.Math.Seq.{take-suc}
use Rattle.pb_core.specs.AtLeast.{AtLeast, at_least}
use Rattle.pb_core.specs.ConstraintAt.{constraint_at}
use Rattle.pb_core.specs.Literal.{holds, complement}
use Rattle.pb_core.specs.Satisfied.{IsSatisfied, SatisfiesAll, MakesTrue, Follows, IsUnsatisfiable}
use Rattle.pb_core.specs.Slack.{reachable}
use Rattle.pb_core.specs.Values.{value_of, make_true, is_open, Completes}
use Rattle.pb_core.specs.declared.literal.Lit.{Lit}
use Rattle.pb_core.specs.declared.literal.Term.{Term}
use Rattle.pb_core.proofs.SatisfactionLaws.{forced_holds, violated_has_no_completion, clause_from_true}
use Rattle.pb_core.proofs.ValueLaws.{Completes-make_true}
use Rattle.pb_core.specs.declared.constraint.Constraint.{Constraint}
use Rattle.deriv_check.specs.Database.{database, line_seen}
use Rattle.deriv_check.specs.HintRule.{all_false, is_forced, with_forced, conflicts}
use Rattle.deriv_check.specs.LineRule.{Checks, HasHints, hinted}
use Rattle.deriv_check.specs.Sound.{AllFollow, AreSound}
use Rattle.deriv_check.specs.Verdict.{CheckUpTo, EndsEmpty}
use Rattle.deriv_check.specs.declared.derivation.Line.{Line}

both : (a b : Bool) → (a && b) ≡ true → (a ≡ true) × (b ≡ true)
both true true e = (refl, refl)
both true false e = absurd (false≢true e)
both false b e = absurd (false≢true e)

below : (a b : ℕ) → ltb a b ≡ true → a < b
below a b e = grind (arith, nat_tests)

-- one literal that is forced is true in each completion that satisfies the constraint
is_forced-holds : (full : ℕ → Bool) (values : List (Option Bool)) (c : AtLeast) (t : Term) → Contains c.terms t → is_forced values c t ≡ true → Completes full values → IsSatisfied full c → holds full t.lit ≡ true
is_forced-holds full values c t stands forced completes satisfied =
    let parts = both (is_open values t.lit) (ltb (reachable values c.terms) (c.degree + t.coef)) forced in
    forced_holds full values c t.lit (record { coef = t.coef; stands = stands; open_literal = parts.0; above_slack = below _ _ parts.1 }) completes satisfied

-- so what is forced keeps the completion
forced_from : (full : ℕ → Bool) (values : List (Option Bool)) (c : AtLeast) → Completes full values → IsSatisfied full c → (terms : List Term) → All (Contains c.terms) terms → (later : List (Option Bool)) → Completes full later → Completes full (fold (λ after (t : Term). cond (is_forced values c t) (make_true after t.lit) after) later terms)
forced_from full values c completes satisfied [] within later so_far = so_far
forced_from full values c completes satisfied (t ∷ terms) within later so_far =
    forced_from full values c completes satisfied terms (All-tail (Contains c.terms) t terms within) (cond (is_forced values c t) (make_true later t.lit) later) (by (is_forced values c t) refl)
  where
    by : (b : Bool) → is_forced values c t ≡ b → Completes full (cond b (make_true later t.lit) later)
    by true e = Completes-make_true full later t.lit so_far (is_forced-holds full values c t (All-head (Contains c.terms) t terms within) e completes satisfied)
    by false e = so_far

pub Completes-with_forced : (full : ℕ → Bool) (values : List (Option Bool)) (c : AtLeast) → Completes full values → IsSatisfied full c → Completes full (with_forced values c)
Completes-with_forced full values c completes satisfied = forced_from full values c completes satisfied c.terms (All-contains_itself c.terms) values completes

conflict_at : (full : ℕ → Bool) (c : AtLeast) (values : List (Option Bool)) (rest : Bool) → Completes full values → IsSatisfied full c → (rest ≡ true → ⊥) → (ltb (reachable values c.terms) c.degree || rest) ≡ true → ⊥
conflict_at full c values rest completes here later e = by (ltb (reachable values c.terms) c.degree) refl e
  where
    by : (b : Bool) → ltb (reachable values c.terms) c.degree ≡ b → (b || rest) ≡ true → ⊥
    by true t h = violated_has_no_completion full values c (below _ _ t) completes here
    by false t h = later h

-- constraints that conflict in order have no completion that satisfies them all
pub conflicts_refute : (full : ℕ → Bool) (constraints : List AtLeast) (values : List (Option Bool)) → conflicts values constraints ≡ true → Completes full values → SatisfiesAll full constraints → ⊥
conflicts_refute full [] values e completes satisfied = false≢true e
conflicts_refute full (c ∷ constraints) values e completes satisfied =
    let here : IsSatisfied full c = All-head (IsSatisfied full) c constraints satisfied in
    conflict_at full c values (conflicts (with_forced values c) constraints) completes here
    (λ h. conflicts_refute full constraints (with_forced values c) h (Completes-with_forced full values c completes here) (All-tail (IsSatisfied full) c constraints satisfied)) e

-- ---- a line

complement-holds : (full : ℕ → Bool) (lit : Lit) → holds full lit ≡ false → holds full (complement lit) ≡ true
complement-holds full lit e = by lit.positive (full lit.variable) e
  where
    by : (p b : Bool) → cond p b (not b) ≡ false → cond (not p) b (not b) ≡ true
    by true true e = absurd (false≢true (sym e))
    by true false e = refl
    by false true e = refl
    by false false e = absurd (false≢true (sym e))

none_holds : (a b : Bool) → (a || b) ≡ false → (a ≡ false) × (b ≡ false)
none_holds true b e = absurd (false≢true (sym e))
none_holds false b e = (refl, e)

false_from : (full : ℕ → Bool) (lits : List Lit) (values : List (Option Bool)) → Completes full values → list_any (holds full) lits ≡ false → Completes full (fold (λ after lit. make_true after (complement lit)) values lits)
false_from full [] values completes none = completes
false_from full (lit ∷ lits) values completes none =
    let parts = none_holds (holds full lit) (list_any (holds full) lits) none in
    false_from full lits (make_true values (complement lit)) (Completes-make_true full values (complement lit) completes (complement-holds full lit parts.0)) parts.1

none_at : (n k : ℕ) → get_or {A = Option Bool} (replicate n None) k None ≡ None
none_at n k =
    ⊎_elim (λ lt. get_or-replicate n k None None lt) (λ ge. get_or_past (replicate n None) k None (rw (length-replicate {A = Option Bool}) ge)) (cases_lt k n)

none_cond : (b : Bool) → cond {A = Option Bool} b None None ≡ None
none_cond true = refl
none_cond false = refl

pub open_replicate : (n v : ℕ) → value_of (replicate n None) v ≡ None
open_replicate n v = rw (none_at n (v - 1)) (none_cond (eqb v 0))

open_all : (full : ℕ → Bool) (n : ℕ) → Completes full (replicate n None)
open_all full n v = rw (none_at n (v - 1)) (by (eqb v 0))
  where
    by : (b : Bool) → IfSome (cond b None None) (λ x. full v ≡ x)
    by true = tt
    by false = tt

-- a full assignment that satisfies the constraints of the hints makes a literal of the clause true
pub line_holds : (variables : ℕ) (database : List AtLeast) (line : Line) (full : ℕ → Bool) → conflicts (all_false variables line.clause) (hinted database line.hints) ≡ true → SatisfiesAll full (hinted database line.hints) → MakesTrue full line.clause
line_holds variables database line full conflict satisfied = by (list_any (holds full) line.clause) refl
  where
    by : (b : Bool) → list_any (holds full) line.clause ≡ b → b ≡ true
    by true e = refl
    by false e = absurd (conflicts_refute full (hinted database line.hints) (all_false variables line.clause) conflict (false_from full line.clause (replicate variables None) (open_all full variables) e) satisfied)

-- constraints that are satisfied all are so at each hint
pub hinted_satisfied : (database : List AtLeast) (hints : List ℕ) (full : ℕ → Bool) → HasHints database hints → SatisfiesAll full database → SatisfiesAll full (hinted database hints)
hinted_satisfied database hints full within satisfied =
    All-map (IsSatisfied full) (constraint_at database) hints (λ k d h. satisfied (get_or hints k d - 1) (record { terms = []; degree = 0 }) (let w = within k d h in omega (arith, w.0, w.1)))

pub line_follows : (variables : ℕ) (database : List AtLeast) (line : Line) → Checks variables database line → Follows database line.clause
line_follows variables database line checks full satisfied =
    line_holds variables database line full checks.conflict (hinted_satisfied database line.hints full checks.hints satisfied)

-- ---- all lines

-- what satisfies the constraints satisfies the clauses of the first lines
lines_hold : (variables : ℕ) (constraints : List Constraint) (lines : List Line) (full : ℕ → Bool) → SatisfiesAll full (map at_least constraints) → (n : ℕ) → n ≤ length lines → CheckUpTo variables constraints lines n → SatisfiesAll full (database constraints (take n lines))
lines_hold variables constraints lines full satisfied zero within checks = rw (append-nil (map at_least constraints)) satisfied
lines_hold variables constraints lines full satisfied (suc n) within checks = from_line lines within checks (lines_hold variables constraints lines full satisfied n (omega arith) (λ k d h. checks k d (omega arith)))
  where
    from_line : (ls : List Line) → suc n ≤ length ls → CheckUpTo variables constraints ls (suc n) → SatisfiesAll full (database constraints (take n ls)) → SatisfiesAll full (database constraints (take (suc n) ls))
    from_line ls h all before =
        let none : Line = record { clause = []; hints = [] } in
        let holds_here = line_follows variables (database constraints (take n ls)) (get_or ls n none) (all n none (omega arith)) full before in
        let one = take-suc ls n none (omega arith) in
        rw one (rw (map-append line_seen (take n ls) (get_or ls n none ∷ []), ← append_assoc) (All-push (IsSatisfied full) (database constraints (take n ls)) (line_seen (get_or ls n none)) before (clause_from_true full (get_or ls n none).clause holds_here)))

pub all_follow : (variables : ℕ) (constraints : List Constraint) (lines : List Line) → CheckUpTo variables constraints lines (length lines) → AllFollow constraints lines
all_follow variables constraints lines checks k d within full satisfied =
    line_follows variables (database constraints (take k lines)) (get_or lines k d) (checks k d within) full
    (lines_hold variables constraints lines full satisfied k (omega arith) (λ j e h. checks j e (omega arith)))

pub are_sound : (variables : ℕ) (constraints : List Constraint) (lines : List Line) → AreSound variables constraints lines
are_sound variables constraints lines checks = (all_follow variables constraints lines checks, refutes)
  where
    refutes : EndsEmpty lines → IsUnsatisfiable (map at_least constraints)
    refutes ends full satisfied =
        let none : Line = record { clause = []; hints = [] } in
        let last = all_follow variables constraints lines checks (length lines - 1) none (omega (arith, ends.0)) full satisfied in
        false≢true (rw (ends.1 none) at last)
