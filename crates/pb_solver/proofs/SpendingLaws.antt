-- The bound on steps, and the turns that are left.
use Rattle.std.proofs.Common.{◌≡◌, ℕ, ◌+◌, ◌-◌, ◌*◌, ◌<◌, ◌≤◌, List, [], ◌∷◌, ◌++◌, length, map, All, refl, sym, ap, ◌∙◌, arith}
use Rattle.std.proofs.Math.Nat.{mul-le-mul_right, mul_assoc}
use Rattle.std.proofs.lemmas.List.Sums.{sum_by-cons}
use Rattle.pb_core.specs.AtLeast.{AtLeast, at_least}
use Rattle.pb_core.specs.declared.constraint.Constraint.{Constraint}
use Rattle.deriv_check.specs.Database.{line_seen}
use Rattle.deriv_check.specs.LineRule.{HasLiterals}
use Rattle.deriv_check.specs.declared.derivation.Line.{Line}
use Rattle.pb_trail.specs.Along.{weight}
use Rattle.pb_trail.specs.Trail.{Counted}
use Rattle.pb_trail.specs.declared.trail.Entry.{Entry}
use Rattle.pb_trail.proofs.AlongLaws.{weight-none}
use Rattle.pb_trail.proofs.TrailLaws.{trail_short}
use Rattle.pb_solver.specs.Answers.{terms_of}
use Rattle.pb_solver.specs.SearchHolds.{SearchHolds, IsSameSearch, variables_of, problem_of}
use Rattle.pb_solver.specs.Spending.{term_count, most_terms, spent, most_spent, turns_left}
use Rattle.pb_solver.specs.declared.agenda.Agenda.{Agenda}
use Rattle.pb_solver.specs.declared.search.Search.{Search}
use Rattle.pb_solver.proofs.WeightLaws.{trail_weight, term_count-append, lines_short, weight-added}

product_next : (k n : ℕ) → (k + 1) * n ≡ k * n + n
product_next k n = omega arith

product_le : (k m n : ℕ) → k ≤ m → k * n ≤ m * n
product_le k m n h = mul-le-mul_right n h

pub most_terms-same : (before after : Search) → IsSameSearch before after → most_terms after ≡ most_terms before
unfolding most_terms
most_terms-same before after same =
    ap (λ (cs : List AtLeast). term_count cs + after.budget * variables_of after) same.problem ∙ (ap (λ (b : ℕ). term_count (problem_of before) + b * variables_of after) same.budget ∙ ap (λ (v : ℕ). term_count (problem_of before) + before.budget * v) same.variables)

pub most_spent-same : (before after : Search) → IsSameSearch before after → most_spent after ≡ most_spent before
unfolding most_spent
most_spent-same before after same =
    ap (λ (b : ℕ). 2 * ((b + 1) * most_terms after)) same.budget ∙ ap (λ (m : ℕ). 2 * ((before.budget + 1) * m)) (most_terms-same before after same)

terms_within : (search : Search) → SearchHolds search → term_count search.levels.trail.kept.constraints ≤ most_terms search
unfolding most_terms
terms_within search holds =
    let literals : All (λ (l : Line). HasLiterals (variables_of search) l.clause) search.lines = λ k d h. (holds.learned.check k d h).literals in
    let parts = ap term_count holds.all ∙ term_count-append (problem_of search) (map line_seen search.lines) in
    let short = lines_short (variables_of search) search.lines literals in
    let most = product_le (length search.lines) search.budget (variables_of search) holds.most in
    omega (arith, parts, short, most)

weight_within : (search : Search) → SearchHolds search → weight search.levels.trail.kept.constraints search.levels.trail.entries.items ≤ most_terms search
weight_within search holds = omega (arith, trail_weight search.levels.trail holds.levels.good, terms_within search holds)

pub spent_most : (search : Search) → SearchHolds search → spent search ≤ most_spent search
unfolding spent most_spent
spent_most search holds =
    let low = product_le (length search.lines) search.budget (most_terms search) holds.most in
    omega (arith, low, weight_within search holds, product_next search.budget (most_terms search))

pub spent_grown : (before after : Search) (first last : ℕ) → IsSameSearch before after → after.lines ≡ before.lines → after.levels.trail.kept.constraints ≡ before.levels.trail.kept.constraints → Counted before.levels.trail after.levels.trail first last → last + spent before ≤ first + spent after
unfolding spent
spent_grown before after first last same lines constraints counted =
    let weights = ap (λ (cs : List AtLeast). weight cs after.levels.trail.entries.items) constraints in
    let terms = ap (λ (m : ℕ). length after.lines * m) (most_terms-same before after same) ∙ ap (λ (k : ℕ). k * most_terms before) (ap length lines) in
    omega (arith, weights, terms, counted)

-- all values were taken back, or fewer
pub spent_back : (before : Search) (entries : List Entry) (first last : ℕ) → SearchHolds before → length before.lines < before.budget → last + weight before.levels.trail.kept.constraints entries ≡ first + weight before.levels.trail.kept.constraints before.levels.trail.entries.items → last + spent before ≤ first + most_spent before
unfolding spent most_spent
spent_back before entries first last holds room counted =
    let low = product_le (length before.lines + 1) (before.budget + 1) (most_terms before) (omega arith) in
    omega (arith, counted, weight_within before holds, low, product_next (length before.lines) (most_terms before))

-- a line pays for them
pub spent_longer : (before after : Search) (c : AtLeast) (first last : ℕ) → SearchHolds before → IsSameSearch before after → length after.lines ≡ length before.lines + 1 → after.levels.trail.kept.constraints ≡ before.levels.trail.kept.constraints ++ c ∷ [] → last + weight before.levels.trail.kept.constraints after.levels.trail.entries.items ≡ first + weight before.levels.trail.kept.constraints before.levels.trail.entries.items → last + spent before ≤ first + spent after
unfolding spent
spent_longer before after c first last holds same lines constraints counted =
    let more = weight-added before.levels.trail.kept.constraints c after.levels.trail.entries.items in
    let weights = ap (λ (cs : List AtLeast). weight cs after.levels.trail.entries.items) constraints in
    let terms = ap (λ (m : ℕ). length after.lines * m) (most_terms-same before after same) ∙ (ap (λ (k : ℕ). k * most_terms before) lines ∙ product_next (length before.lines) (most_terms before)) in
    omega (arith, counted, more, weights, terms, weight_within before holds)

-- ---- turns

pub fewer_decided : (before after : Search) → SearchHolds after → IsSameSearch before after → after.lines ≡ before.lines → length before.levels.trail.entries.items < length after.levels.trail.entries.items → turns_left after < turns_left before
unfolding turns_left
fewer_decided before after holds same lines grows =
    let short = trail_short after.levels.trail holds.levels.good in
    let first : (after.budget - length after.lines) * (variables_of after + 1) ≡ (before.budget - length before.lines) * (variables_of before + 1) = ap (λ (b : ℕ). (b - length after.lines) * (variables_of after + 1)) same.budget ∙ (ap (λ (k : ℕ). (before.budget - k) * (variables_of after + 1)) (ap length lines) ∙ ap (λ (v : ℕ). (before.budget - length before.lines) * (v + 1)) same.variables) in
    omega (arith, first, same.variables, short, grows)

pub fewer_longer : (before after : Search) → IsSameSearch before after → length before.lines < before.budget → length after.lines ≡ length before.lines + 1 → turns_left after < turns_left before
unfolding turns_left
fewer_longer before after same room lines =
    let first : (after.budget - length after.lines) * (variables_of after + 1) ≡ (before.budget - (length before.lines + 1)) * (variables_of before + 1) = ap (λ (b : ℕ). (b - length after.lines) * (variables_of after + 1)) same.budget ∙ (ap (λ (k : ℕ). (before.budget - k) * (variables_of after + 1)) lines ∙ ap (λ (v : ℕ). (before.budget - (length before.lines + 1)) * (v + 1)) same.variables) in
    let back : before.budget - length before.lines ≡ before.budget - (length before.lines + 1) + 1 = omega arith in
    let next = ap (λ (k : ℕ). k * (variables_of before + 1)) back ∙ product_next (before.budget - (length before.lines + 1)) (variables_of before + 1) in
    omega (arith, first, next, same.variables)

pub spent_none : (search : Search) → search.lines ≡ [] → search.levels.trail.entries.items ≡ [] → spent search ≡ 0
unfolding spent
spent_none search lines entries =
    let none = ap (λ (ls : List Line). length ls * most_terms search) lines in
    let weights = ap (weight search.levels.trail.kept.constraints) entries ∙ weight-none search.levels.trail.kept.constraints in
    omega (arith, none, weights)

pub spent_agenda : (search : Search) (agenda : Agenda) → spent (record search { agenda = agenda }) ≡ spent search
unfolding spent most_terms
spent_agenda search agenda = refl

terms_seen : (constraints : List Constraint) → term_count (map at_least constraints) ≡ terms_of constraints
unfolding term_count
terms_seen [] = refl
terms_seen (c ∷ constraints) =
    omega (arith, sum_by-cons (λ (d : AtLeast). length d.terms) (at_least c) (map at_least constraints), sum_by-cons (λ (d : Constraint). length d.terms) c constraints, terms_seen constraints)

pub most_spent_over : (search : Search) (constraints : List Constraint) (variables budget : ℕ) → problem_of search ≡ map at_least constraints → variables_of search ≡ variables → search.budget ≡ budget → most_spent search ≡ 2 * (budget + 1) * (terms_of constraints + budget * variables)
unfolding most_spent most_terms
most_spent_over search constraints variables budget problem size allowed =
    let terms : most_terms search ≡ terms_of constraints + budget * variables = ap (λ (cs : List AtLeast). term_count cs + search.budget * variables_of search) problem ∙ (ap (λ (n : ℕ). n + search.budget * variables_of search) (terms_seen constraints) ∙ (ap (λ (b : ℕ). terms_of constraints + b * variables_of search) allowed ∙ ap (λ (v : ℕ). terms_of constraints + budget * v) size)) in
    ap (λ (b : ℕ). 2 * ((b + 1) * most_terms search)) allowed ∙ (ap (λ (m : ℕ). 2 * ((budget + 1) * m)) terms ∙ sym (mul_assoc 2 (budget + 1) (terms_of constraints + budget * variables)))
