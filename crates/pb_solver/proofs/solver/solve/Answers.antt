use Rattle.std.proofs.Common.{◌≡◌, ℕ, Bool, false, Vec, Global, List, length, get_or, map, sym, ap, subst, ◌∙◌, arith}
use mathlib.Core.Path.{fun_ext}
use Rattle.pb_core.specs.AtLeast.{AtLeast, at_least}
use Rattle.pb_core.specs.Satisfied.{SatisfiesAll}
use Rattle.pb_solver.specs.Answers.{IsWanted}
use Rattle.pb_solver.specs.SearchHolds.{problem_of, wish_of}
use Rattle.pb_solver.specs.Wanted.{is_wanted}
use Rattle.pb_solver.proofs.SpendingLaws.{most_spent-same, most_spent_over, spent_most}
use Rattle.pb_solver.proofs.solver.solve.Goals as goal

pub returns-in_err-ending-clause-steps : goal.returns-in_err-ending-clause-steps
returns-in_err-ending-clause-steps g c =
    let bound = most_spent-same c.in_ok-search.search c.settle.new.self c.settle.ensures.same ∙ most_spent_over c.in_ok-search.search c.args.problem.now.constraints (length c.args.problem.now.labels) c.args.budget c.in_ok-search.ensures.problem c.in_ok-search.ensures.variables c.in_ok-search.ensures.budget in
    omega (arith, bound, c.in_ok-search.ensures.spent, c.settle.ensures.steps, c.in_err-ending.ensures.err)

pub returns-in_err-answer-clause-steps : goal.returns-in_err-answer-clause-steps
returns-in_err-answer-clause-steps g c =
    let bound = most_spent-same c.settle.new.self c.run.new.self c.in_ok-ending.ensures.over.same ∙ (most_spent-same c.in_ok-search.search c.settle.new.self c.settle.ensures.same ∙ most_spent_over c.in_ok-search.search c.args.problem.now.constraints (length c.args.problem.now.labels) c.args.budget c.in_ok-search.ensures.problem c.in_ok-search.ensures.variables c.in_ok-search.ensures.budget) in
    omega (arith, bound, c.in_ok-search.ensures.spent, c.settle.ensures.steps, c.in_ok-ending.ensures.steps, spent_most c.run.new.self c.in_ok-ending.ensures.over.holds)

pub returns-clause-steps : goal.returns-clause-steps
returns-clause-steps g c =
    let bound = most_spent-same c.settle.new.self c.run.new.self c.in_ok-ending.ensures.over.same ∙ (most_spent-same c.in_ok-search.search c.settle.new.self c.settle.ensures.same ∙ most_spent_over c.in_ok-search.search c.args.problem.now.constraints (length c.args.problem.now.labels) c.args.budget c.in_ok-search.ensures.problem c.in_ok-search.ensures.variables c.in_ok-search.ensures.budget) in
    omega (arith, bound, c.in_ok-search.ensures.spent, c.settle.ensures.steps, c.in_ok-ending.ensures.steps, spent_most c.run.new.self c.in_ok-ending.ensures.over.holds)

pub returns-clause-wanted : goal.returns-clause-wanted
returns-clause-wanted g c sat =
    let problem : problem_of c.run.new.self ≡ map at_least c.args.problem.now.constraints = c.in_ok-ending.ensures.over.same.problem ∙ (c.settle.ensures.same.problem ∙ c.in_ok-search.ensures.problem) in
    let marks = c.in_ok-ending.ensures.over.same.wanted ∙ c.settle.ensures.same.wanted in
    let wish : wish_of c.run.new.self ≡ is_wanted c.args.order.now = ap (λ (marks : Vec Bool Global). λ (v : ℕ). get_or marks.items v false) marks ∙ fun_ext c.in_ok-search.ensures.wishes in
    let P : (ℕ → Bool) → Type 0 = λ f. IsWanted f c.in_ok-answer.answer in
    let Q : (ℕ → Bool) → Type 0 = λ f. SatisfiesAll f (problem_of c.run.new.self) in
    let R : List AtLeast → Type 0 = λ cs. SatisfiesAll (is_wanted c.args.order.now) cs in
    subst P wish (c.in_ok-answer.ensures.wish (subst Q (sym wish) (subst R (sym problem) sat)))
