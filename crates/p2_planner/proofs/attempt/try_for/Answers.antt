use Rattle.std.proofs.Common.{ℕ, length, All, sym, subst}
use Rattle.pb_core.specs.AtLeast.{at_least}
use Rattle.pb_core.specs.Normal.{IsNormalOver}
use Rattle.pb_core.specs.declared.constraint.Constraint.{Constraint}
use Rattle.pb_solver.specs.Answers.{IsAnswer}
use Rattle.p2_planner.specs.Attempting.{IsAttempt}
use Rattle.p2_planner.proofs.AttemptLaws.{problem_long, attempt_is}
use Rattle.p2_planner.proofs.attempt.try_for.Goals as goal

pub answer_of-requires-clause-labels : goal.answer_of-requires-clause-labels
answer_of-requires-clause-labels c = problem_long c.args.ask.now c.args.roots.now c.in_ok-problem.problem c.in_ok-problem.ensures.problem

pub answer_of-requires-clause-normal : goal.answer_of-requires-clause-normal
answer_of-requires-clause-normal c =
    let problem = c.in_ok-problem.problem in
    let P : ℕ → Type 0 = λ n. All (λ (k : Constraint). IsNormalOver n (at_least k)) problem.constraints in
    subst P (sym (problem_long c.args.ask.now c.args.roots.now problem c.in_ok-problem.ensures.problem)) c.in_ok-problem.ensures.normal

pub conclude-requires : goal.conclude-requires
conclude-requires c =
    let problem = c.in_ok-problem.problem in
    let P : ℕ → Type 0 = λ n. IsAnswer n problem.constraints c.args.ask.now.budget c.in_ok-answer.answer in
    subst P (problem_long c.args.ask.now c.args.roots.now problem c.in_ok-problem.ensures.problem) c.in_ok-answer.ensures.answer

pub returns-clause-ok : goal.returns-clause-ok
returns-clause-ok c =
    let ask = c.args.ask.now in
    let problem = c.in_ok-problem.problem in
    let P : ℕ → Type 0 = λ n. All (λ (k : Constraint). IsNormalOver n (at_least k)) problem.constraints in
    let normal : P (length problem.labels) = subst P (sym (problem_long ask c.args.roots.now problem c.in_ok-problem.ensures.problem)) c.in_ok-problem.ensures.normal in
    subst (IsAttempt ask c.args.roots.now) (sym c.in_ok-attempt.ensures)
    (attempt_is ask c.args.roots.now problem (record { rows = c.in_ok-problem.ensures.problem; few = c.in_ok-answer.ensures.few; normal = normal })
    (λ full. c.in_ok-problem.ensures.valid full ask.apply) c.derivations_are_sound.ensures
    c.in_ok-answer.answer c.in_ok-answer.ensures.answer c.in_ok-answer.ensures.wanted)
