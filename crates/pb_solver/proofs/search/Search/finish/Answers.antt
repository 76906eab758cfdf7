use Rattle.std.proofs.Common.{Bool, List, Option, sym, subst, ◌∙◌}
use Rattle.pb_solver.specs.Answers.{IsModel}
use Rattle.pb_solver.specs.Ending.{EndsIn}
use Rattle.pb_solver.specs.SearchHolds.{variables_of}
use Rattle.pb_solver.specs.declared.search.Ending.{Ending}
use Rattle.pb_solver.proofs.EndLaws.{ends_in_model, ends_spent}
use Rattle.pb_solver.proofs.search.Search.finish.Goals as goal

pub returns-in_ok-copy-in-Model-clause-answer : goal.returns-in_ok-copy-in-Model-clause-answer
returns-in_ok-copy-in-Model-clause-answer c constraints is =
    let ends = subst (λ (e : Ending). EndsIn c.args.self e) c.in-Model.is c.requires.ends in
    let P : List (Option Bool) → Type 0 = λ vs. IsModel (variables_of c.args.self) constraints vs in
    subst P (sym (c.in_ok-copy-in-Model.ensures ∙ c.values.ensures)) (ends_in_model c.args.self constraints c.requires.holds ends is)

pub returns-in-Spent-clause-answer : goal.returns-in-Spent-clause-answer
returns-in-Spent-clause-answer c constraints is =
    let ends = subst (λ (e : Ending). EndsIn c.args.self e) c.in-Spent.is c.requires.ends in
    ends_spent c.args.self constraints c.requires.holds ends is
