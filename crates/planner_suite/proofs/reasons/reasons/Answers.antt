use Rattle.std.proofs.Common.{subst}
use Rattle.p2_planner.specs.Planning.{IsPlanOf}
use Rattle.planner_suite.proofs.ShownLaws.{refuted_shown, spent_shown}
use Rattle.planner_suite.proofs.reasons.reasons.Goals as goal

pub unsatisfiable_lines-requires-clause-shown : goal.unsatisfiable_lines-requires-clause-shown
unsatisfiable_lines-requires-clause-shown c =
    let is = c.in_ok-planned.ensures.planned in
    refuted_shown c.args.scene.now.catalog is.slice c.args.scene.now.env c.args.question.now.budget c.requires.small is.members c.in-NoSelection.evidence c.args.question.now.roots
    (subst (IsPlanOf c.args.scene.now.catalog is.slice c.args.question.now.installed c.args.question.now.roots c.args.question.now.optional c.args.scene.now.env c.args.question.now.budget) c.in-NoSelection.is is.answer)

pub budget_spent_lines-requires : goal.budget_spent_lines-requires
budget_spent_lines-requires c =
    let is = c.in_ok-planned.ensures.planned in
    record {
      shown = spent_shown c.args.scene.now.catalog is.slice c.args.scene.now.env c.args.question.now.budget c.requires.small is.members c.in-Spent.evidence c.args.question.now.roots c.args.question.now.optional
          (subst (IsPlanOf c.args.scene.now.catalog is.slice c.args.question.now.installed c.args.question.now.roots c.args.question.now.optional c.args.scene.now.env c.args.question.now.budget) c.in-Spent.is is.answer);
    }
