use Rattle.std.proofs.Common.{List, sym, subst}
use Rattle.deriv_check.specs.declared.derivation.Line.{Line}
use Rattle.pb_solver.specs.Answers.{IsRefutation}
use Rattle.pb_solver.specs.SearchHolds.{variables_of}
use Rattle.pb_solver.proofs.EndLaws.{ends_in_refutation}
use Rattle.pb_solver.proofs.search.Search.refuted.Goals as goal

pub returns : goal.returns
returns c constraints is =
    let P : List Line → Type 0 = λ ls. IsRefutation (variables_of c.args.self) constraints c.args.self.budget ls in
    subst P (sym c.in_ok-push.ensures.ok) (ends_in_refutation c.args.self constraints c.in_ok-line.line c.requires.holds is c.in_ok-line.ensures.checks c.in_ok-line.ensures.empty)
