use Rattle.std.proofs.Common.{ℕ, List, length, Ok}
use Rattle.pb_core.specs.declared.constraint.Constraint.{Constraint}
use Rattle.deriv_check.specs.Answers.{IsAnswer}
use Rattle.deriv_check.specs.Verdict.{CheckUpTo}
use Rattle.deriv_check.specs.declared.derivation.Line.{Line}
use Rattle.deriv_check.specs.declared.derivation.Verdict.{Verdict}
use Rattle.deriv_check.specs.declared.derivation.Verdict.TheVariants as verdict
use Rattle.constraints_suite.proofs.derivations.numbers.Goals as goal

-- either verdict says that all lines check
checked : (variables : ℕ) (constraints : List Constraint) (lines : List Line) (v : Verdict) → IsAnswer variables constraints lines (Ok v) → CheckUpTo variables constraints lines (length lines)
checked variables constraints lines verdict.Refutes h = h.0
checked variables constraints lines verdict.Follows h = h.0

pub used-requires-clause-checks : goal.used-requires-clause-checks
used-requires-clause-checks c =
    checked (length c.args.over.now.labels) c.args.over.now.constraints c.args.derivation.now.lines c.in-Ok.field-0 c.in-Ok.ensures.exact
