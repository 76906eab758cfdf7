use Rattle.std.proofs.Common.{◌≡◌, take}
use Rattle.pb_core.specs.AtLeast.{clause}
use Rattle.deriv_check.proofs.lines.clause_constraint.Given as goal

abbrev pub invariant-loop-lit : goal.invariant-loop-lit
invariant-loop-lit l = l.terms ≡ (clause (take l.lit-index l.lits)).terms
