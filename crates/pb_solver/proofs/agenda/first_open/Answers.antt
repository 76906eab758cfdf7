use Rattle.std.proofs.Common.{ℕ, ◌≡◌, sym, subst, ◌∙◌, ⊎_elim, arith}
use Rattle.std.proofs.lemmas.Bool.{false≢true, cases_lt}
use Rattle.pb_solver.specs.Values.{IsUnassigned}
use Rattle.pb_solver.proofs.AgendaLaws.{assigned_else}
use Rattle.pb_solver.proofs.agenda.first_open.Goals as goal

pub loop-variable-preserved : goal.loop-variable-preserved
loop-variable-preserved c v some lt most =
    ⊎_elim (λ before. c.loop-variable.invariant v some before most) (λ here. let is : c.loop-variable.variable ≡ v = omega arith in assigned_else c.args.values.now v some most (λ free. false≢true (sym c.if-is_unassigned.false ∙ c.is_unassigned.ensures.1 (subst (λ (u : ℕ). IsUnassigned c.args.values.now u) (sym is) free)))) (cases_lt v c.loop-variable.variable)

pub returns : goal.returns
returns c v some most = c.loop-variable.invariant v some (omega arith) most
