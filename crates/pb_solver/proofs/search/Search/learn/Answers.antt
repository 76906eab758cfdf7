use Rattle.std.proofs.Common.{◌+◌, ◌-◌, ℕ, length, sym, subst, arith}
use Rattle.pb_core.specs.Propagates.{IsAtRest}
use Rattle.pb_trail.specs.Rest.{RestBefore}
use Rattle.clause_learning.specs.Reasons.{ReasonsFrom}
use Rattle.pb_solver.specs.Levels.{values_at}
use Rattle.pb_solver.proofs.LevelLaws.{reasons_behind}
use Rattle.pb_solver.proofs.SearchLaws.{conflict_unwanted, on_err}
use Rattle.pb_solver.proofs.SpendingLaws.{spent_most}
use Rattle.pb_solver.proofs.search.Search.learn.Goals as goal

pub learn-requires-clause-rest : goal.learn-requires-clause-rest
learn-requires-clause-rest g c =
    let P : ℕ → Type 0 = λ s. IsAtRest c.args.self.now.levels.trail.kept.constraints (values_at c.args.self.now.levels.trail s) in
    subst P (sym c.requires.start) (c.requires.holds.levels.at_rest (length c.args.self.now.levels.starts.items - 1) (omega (arith, c.requires.decided)))

pub learn-requires-clause-reasons : goal.learn-requires-clause-reasons
learn-requires-clause-reasons g c =
    let P : ℕ → Type 0 = λ s. ReasonsFrom c.args.self.now.levels.trail (s + 1) in
    subst P (sym c.requires.start) (reasons_behind c.args.self.now.levels.trail c.args.self.now.levels.starts.items c.requires.holds.levels)

pub returns-in_err-learned-clause-err : goal.returns-in_err-learned-clause-err
returns-in_err-learned-clause-err g c =
    on_err c.from_residual.result (omega (arith, spent_most c.args.self.now c.requires.holds))

pub keep-requires-clause-not_wanted : goal.keep-requires-clause-not_wanted
keep-requires-clause-not_wanted g c =
    conflict_unwanted c.args.self.now c.args.conflict c.requires.holds c.requires.conflict

pub settle-requires-clause-rest : goal.settle-requires-clause-rest
settle-requires-clause-rest g c =
    let P : ℕ → Type 0 = λ n. RestBefore c.keep.new.self.levels.trail n in
    subst P (sym c.len-number.ensures) c.in_ok-keep.ensures.rest
