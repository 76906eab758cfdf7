use Rattle.std.proofs.lemmas.Result.{err_from_is_err_and}
use Rattle.std.proofs.Common.{◌++◌, ℕ, List, drop, length, sym, ◌∙◌, ap}
use Rattle.action_core.specs.Tests.{too_deep}
use Rattle.action_core.proofs.Params.{not_deep}
use Rattle.native_actions.proofs.copy.moved.Goals as goal

pub returns-in_err-moved-clause-refused : goal.returns-in_err-moved-clause-refused
returns-in_err-moved-clause-refused c =
    let p = err_from_is_err_and c.from_residual-in_err-moved.result c.from_residual-in_err-moved.ensures.1 in
    rw (p.1, p.2) (λ other.
    ap (λ (l : List (List ℕ)). too_deep (l ++ drop (length c.args.source.now) c.args.path.now)) (sym c.in_ok-copy.ensures)
    ∙ ap (λ (l : List (List ℕ)). too_deep (c.in_ok-copy.field-0 ++ l)) (sym c.behind.ensures)
    ∙ c.in_err-moved.ensures.refused other)

pub returns-clause-passed : goal.returns-clause-passed
returns-clause-passed c =
    ap (λ (l : List (List ℕ)). too_deep (l ++ drop (length c.args.source.now) c.args.path.now)) (sym c.in_ok-copy.ensures)
    ∙ ap (λ (l : List (List ℕ)). too_deep (c.in_ok-copy.field-0 ++ l)) (sym c.behind.ensures)
    ∙ ap too_deep (sym c.in_ok-moved.ensures.longer)
    ∙ not_deep c.in_ok-moved.moved c.names.ensures.path.short
