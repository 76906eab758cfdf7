use Rattle.std.proofs.lemmas.Result.{err_from_is_err_and}
use Rattle.pb_rows.proofs.AddingLaws.{too_many_first}
use Rattle.pb_encode.proofs.requirements.add_bounds.Goals as goal

pub returns-in_err-add_need-clause-too_large : goal.returns-in_err-add_need-clause-too_large
returns-in_err-add_need-clause-too_large c =
    let p = err_from_is_err_and c.from_residual.result c.from_residual.ensures.1 in
    rw (p.1, p.2) (λ e. too_many_first _ _ _ (c.in_err-add_need.ensures.too_large e))
