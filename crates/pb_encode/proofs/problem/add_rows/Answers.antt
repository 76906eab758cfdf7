use Rattle.std.proofs.Common.{◌++◌}
use Rattle.std.proofs.lemmas.Result.{err_from_is_err_and}
use Rattle.pb_rows.specs.Rows.{root_rows, requirement_rows, singleton_rows}
use Rattle.pb_rows.proofs.AddingLaws.{too_many_first, too_many_then}
use Rattle.pb_encode.specs.UnitsOf.{units_of}
use Rattle.pb_encode.proofs.problem.add_rows.Goals as goal

pub returns-in_err-add_roots-clause-too_large : goal.returns-in_err-add_roots-clause-too_large
returns-in_err-add_roots-clause-too_large c =
    let p = err_from_is_err_and c.from_residual.result c.from_residual.ensures.1 in
    let ms = units_of c.args.members.now in
    let roots = root_rows ms c.args.roots.now in
    let required = requirement_rows ms c.args.env.now in
    rw (p.1, p.2)
    (λ e. too_many_first (roots ++ required) (singleton_rows ms) c.args.constraints.now
    (too_many_first roots required c.args.constraints.now (c.in_err-add_roots.ensures.too_large e)))

pub returns-in_err-add_requirements-clause-too_large : goal.returns-in_err-add_requirements-clause-too_large
returns-in_err-add_requirements-clause-too_large c =
    let p = err_from_is_err_and c.from_residual-in_err-add_requirements.result c.from_residual-in_err-add_requirements.ensures.1 in
    let ms = units_of c.args.members.now in
    let roots = root_rows ms c.args.roots.now in
    let required = requirement_rows ms c.args.env.now in
    rw (p.1, p.2)
    (λ e. too_many_first (roots ++ required) (singleton_rows ms) c.args.constraints.now
    (too_many_then roots required c.args.constraints.now c.add_roots.new.constraints c.in_ok-add_roots.ensures.added (c.in_err-add_requirements.ensures.too_large e)))
