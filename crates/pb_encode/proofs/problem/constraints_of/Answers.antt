use Rattle.std.proofs.Common.{List, [], subst}
use Rattle.std.proofs.lemmas.Result.{err_from_is_err_and}
use Rattle.unit_model.specs.declared.name.UnitName.{UnitName}
use Rattle.pb_rows.specs.Normalising.{AreNormalised, HasMoreTerms}
use Rattle.pb_rows.specs.Rows.{rows}
use Rattle.pb_encode.specs.UnitsOf.{units_of}
use Rattle.pb_encode.proofs.problem.constraints_of.Goals as goal

pub returns-in_err-add_rows-clause-too_large : goal.returns-in_err-add_rows-clause-too_large
returns-in_err-add_rows-clause-too_large c =
    let p = err_from_is_err_and c.from_residual.result c.from_residual.ensures.1 in
    let P : List UnitName → Type 0 = λ roots. HasMoreTerms 4000000 (rows (units_of c.args.members.now) roots c.args.env.now) in
    rw (p.1, p.2) (λ e. subst P c.items.ensures (c.in_err-add_rows.ensures.too_large e [] c.new-constraints.ensures))

pub returns-clause-ok : goal.returns-clause-ok
returns-clause-ok c =
    let P : List UnitName → Type 0 = λ roots. AreNormalised (rows (units_of c.args.members.now) roots c.args.env.now) c.add_rows.new.constraints in
    subst P c.items.ensures (c.in_ok-add_rows.ensures.added [] c.new-constraints.ensures)
