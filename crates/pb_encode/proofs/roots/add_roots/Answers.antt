use Rattle.std.proofs.lemmas.Result.{err_from_is_err_and}
use Rattle.pb_rows.specs.Rows.{root_row}
use Rattle.pb_rows.proofs.AddingLaws.{adds_one_more, too_many_at_one}
use Rattle.std.proofs.Common.{◌∷◌, []}
use Rattle.std.proofs.Common.{subst}
use Rattle.unit_model.specs.declared.name.UnitName.{UnitName}
use Rattle.pb_rows.specs.Normalising.{Adds, AreTooMany}
use Rattle.pb_encode.specs.UnitsOf.{units_of}
use Rattle.pb_encode.proofs.roots.add_roots.Goals as goal

pub returns-in_err-add_root_of-clause-too_large : goal.returns-in_err-add_root_of-clause-too_large
returns-in_err-add_root_of-clause-too_large c =
    let p = err_from_is_err_and c.from_residual.result c.from_residual.ensures.1 in
    let ms = units_of c.args.members.now in
    let P : UnitName → Type 0 = λ r. AreTooMany (root_row ms r ∷ []) c.loop-root.constraints in
    rw (p.1, p.2)
    (λ e. too_many_at_one (root_row ms) c.args.roots.now c.loop-root.root-index c.root-item.result c.args.constraints.now c.loop-root.constraints c.loop-root-test.true c.loop-root.invariant
    (subst P c.root-item.is (c.in_err-add_root_of.ensures.too_large e)))

pub loop-root-preserved : goal.loop-root-preserved
loop-root-preserved c =
    let ms = units_of c.args.members.now in
    let P : UnitName → Type 0 = λ r. Adds (root_row ms r ∷ []) c.loop-root.constraints c.add_root_of.new.constraints in
    adds_one_more (root_row ms) c.args.roots.now c.loop-root.root-index c.root-item.result c.args.constraints.now c.loop-root.constraints c.add_root_of.new.constraints c.loop-root-test.true c.loop-root.invariant
    (subst P c.root-item.is c.in_ok-add_root_of.ensures.added)
