use Rattle.std.proofs.Common.{subst}
use Rattle.std.proofs.lemmas.Result.{err_from_is_err_and}
use Rattle.std.specs.Prelude.{Any}
use Rattle.unit_model.specs.declared.name.UnitName.{UnitName}
use Rattle.unit_slicer.specs.Adding.{IsRootOf, IsRoot}
use Rattle.unit_slicer.specs.Found.{Adds, AreTooMany}
use Rattle.unit_slicer.proofs.AddingLaws.{adds_same, adds_more, adds_all, too_many_same, too_many_at}
use Rattle.unit_slicer.proofs.FindingLaws.{root_of_any, any_of_root}
use Rattle.unit_slicer.proofs.adding.add_roots.Goals as goal

pub returns-in_err-add_root-clause-too_large : goal.returns-in_err-add_root-clause-too_large
returns-in_err-add_root-clause-too_large c =
    let way = c.args.way.now in
    let roots = c.args.roots.now in
    let root = c.root-item.result in
    let p = err_from_is_err_and c.from_residual.result c.from_residual.ensures.1 in
    rw (p.1, p.2)
    (λ e. too_many_same (λ n. Any (λ r. IsRootOf way r n) roots) (IsRoot way roots) c.args.found.now (root_of_any way roots)
    (too_many_at (IsRootOf way) roots c.loop-root.root-index root c.args.found.now c.loop-root.found c.loop-root-test.true c.loop-root.invariant
    (subst (λ (r : UnitName). AreTooMany (IsRootOf way r) c.loop-root.found) c.root-item.is (c.in_err-add_root.ensures.too_large e))))

pub loop-root-preserved : goal.loop-root-preserved
loop-root-preserved c =
    let way = c.args.way.now in
    let root = c.root-item.result in
    adds_more (IsRootOf way) c.args.roots.now c.loop-root.root-index root c.args.found.now c.loop-root.found c.add_root.new.found c.loop-root-test.true c.loop-root.invariant
    (subst (λ (r : UnitName). Adds (IsRootOf way r) c.loop-root.found c.add_root.new.found) c.root-item.is c.in_ok-add_root.ensures.ok)

pub returns-clause-ok : goal.returns-clause-ok
returns-clause-ok c =
    let way = c.args.way.now in
    let roots = c.args.roots.now in
    adds_same (λ n. Any (λ r. IsRootOf way r n) roots) (IsRoot way roots) c.args.found.now c.loop-root.found (root_of_any way roots) (any_of_root way roots)
    (adds_all (IsRootOf way) roots c.loop-root.root-index c.args.found.now c.loop-root.found c.loop-root-test.false c.loop-root.invariant)
