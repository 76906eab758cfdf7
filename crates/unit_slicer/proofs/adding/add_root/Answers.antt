use Rattle.std.proofs.lemmas.Result.{on_ok_weaker}
use Rattle.unit_catalog.specs.Named.{IsNew}
use Rattle.unit_slicer.specs.Adding.{IsOwn, IsRootOf}
use Rattle.unit_slicer.proofs.AddingLaws.{adds_none, adds_same, too_many_same}
use Rattle.unit_slicer.proofs.FindingLaws.{no_root, no_number, root_of_own, own_of_root}
use Rattle.unit_slicer.proofs.adding.add_root.Goals as goal

pub returns-in_default-clause-ok : goal.returns-in_default-clause-ok
returns-in_default-clause-ok c =
    let way = c.args.way.now in
    let units = way.catalog.now in
    let root = c.args.root.now in
    let new : IsNew units root = no_number units root c.find.result (λ m e. c.in_default.not-Some m e) c.find.ensures.found in
    adds_none (IsRootOf way root) c.args.found.now (λ n is. absurd (no_root way root new n is))

pub returns-clause-ok : goal.returns-clause-ok
returns-clause-ok c =
    let way = c.args.way.now in
    let units = way.catalog.now in
    let root = c.args.root.now in
    let m = c.in-Some.number in
    on_ok_weaker c.add_own.result
    (adds_same (IsOwn way m) (IsRootOf way root) c.args.found.now c.add_own.new.found (root_of_own way root m c.in-Some.ensures.found) (own_of_root way c.in-Some.ensures.distinct root m c.in-Some.ensures.found))
    c.add_own.ensures.ok

pub returns-clause-too_large : goal.returns-clause-too_large
returns-clause-too_large c = λ e.
    let way = c.args.way.now in
    let units = way.catalog.now in
    let root = c.args.root.now in
    let m = c.in-Some.number in
    too_many_same (IsOwn way m) (IsRootOf way root) c.args.found.now (root_of_own way root m c.in-Some.ensures.found) (c.add_own.ensures.too_large e)
