use Rattle.std.proofs.Common.{arith}
use Rattle.folder_core.specs.Folder.{Map}
use Rattle.install_journal.specs.Firsts.{Finds}
use Rattle.install_journal.specs.Fitting.{AreInOrder, IsBareChild}
use Rattle.install_journal.proofs.Damages.{looks_then, looks_back}
use Rattle.install_journal.proofs.FittingsFirst.{looks_same, among_told, among_none_told, among_all_told}
use Rattle.install_journal.proofs.fitting.first_uncovered.Goals as goal

pub loop-one-init : goal.loop-one-init
loop-one-init g c = record {
  looks = looks_same g.F.Folder.told g.F.Folder.left_since c.args.folder.now;
  later = omega arith;
  found = among_none_told (g.F.Folder.told c.args.folder.now) c.args.oldest.now;
}

pub loop-one-preserved : goal.loop-one-preserved
loop-one-preserved g c =
    let inv = c.loop-one.invariant in
    let cause = c.uncovered_child.ensures.cause in
    record {
      looks = looks_then g.F.Folder.told g.F.Folder.left_since c.args.folder.now c.loop-one.folder c.uncovered_child.new.folder inv.looks c.uncovered_child.ensures.looks;
      later = omega (arith, inv.later, cause.later);
      found = among_told (g.F.Folder.told c.args.folder.now) c.args.oldest.now c.loop-one.one-index c.one-item.result c.loop-one.found c.in_ok-child.child c.earlier-found.result c.loop-one-test.true c.one-item.is inv.found
          (looks_back g.F.Folder.told g.F.Folder.left_since c.args.folder.now c.loop-one.folder (λ (m : Map). AreInOrder c.args.oldest.now → Finds (IsBareChild c.args.oldest.now m c.one-item.result.path) c.in_ok-child.child) inv.looks c.in_ok-child.ensures.found)
          c.earlier-found.ensures;
    }

pub returns-in_err-child-clause-looks : goal.returns-in_err-child-clause-looks
returns-in_err-child-clause-looks g c =
    looks_then g.F.Folder.told g.F.Folder.left_since c.args.folder.now c.loop-one.folder c.uncovered_child.new.folder c.loop-one.invariant.looks c.uncovered_child.ensures.looks

pub returns-clause-found : goal.returns-clause-found
returns-clause-found g c =
    among_all_told (g.F.Folder.told c.args.folder.now) c.args.oldest.now c.loop-one.one-index c.loop-one.found (omega arith) c.loop-one.invariant.found
