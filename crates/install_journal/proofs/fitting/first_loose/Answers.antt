use Rattle.std.proofs.Common.{◌≡◌, arith, get_or, ◌∙◌, subst, below_more}
use Rattle.std.specs.Prelude.{IsTrue, ◌↔◌}
use Rattle.std.proofs.lemmas.List.{get_or_default}
use Rattle.folder_core.specs.Folder.{Map}
use Rattle.folder_core.specs.Step.{OnTold}
use Rattle.install_journal.specs.Fitting.{AreInOrder, HangsLoose}
use Rattle.install_journal.specs.declared.plan.Oldest.{Oldest}
use Rattle.install_journal.proofs.Damages.{looks_then, looks_back}
use Rattle.install_journal.proofs.FittingsLoose.{firm_told, none_loose_told, one_loose_told}
use Rattle.install_journal.proofs.FittingsOrder.{no_oldest}
use Rattle.install_journal.proofs.fitting.first_loose.Goals as goal

pub loop-one-preserved : goal.loop-one-preserved
loop-one-preserved g c =
    let inv = c.loop-one.invariant in
    let cause = c.is_loose.ensures.cause in
    let same : c.one-item.result ≡ get_or c.args.oldest.now c.loop-one.one-index no_oldest = c.one-item.is ∙ get_or_default c.args.oldest.now c.loop-one.one-index c.one-item.result no_oldest c.loop-one-test.true in
    record {
      looks = looks_then g.F.Folder.told g.F.Folder.left_since c.args.folder.now c.loop-one.folder c.is_loose.new.folder inv.looks c.is_loose.ensures.looks;
      later = omega (arith, inv.later, cause.later);
      none = below_more _ _ inv.none
          (subst (λ (o : Oldest). OnTold (g.F.Folder.told c.args.folder.now) (λ s. AreInOrder c.args.oldest.now → ¬ (HangsLoose c.args.oldest.now s.now o))) same
          (firm_told (g.F.Folder.told c.args.folder.now) c.args.oldest.now c.one-item.result c.in_ok-is_loose.field-0 c.if-branch.false
          (looks_back g.F.Folder.told g.F.Folder.left_since c.args.folder.now c.loop-one.folder (λ (m : Map). AreInOrder c.args.oldest.now → IsTrue c.in_ok-is_loose.field-0 ↔ HangsLoose c.args.oldest.now m c.one-item.result) inv.looks c.in_ok-is_loose.ensures.found)));
    }

pub returns-in_err-is_loose-clause-looks : goal.returns-in_err-is_loose-clause-looks
returns-in_err-is_loose-clause-looks g c =
    looks_then g.F.Folder.told g.F.Folder.left_since c.args.folder.now c.loop-one.folder c.is_loose.new.folder c.loop-one.invariant.looks c.is_loose.ensures.looks

pub returns-in_err-copy-clause-looks : goal.returns-in_err-copy-clause-looks
returns-in_err-copy-clause-looks g c =
    looks_then g.F.Folder.told g.F.Folder.left_since c.args.folder.now c.loop-one.folder c.is_loose.new.folder c.loop-one.invariant.looks c.is_loose.ensures.looks

pub returns-then-branch-clause-looks : goal.returns-then-branch-clause-looks
returns-then-branch-clause-looks g c =
    looks_then g.F.Folder.told g.F.Folder.left_since c.args.folder.now c.loop-one.folder c.is_loose.new.folder c.loop-one.invariant.looks c.is_loose.ensures.looks

pub returns-then-branch-clause-found : goal.returns-then-branch-clause-found
returns-then-branch-clause-found g c =
    one_loose_told (g.F.Folder.told c.args.folder.now) c.args.oldest.now c.loop-one.one-index c.loop-one.invariant.none c.one-item.result c.in_ok-copy.field-0 c.in_ok-is_loose.field-0
    c.loop-one-test.true c.one-item.is c.in_ok-copy.ensures c.if-branch.true
    (looks_back g.F.Folder.told g.F.Folder.left_since c.args.folder.now c.loop-one.folder (λ (m : Map). AreInOrder c.args.oldest.now → IsTrue c.in_ok-is_loose.field-0 ↔ HangsLoose c.args.oldest.now m c.one-item.result) c.loop-one.invariant.looks c.in_ok-is_loose.ensures.found)

pub returns-clause-found : goal.returns-clause-found
returns-clause-found g c =
    none_loose_told (g.F.Folder.told c.args.folder.now) c.args.oldest.now c.loop-one.one-index c.loop-one.invariant.none c.loop-one-test.false
