use Rattle.std.proofs.Common.{sym}
use Rattle.std.specs.Prelude.{IfOk}
use Rattle.std.proofs.lemmas.Result.{IfOk-weaker}
use Rattle.unit_model.specs.declared.judgement.Judgement.TheVariants as judgements
use Rattle.unit_judge.specs.Judged.{DoesApply, HaveRoots, IsMissingRoot, IsFirstWithout, IsJudged}
use Rattle.unit_judge.proofs.Judgements.{judged_good}
use Rattle.unit_judge.proofs.judging.judge.Goals as goal

pub returns-in-Some-clause-good : goal.returns-in-Some-clause-good
returns-in-Some-clause-good c =
    let missing : IsMissingRoot c.args.units.now c.args.roots.now c.in-Some.root.now = rw (c.items-members.ensures, c.items.ensures) at c.in-Some.ensures in
    judged_good c.args.units.now c.args.roots.now c.args.optional.now c.args.env.now (judgements.Root c.in_ok-copy.field-0) (rw c.in_ok-copy.ensures missing)

pub returns-in-Some-not_applying-clause-good : goal.returns-in-Some-not_applying-clause-good
returns-in-Some-not_applying-clause-good c =
    let roots : HaveRoots c.args.units.now c.args.roots.now = rw (c.items-members.ensures, c.items.ensures) at c.in_default.ensures in
    let first : IsFirstWithout (DoesApply c.args.env.now) c.args.units.now c.in-Some-not_applying.unit.now = rw c.items-members.ensures at c.in-Some-not_applying.ensures in
    judged_good c.args.units.now c.args.roots.now c.args.optional.now c.args.env.now (judgements.Applies c.in_ok-copy-2.field-0) (roots, c.in-Some-not_applying.unit.now, sym c.in_ok-copy-2.ensures, first)

pub returns-in-Some-not_applying-clause-first : goal.returns-in-Some-not_applying-clause-first
returns-in-Some-not_applying-clause-first c =
    let roots : HaveRoots c.args.units.now c.args.roots.now = rw (c.items-members.ensures, c.items.ensures) at c.in_default.ensures in
    let first : IsFirstWithout (DoesApply c.args.env.now) c.args.units.now c.in-Some-not_applying.unit.now = rw c.items-members.ensures at c.in-Some-not_applying.ensures in
    (roots, c.in-Some-not_applying.unit.now, sym c.in_ok-copy-2.ensures, first)

pub judge_together-requires-clause-rooted : goal.judge_together-requires-clause-rooted
judge_together-requires-clause-rooted c =
    let roots : HaveRoots c.args.units.now c.args.roots.now = rw (c.items-members.ensures, c.items.ensures) at c.in_default.ensures in
    rw (c.in_ok-index.ensures, c.items-members.ensures, c.items-2.ensures) roots

pub returns-clause-first : goal.returns-clause-first
returns-clause-first c = rw (c.in_ok-index.ensures, c.items-members.ensures, c.items-2.ensures, c.items-3.ensures) at c.judge_together.ensures

pub returns-clause-good : goal.returns-clause-good
returns-clause-good c =
    let judged : IfOk c.judge_together.result (IsJudged c.args.units.now c.args.roots.now c.args.optional.now c.args.env.now) =
    rw (c.in_ok-index.ensures, c.items-members.ensures, c.items-2.ensures, c.items-3.ensures) at c.judge_together.ensures in
    IfOk-weaker _ _ _ (judged_good c.args.units.now c.args.roots.now c.args.optional.now c.args.env.now) judged
