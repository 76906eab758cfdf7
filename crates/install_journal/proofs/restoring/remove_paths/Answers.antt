use Rattle.std.proofs.Common.{◌≡◌, ◌+◌, ◌-◌, ℕ, length, get_or, arith, ap, subst}
use Rattle.folder_core.specs.Step.{OnTold}
use Rattle.install_journal.specs.Restoring.{KeepsTo}
use Rattle.install_journal.specs.declared.plan.Oldest.{Oldest}
use Rattle.install_journal.proofs.Backs.{restores_and_then}
use Rattle.install_journal.proofs.PlanOrder.{IsAt}
use Rattle.install_journal.proofs.PutRuns.{at_slot, none_kept, kept_then, gone_begun, gone_not_root, gone_alone, gone_keeps, gone_more, gone_done, same_begun, same_kept, gone_underway}
use Rattle.install_journal.proofs.PutSteps.{AreGone}
use Rattle.install_journal.proofs.restoring.remove_paths.Goals as goal

pub loop-place-init : goal.loop-place-init
loop-place-init g c =
    let told = g.F.Folder.told in
    let long = ap length c.items-oldest.ensures in
    record {
      gone = gone_begun c.args.plan.now (told c.args.folder.now) (length c.items-oldest.result.now) (omega (arith, long)) c.requires;
      keeps = none_kept c.args.plan.now (told c.args.folder.now);
      restores = same_begun told g.F.Folder.left_since c.args.plan.now c.args.folder.now c.requires (g.met.F.Folder.image_now c.args.folder.now) (g.met.F.Folder.only_now c.args.folder.now);
      later = omega arith;
    }

pub remove-requires-clause-not_root : goal.remove-requires-clause-not_root
remove-requires-clause-not_root g c =
    let told = g.F.Folder.told in
    let plan = c.args.plan.now in
    let place = c.loop-place.place - 1 in
    let oldest : Oldest = get_or c.items-oldest.result.now (c.loop-place.place - 1) c.index-oldest-place.result in
    let at : IsAt plan.oldest place oldest = at_slot plan.oldest c.items-oldest.result.now place c.index-oldest-place.result c.items-oldest.ensures (omega (arith, c.loop-place.auto.place, c.loop-place-test.true)) in
    let next : c.loop-place.place ≡ place + 1 = omega (arith, c.loop-place-test.true) in
    gone_not_root plan place oldest at (told c.loop-place.folder) (g.met.F.Folder.image_now c.loop-place.folder)
    (subst (λ (n : ℕ). OnTold (told c.loop-place.folder) (AreGone plan n)) next c.loop-place.invariant.gone)

pub remove-requires-clause-alone : goal.remove-requires-clause-alone
remove-requires-clause-alone g c =
    let told = g.F.Folder.told in
    let plan = c.args.plan.now in
    let place = c.loop-place.place - 1 in
    let oldest : Oldest = get_or c.items-oldest.result.now (c.loop-place.place - 1) c.index-oldest-place.result in
    let at : IsAt plan.oldest place oldest = at_slot plan.oldest c.items-oldest.result.now place c.index-oldest-place.result c.items-oldest.ensures (omega (arith, c.loop-place.auto.place, c.loop-place-test.true)) in
    let next : c.loop-place.place ≡ place + 1 = omega (arith, c.loop-place-test.true) in
    gone_alone plan place oldest at (told c.loop-place.folder) (g.met.F.Folder.image_now c.loop-place.folder)
    (subst (λ (n : ℕ). OnTold (told c.loop-place.folder) (AreGone plan n)) next c.loop-place.invariant.gone)

pub loop-place-preserved : goal.loop-place-preserved
loop-place-preserved g c =
    let told = g.F.Folder.told in
    let left = g.F.Folder.left_since in
    let plan = c.args.plan.now in
    let inv = c.loop-place.invariant in
    let mid = c.loop-place.folder in
    let new = c.remove.new.folder in
    let cause = c.remove.ensures.cause in
    let place = c.loop-place.place - 1 in
    let oldest : Oldest = get_or c.items-oldest.result.now (c.loop-place.place - 1) c.index-oldest-place.result in
    let at : IsAt plan.oldest place oldest = at_slot plan.oldest c.items-oldest.result.now place c.index-oldest-place.result c.items-oldest.ensures (omega (arith, c.loop-place.auto.place, c.loop-place-test.true)) in
    let next : c.loop-place.place ≡ place + 1 = omega (arith, c.loop-place-test.true) in
    let gone = subst (λ (n : ℕ). OnTold (told c.loop-place.folder) (AreGone plan n)) next c.loop-place.invariant.gone in
    let keeps = gone_keeps plan place oldest at (told mid) (g.met.F.Folder.image_now mid) gone (told new) c.remove.ensures.crash in
    record {
      gone = gone_more plan place oldest at (told mid) (g.met.F.Folder.image_now mid) gone (told new) c.remove.ensures.crash c.remove.ensures.elsewhere c.in_ok-remove.ensures.removed;
      keeps = kept_then plan (told c.args.folder.now) (told mid) (told new) inv.keeps keeps;
      restores = restores_and_then told left c.args.folder.now mid new (g.met.F.Folder.image_now mid) (g.met.F.Folder.counts_now mid) inv.restores (KeepsTo plan) keeps
          (same_kept told left plan mid (gone_underway plan (told mid) (place + 1) gone) (g.met.F.Folder.image_now mid) (g.met.F.Folder.only_now mid) new keeps c.remove.ensures.time);
      later = omega (arith, inv.later, cause.later);
    }

pub returns-in_err-remove-clause-keeps : goal.returns-in_err-remove-clause-keeps
returns-in_err-remove-clause-keeps g c =
    let told = g.F.Folder.told in
    let plan = c.args.plan.now in
    let inv = c.loop-place.invariant in
    let mid = c.loop-place.folder in
    let new = c.remove.new.folder in
    let place = c.loop-place.place - 1 in
    let oldest : Oldest = get_or c.items-oldest.result.now (c.loop-place.place - 1) c.index-oldest-place.result in
    let at : IsAt plan.oldest place oldest = at_slot plan.oldest c.items-oldest.result.now place c.index-oldest-place.result c.items-oldest.ensures (omega (arith, c.loop-place.auto.place, c.loop-place-test.true)) in
    let next : c.loop-place.place ≡ place + 1 = omega (arith, c.loop-place-test.true) in
    let gone = subst (λ (n : ℕ). OnTold (told c.loop-place.folder) (AreGone plan n)) next c.loop-place.invariant.gone in
    kept_then plan (told c.args.folder.now) (told mid) (told new) inv.keeps
    (gone_keeps plan place oldest at (told mid) (g.met.F.Folder.image_now mid) gone (told new) c.remove.ensures.crash)

pub returns-in_err-remove-clause-restores : goal.returns-in_err-remove-clause-restores
returns-in_err-remove-clause-restores g c =
    let told = g.F.Folder.told in
    let left = g.F.Folder.left_since in
    let plan = c.args.plan.now in
    let inv = c.loop-place.invariant in
    let mid = c.loop-place.folder in
    let new = c.remove.new.folder in
    let place = c.loop-place.place - 1 in
    let oldest : Oldest = get_or c.items-oldest.result.now (c.loop-place.place - 1) c.index-oldest-place.result in
    let at : IsAt plan.oldest place oldest = at_slot plan.oldest c.items-oldest.result.now place c.index-oldest-place.result c.items-oldest.ensures (omega (arith, c.loop-place.auto.place, c.loop-place-test.true)) in
    let next : c.loop-place.place ≡ place + 1 = omega (arith, c.loop-place-test.true) in
    let gone = subst (λ (n : ℕ). OnTold (told c.loop-place.folder) (AreGone plan n)) next c.loop-place.invariant.gone in
    let keeps = gone_keeps plan place oldest at (told mid) (g.met.F.Folder.image_now mid) gone (told new) c.remove.ensures.crash in
    restores_and_then told left c.args.folder.now mid new (g.met.F.Folder.image_now mid) (g.met.F.Folder.counts_now mid) inv.restores (KeepsTo plan) keeps
    (same_kept told left plan mid (gone_underway plan (told mid) (place + 1) gone) (g.met.F.Folder.image_now mid) (g.met.F.Folder.only_now mid) new keeps c.remove.ensures.time)

pub returns-clause-bare : goal.returns-clause-bare
returns-clause-bare g c =
    gone_done c.args.plan.now (g.F.Folder.told c.loop-place.folder) c.loop-place.place (omega (arith, c.loop-place-test.false)) c.loop-place.invariant.gone
