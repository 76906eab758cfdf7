use Rattle.std.proofs.Common.{◌≡◌, ◌≢◌, length, arith, ap, rules}
use Rattle.folder_core.specs.Step.{OnTold}
use Rattle.install_journal.specs.Restoring.{KeepsTo}
use Rattle.install_journal.specs.declared.plan.OldKind.TheVariants.{Nothing}
use Rattle.install_journal.proofs.Backs.{restores_and_then, damaged_each}
use Rattle.install_journal.proofs.PlanOrder.{IsAt}
use Rattle.install_journal.proofs.PutRuns.{at_item, none_kept, kept_then, set_begun, set_passed, set_has_room, set_undamaged, set_keeps, set_more, set_done, set_underway, bare_underway, never_back, same_error, same_begun, same_kept}
use Rattle.install_journal.proofs.restoring.set_nodes.Goals as goal

pub loop-oldest-init : goal.loop-oldest-init
loop-oldest-init g c =
    let told = g.F.Folder.told in
    record {
      set = set_begun c.args.plan.now (told c.args.folder.now) c.requires;
      keeps = none_kept c.args.plan.now (told c.args.folder.now);
      restores = same_begun told g.F.Folder.left_since c.args.plan.now c.args.folder.now (bare_underway c.args.plan.now (told c.args.folder.now) c.requires) (g.met.F.Folder.image_now c.args.folder.now) (g.met.F.Folder.only_now c.args.folder.now);
      later = omega arith;
    }

pub returns-clause-set : goal.returns-clause-set
returns-clause-set g c =
    let long = ap length c.items-items.ensures in
    set_done c.args.plan.now (g.F.Folder.told c.loop-oldest.folder) c.loop-oldest.oldest-index (omega (arith, long, c.loop-oldest-test.false)) (g.met.F.Folder.image_now c.loop-oldest.folder) c.loop-oldest.invariant.set

pub put_back-requires : goal.put_back-requires
put_back-requires g c =
    let told = g.F.Folder.told in
    let plan = c.args.plan.now in
    let mid = c.loop-oldest.folder in
    let place = c.loop-oldest.oldest-index in
    let at : IsAt plan.oldest place c.oldest-item.result = at_item plan.oldest c.items-items.result.now place c.oldest-item.result c.items-items.ensures c.loop-oldest-test.true c.oldest-item.is in
    let some : c.oldest-item.result.kind ≢ Nothing = search rules in
    set_has_room plan place c.oldest-item.result at (told mid) (g.met.F.Folder.image_now mid) c.loop-oldest.invariant.set some

pub loop-oldest-preserved-then-eq : goal.loop-oldest-preserved-then-eq
loop-oldest-preserved-then-eq g c =
    let told = g.F.Folder.told in
    let plan = c.args.plan.now in
    let mid = c.loop-oldest.folder in
    let inv = c.loop-oldest.invariant in
    let place = c.loop-oldest.oldest-index in
    let at : IsAt plan.oldest place c.oldest-item.result = at_item plan.oldest c.items-items.result.now place c.oldest-item.result c.items-items.ensures c.loop-oldest-test.true c.oldest-item.is in
    let nothing : c.oldest-item.result.kind ≡ Nothing = search rules in
    record {
      set = set_passed plan place c.oldest-item.result at (told mid) (g.met.F.Folder.image_now mid) inv.set nothing;
      keeps = inv.keeps;
      restores = inv.restores;
      later = inv.later;
    }

pub loop-oldest-preserved : goal.loop-oldest-preserved
loop-oldest-preserved g c =
    let told = g.F.Folder.told in
    let left = g.F.Folder.left_since in
    let plan = c.args.plan.now in
    let mid = c.loop-oldest.folder in
    let new = c.put_back.new.folder in
    let inv = c.loop-oldest.invariant in
    let cause = c.put_back.ensures.cause in
    let place = c.loop-oldest.oldest-index in
    let at : IsAt plan.oldest place c.oldest-item.result = at_item plan.oldest c.items-items.result.now place c.oldest-item.result c.items-items.ensures c.loop-oldest-test.true c.oldest-item.is in
    let keeps = set_keeps plan place c.oldest-item.result at (told mid) (g.met.F.Folder.image_now mid) inv.set (told new) c.put_back.ensures.crash in
    record {
      set = set_more plan place c.oldest-item.result at (told mid) (g.met.F.Folder.image_now mid) inv.set (told new) c.put_back.ensures.crash c.in_ok-put_back.ensures.puts;
      keeps = kept_then plan (told c.args.folder.now) (told mid) (told new) inv.keeps keeps;
      restores = restores_and_then told left c.args.folder.now mid new (g.met.F.Folder.image_now mid) (g.met.F.Folder.counts_now mid) inv.restores (KeepsTo plan) keeps
          (same_kept told left plan mid (set_underway plan (told mid) place inv.set) (g.met.F.Folder.image_now mid) (g.met.F.Folder.only_now mid) new keeps c.put_back.ensures.time);
      later = omega (arith, inv.later, cause.later);
    }

pub returns-in_err-put_back-clause-keeps : goal.returns-in_err-put_back-clause-keeps
returns-in_err-put_back-clause-keeps g c =
    let told = g.F.Folder.told in
    let plan = c.args.plan.now in
    let mid = c.loop-oldest.folder in
    let new = c.put_back.new.folder in
    let inv = c.loop-oldest.invariant in
    let place = c.loop-oldest.oldest-index in
    let at : IsAt plan.oldest place c.oldest-item.result = at_item plan.oldest c.items-items.result.now place c.oldest-item.result c.items-items.ensures c.loop-oldest-test.true c.oldest-item.is in
    kept_then plan (told c.args.folder.now) (told mid) (told new) inv.keeps
    (set_keeps plan place c.oldest-item.result at (told mid) (g.met.F.Folder.image_now mid) inv.set (told new) c.put_back.ensures.crash)

pub returns-in_err-put_back-clause-restores : goal.returns-in_err-put_back-clause-restores
returns-in_err-put_back-clause-restores g c =
    let told = g.F.Folder.told in
    let left = g.F.Folder.left_since in
    let plan = c.args.plan.now in
    let mid = c.loop-oldest.folder in
    let new = c.put_back.new.folder in
    let inv = c.loop-oldest.invariant in
    let place = c.loop-oldest.oldest-index in
    let at : IsAt plan.oldest place c.oldest-item.result = at_item plan.oldest c.items-items.result.now place c.oldest-item.result c.items-items.ensures c.loop-oldest-test.true c.oldest-item.is in
    let keeps = set_keeps plan place c.oldest-item.result at (told mid) (g.met.F.Folder.image_now mid) inv.set (told new) c.put_back.ensures.crash in
    restores_and_then told left c.args.folder.now mid new (g.met.F.Folder.image_now mid) (g.met.F.Folder.counts_now mid) inv.restores (KeepsTo plan) keeps
    (same_kept told left plan mid (set_underway plan (told mid) place inv.set) (g.met.F.Folder.image_now mid) (g.met.F.Folder.only_now mid) new keeps c.put_back.ensures.time)

pub returns-in_err-put_back-clause-never_damaged : goal.returns-in_err-put_back-clause-never_damaged
returns-in_err-put_back-clause-never_damaged g c =
    let told = g.F.Folder.told in
    let plan = c.args.plan.now in
    let mid = c.loop-oldest.folder in
    let inv = c.loop-oldest.invariant in
    let place = c.loop-oldest.oldest-index in
    let at : IsAt plan.oldest place c.oldest-item.result = at_item plan.oldest c.items-items.result.now place c.oldest-item.result c.items-items.ensures c.loop-oldest-test.true c.oldest-item.is in
    same_error c.from_residual.result c.in_err-put_back.field-0.0 _ c.from_residual.ensures.1
    (damaged_each c.in_err-put_back.field-0.0 _ (λ at. OnTold (told c.args.folder.now) (λ s. ⊥))
    (λ named damaged. never_back (told c.args.folder.now) (told mid) (KeepsTo plan) inv.keeps
    (set_undamaged plan place c.oldest-item.result at (told mid) (g.met.F.Folder.image_now mid) inv.set damaged))
    c.in_err-put_back.ensures.damaged)
