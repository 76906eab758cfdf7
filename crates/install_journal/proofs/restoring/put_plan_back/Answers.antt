use Rattle.std.specs.Bool.{⊤}
use Rattle.folder_core.specs.Folder.{SameBut}
use Rattle.backup_store.specs.Places.{gate_path}
use Rattle.install_journal.specs.Restoring.{KeepsTo}
use Rattle.install_journal.proofs.Backs.{restores_and_then}
use Rattle.install_journal.proofs.PutEnds.{underway_then, failed_keeps, opens_then, all_back, unsynced_then, end_tells, end_same}
use Rattle.install_journal.proofs.PutRuns.{kept_then, same_kept}
use Rattle.install_journal.proofs.restoring.put_plan_back.Goals as goal

pub returns-in_err-set_nodes-clause-restores : goal.returns-in_err-set_nodes-clause-restores
returns-in_err-set_nodes-clause-restores g c =
    restores_and_then g.F.Folder.told g.F.Folder.left_since c.args.folder.now c.remove_paths.new.folder c.set_nodes.new.folder
    (g.met.F.Folder.image_now c.remove_paths.new.folder) (g.met.F.Folder.counts_now c.remove_paths.new.folder)
    c.remove_paths.ensures.restores (KeepsTo c.args.plan.now) c.set_nodes.ensures.keeps c.set_nodes.ensures.restores

pub returns-in_err-sync-clause-restores : goal.returns-in_err-sync-clause-restores
returns-in_err-sync-clause-restores g c =
    let told = g.F.Folder.told in
    let left = g.F.Folder.left_since in
    let plan = c.args.plan.now in
    let old = c.args.folder.now in
    let bare = c.remove_paths.new.folder in
    let set = c.set_nodes.new.folder in
    let new = c.sync.new.self in
    let underway = underway_then plan (told old) (told set) c.requires.underway (kept_then plan (told old) (told bare) (told set) c.remove_paths.ensures.keeps c.set_nodes.ensures.keeps) in
    let keeps = failed_keeps plan (told set) (told new) c.in_err-sync.ensures.failed c.in_err-sync.ensures.untouched in
    restores_and_then told left old set new (g.met.F.Folder.image_now set) (g.met.F.Folder.counts_now set)
    (restores_and_then told left old bare set (g.met.F.Folder.image_now bare) (g.met.F.Folder.counts_now bare) c.remove_paths.ensures.restores (KeepsTo plan) c.set_nodes.ensures.keeps c.set_nodes.ensures.restores)
    (KeepsTo plan) keeps
    (same_kept told left plan set underway (g.met.F.Folder.image_now set) (g.met.F.Folder.only_now set) new keeps c.sync.ensures.time)

pub close-requires-clause-open : goal.close-requires-clause-open
close-requires-clause-open g c =
    opens_then c.args.plan.now (g.F.Folder.told c.set_nodes.new.folder) (g.F.Folder.told c.sync.new.self) c.in_ok-set_nodes.ensures.set (g.met.F.Folder.image_now c.set_nodes.new.folder) c.sync.ensures.stays

pub returns-in_err-close-clause-restores : goal.returns-in_err-close-clause-restores
returns-in_err-close-clause-restores g c =
    let told = g.F.Folder.told in
    let left = g.F.Folder.left_since in
    let plan = c.args.plan.now in
    let old = c.args.folder.now in
    let bare = c.remove_paths.new.folder in
    let set = c.set_nodes.new.folder in
    let mid = c.sync.new.self in
    let new = c.close.new.folder in
    restores_and_then told left old set new (g.met.F.Folder.image_now set) (g.met.F.Folder.counts_now set)
    (restores_and_then told left old bare set (g.met.F.Folder.image_now bare) (g.met.F.Folder.counts_now bare) c.remove_paths.ensures.restores (KeepsTo plan) c.set_nodes.ensures.keeps c.set_nodes.ensures.restores)
    (λ s t. ⊤) (end_tells (told set) (told mid) (told new) c.sync.ensures.stays (λ s t. SameBut gate_path s.now t.now) c.close.ensures.elsewhere)
    (end_same told left plan set c.in_ok-set_nodes.ensures.set (g.met.F.Folder.image_now set) (g.met.F.Folder.only_now set) mid new c.sync.ensures.stays c.sync.ensures.crash c.sync.ensures.time
    (λ s t. SameBut gate_path s.now t.now) c.close.ensures.elsewhere c.close.ensures.leaves)

pub returns-clause-restores : goal.returns-clause-restores
returns-clause-restores g c =
    let told = g.F.Folder.told in
    let left = g.F.Folder.left_since in
    let plan = c.args.plan.now in
    let old = c.args.folder.now in
    let bare = c.remove_paths.new.folder in
    let set = c.set_nodes.new.folder in
    let mid = c.sync.new.self in
    let new = c.close.new.folder in
    restores_and_then told left old set new (g.met.F.Folder.image_now set) (g.met.F.Folder.counts_now set)
    (restores_and_then told left old bare set (g.met.F.Folder.image_now bare) (g.met.F.Folder.counts_now bare) c.remove_paths.ensures.restores (KeepsTo plan) c.set_nodes.ensures.keeps c.set_nodes.ensures.restores)
    (λ s t. ⊤) (end_tells (told set) (told mid) (told new) c.sync.ensures.stays (λ s t. SameBut gate_path s.now t.now) c.close.ensures.elsewhere)
    (end_same told left plan set c.in_ok-set_nodes.ensures.set (g.met.F.Folder.image_now set) (g.met.F.Folder.only_now set) mid new c.sync.ensures.stays c.sync.ensures.crash c.sync.ensures.time
    (λ s t. SameBut gate_path s.now t.now) c.close.ensures.elsewhere c.close.ensures.leaves)

pub returns-clause-restored : goal.returns-clause-restored
returns-clause-restored g c =
    let told = g.F.Folder.told in
    all_back c.args.plan.now (told c.args.folder.now) (told c.set_nodes.new.folder) (told c.sync.new.self) (told c.close.new.folder)
    (unsynced_then c.args.plan.now (told c.args.folder.now) (told c.remove_paths.new.folder) (told c.set_nodes.new.folder) c.remove_paths.ensures.keeps c.set_nodes.ensures.keeps)
    c.in_ok-set_nodes.ensures.set c.sync.ensures.stays c.in_ok-close.ensures.closed
