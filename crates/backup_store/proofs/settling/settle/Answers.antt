use Rattle.backup_store.proofs.SettlingLemmas.{on_err, unsettled, settling_time}
use Rattle.backup_store.proofs.settling.settle.Goals as goal

pub returns-in_err-sync-clause-err : goal.returns-in_err-sync-clause-err
returns-in_err-sync-clause-err g c =
    let told = g.F.Folder.told in
    on_err c.from_residual-in_err-sync.result
    (unsettled c.args.touch.now (told c.args.folder.now) (told c.set.new.self) (told c.sync.new.self) c.set.ensures.elsewhere c.set.ensures.crash c.sync.ensures.stays c.in_err-sync.ensures.failed c.in_err-sync.ensures.untouched)

pub returns-in_err-sync-clause-time : goal.returns-in_err-sync-clause-time
returns-in_err-sync-clause-time g c =
    let told = g.F.Folder.told in
    let left = g.F.Folder.left_since in
    settling_time c.args.touch.now.path (told c.args.folder.now) (told c.set.new.self) (told c.sync.new.self) (left c.args.folder.now) (left c.set.new.self) (left c.sync.new.self) c.set.ensures.crash c.set.ensures.time c.sync.ensures.time

pub returns-clause-time : goal.returns-clause-time
returns-clause-time g c =
    let told = g.F.Folder.told in
    let left = g.F.Folder.left_since in
    settling_time c.args.touch.now.path (told c.args.folder.now) (told c.set.new.self) (told c.sync.new.self) (left c.args.folder.now) (left c.set.new.self) (left c.sync.new.self) c.set.ensures.crash c.set.ensures.time c.sync.ensures.time
