use Rattle.backup_store.specs.KeepingAll.{IsMarkAmong}
use Rattle.backup_store.proofs.Filings.{completed_told, leaves_narrow, only_unsynced}
use Rattle.backup_store.proofs.Moments.{err_map, ok_map}
use Rattle.backup_store.proofs.keeping_all.mark_all.Goals as goal

pub returns-clause-marked : goal.returns-clause-marked
returns-clause-marked g c =
    let told = g.F.Folder.told in
    ok_map c.sync_files.result
    (λ sync. completed_told c.args.first.0 c.args.count (told c.args.folder.now) (told c.file_marks.new.folder) (told c.sync_files.new.folder) c.in_ok-file_marks.ensures.marks c.file_marks.ensures.only sync)
    c.sync_files.ensures.ok

pub returns-clause-only : goal.returns-clause-only
returns-clause-only g c =
    let told = g.F.Folder.told in
    err_map c.sync_files.result
    (λ still. only_unsynced (IsMarkAmong c.args.first.0 c.args.count) (told c.args.folder.now) (told c.file_marks.new.folder) (told c.sync_files.new.folder) c.file_marks.ensures.only still)
    c.sync_files.ensures.err

pub returns-clause-leaves : goal.returns-clause-leaves
returns-clause-leaves g c =
    let told = g.F.Folder.told in
    let left = g.F.Folder.left_since in
    leaves_narrow (IsMarkAmong c.args.first.0 c.args.count) (told c.args.folder.now) (told c.file_marks.new.folder) (told c.sync_files.new.folder) (left c.args.folder.now) (left c.file_marks.new.folder) (left c.sync_files.new.folder)
    c.file_marks.ensures.only c.sync_files.ensures.crash c.sync_files.ensures.time c.file_marks.ensures.leaves
