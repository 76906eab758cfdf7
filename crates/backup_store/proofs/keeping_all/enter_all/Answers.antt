use Rattle.std.proofs.Common.{length}
use Rattle.backup_store.specs.KeepingAll.{IsFileAmong}
use Rattle.backup_store.proofs.Filings.{entered_told, leaves_narrow, only_unsynced}
use Rattle.backup_store.proofs.Moments.{err_map, ok_map}
use Rattle.backup_store.proofs.keeping_all.enter_all.Goals as goal

pub returns-clause-entered : goal.returns-clause-entered
returns-clause-entered g c =
    let told = g.F.Folder.told in
    ok_map c.sync_files.result
    (λ sync. entered_told c.args.first.0 c.args.touches.now (told c.args.folder.now) (told c.file_entries.new.folder) (told c.sync_files.new.folder) c.in_ok-file_entries.ensures.files c.file_entries.ensures.only sync)
    c.sync_files.ensures.ok

pub returns-clause-only : goal.returns-clause-only
returns-clause-only g c =
    let told = g.F.Folder.told in
    err_map c.sync_files.result
    (λ still. only_unsynced (IsFileAmong c.args.first.0 (length c.args.touches.now)) (told c.args.folder.now) (told c.file_entries.new.folder) (told c.sync_files.new.folder) c.file_entries.ensures.only still)
    c.sync_files.ensures.err

pub returns-clause-leaves : goal.returns-clause-leaves
returns-clause-leaves g c =
    let told = g.F.Folder.told in
    let left = g.F.Folder.left_since in
    leaves_narrow (IsFileAmong c.args.first.0 (length c.args.touches.now)) (told c.args.folder.now) (told c.file_entries.new.folder) (told c.sync_files.new.folder) (left c.args.folder.now) (left c.file_entries.new.folder) (left c.sync_files.new.folder)
    c.file_entries.ensures.only c.sync_files.ensures.crash c.sync_files.ensures.time c.file_entries.ensures.leaves
