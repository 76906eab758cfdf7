use Rattle.std.proofs.Common.{◌≡◌}
use Rattle.folder_core.specs.Folder.{Map}
use Rattle.backup_store.specs.Filing.{entry_file}
use Rattle.backup_store.specs.Places.{entry_path}
use Rattle.backup_store.specs.Turns.{set_in_turn}
use Rattle.backup_store.proofs.Filings.{still_only, then_only, looked_sets, touch_node}
use Rattle.backup_store.proofs.Moments.{ok_map}
use Rattle.backup_store.proofs.PuttingLemmas.{time_then}
use Rattle.backup_store.proofs.filing.file_entry.Goals as goal

pub returns-in_err-touch-clause-only : goal.returns-in_err-touch-clause-only
returns-in_err-touch-clause-only g c = still_only (λ place. place ≡ entry_path c.args.number.0) (g.F.Folder.told c.args.folder.now) (g.F.Folder.told c.prepare.new.folder) c.prepare.ensures.still

pub returns-clause-sets : goal.returns-clause-sets
returns-clause-sets g c =
    let told = g.F.Folder.told in
    let touch = c.in_ok-touch.touch in
    ok_map c.put.result
    (λ sets. looked_sets (entry_path c.args.number.0) touch.path touch.node (λ (m : Map). entry_file c.args.path.now (set_in_turn c.args.earlier.now m c.args.path.now)) (told c.args.folder.now) (told c.prepare.new.folder) (told c.put.new.folder) c.in_ok-touch.ensures.place
    (touch_node c.args.number.0 c.args.path.now touch c.args.earlier.now (told c.args.folder.now) c.in_ok-touch.ensures.touch) c.prepare.ensures.still sets)
    c.put.ensures.sets

pub returns-clause-only : goal.returns-clause-only
returns-clause-only g c =
    let told = g.F.Folder.told in
    then_only c.in_ok-touch.touch.path (entry_path c.args.number.0) (told c.args.folder.now) (told c.prepare.new.folder) (told c.put.new.folder) c.in_ok-touch.ensures.place c.prepare.ensures.still c.put.ensures.only

pub returns-clause-time : goal.returns-clause-time
returns-clause-time g c =
    let told = g.F.Folder.told in
    let left = g.F.Folder.left_since in
    time_then (told c.args.folder.now) (told c.prepare.new.folder) (told c.put.new.folder) (left c.args.folder.now) (left c.prepare.new.folder) (left c.put.new.folder) (g.met.F.Folder.counts_now c.args.folder.now) c.prepare.ensures.still c.prepare.ensures.time c.put.ensures.time
