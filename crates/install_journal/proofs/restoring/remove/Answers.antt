use Rattle.backup_store.proofs.PuttingLemmas.{time_then}
use Rattle.install_journal.proofs.Beginnings.{ok_each}
use Rattle.install_journal.proofs.Removings.{still_of, set_touches, set_removes}
use Rattle.install_journal.proofs.restoring.remove.Goals as goal

pub returns-clause-removed : goal.returns-clause-removed
returns-clause-removed g c =
    ok_each c.set.result _ _ (λ set. set_removes (g.F.Folder.told c.look.new.self) (g.F.Folder.told c.set.new.self) c.args.path.now set) c.set.ensures.ok

pub returns-clause-crash : goal.returns-clause-crash
returns-clause-crash g c =
    let told = g.F.Folder.told in
    set_touches (told c.args.folder.now) (told c.look.new.self) (told c.set.new.self) c.args.path.now
    (still_of (told c.args.folder.now) (told c.look.new.self) c.look.ensures.stays c.look.ensures.unsynced c.look.ensures.untouched) c.set.ensures.crash

pub returns-clause-time : goal.returns-clause-time
returns-clause-time g c =
    let told = g.F.Folder.told in
    let left = g.F.Folder.left_since in
    time_then (told c.args.folder.now) (told c.look.new.self) (told c.set.new.self) (left c.args.folder.now) (left c.look.new.self) (left c.set.new.self)
    (g.met.F.Folder.counts_now c.args.folder.now)
    (still_of (told c.args.folder.now) (told c.look.new.self) c.look.ensures.stays c.look.ensures.unsynced c.look.ensures.untouched)
    c.look.ensures.time c.set.ensures.time
