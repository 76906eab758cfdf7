use Rattle.install_journal.proofs.Opens.{open_spoiled, looks_of, looked_open, looked_restores}
use Rattle.install_journal.proofs.Runs.{on_each}
use Rattle.install_journal.specs.Open.{IsOpen, spoiled}
use Rattle.install_journal.proofs.change.Change.kids.Goals as goal

pub returns-in-Ok-clause-open : goal.returns-in-Ok-clause-open
returns-in-Ok-clause-open g c =
    let e = c.kids.ensures in
    looked_open g.F.Folder.told g.F.Folder.left_since c.args.self.now c.args.folder.now c.kids.new.self c.requires
    (looks_of g.F.Folder.told g.F.Folder.left_since c.args.folder.now c.kids.new.self e.stays e.unsynced e.untouched e.time)

pub returns-in-Err-clause-open : goal.returns-in-Err-clause-open
returns-in-Err-clause-open g c =
    let e = c.kids.ensures in
    on_each (g.F.Folder.told c.kids.new.self) (IsOpen c.args.self.now) (IsOpen (spoiled c.args.self.now)) (λ s. open_spoiled c.args.self.now s)
    (looked_open g.F.Folder.told g.F.Folder.left_since c.args.self.now c.args.folder.now c.kids.new.self c.requires
    (looks_of g.F.Folder.told g.F.Folder.left_since c.args.folder.now c.kids.new.self e.stays e.unsynced e.untouched e.time))

pub returns-in-Ok-clause-restores : goal.returns-in-Ok-clause-restores
returns-in-Ok-clause-restores g c =
    let e = c.kids.ensures in
    looked_restores g.F.Folder.told g.F.Folder.left_since c.args.self.now c.args.folder.now c.kids.new.self
    (g.met.F.Folder.image_now c.args.folder.now) (g.met.F.Folder.only_now c.args.folder.now) c.requires
    (looks_of g.F.Folder.told g.F.Folder.left_since c.args.folder.now c.kids.new.self e.stays e.unsynced e.untouched e.time)

pub returns-in-Err-clause-restores : goal.returns-in-Err-clause-restores
returns-in-Err-clause-restores g c =
    let e = c.kids.ensures in
    looked_restores g.F.Folder.told g.F.Folder.left_since c.args.self.now c.args.folder.now c.kids.new.self
    (g.met.F.Folder.image_now c.args.folder.now) (g.met.F.Folder.only_now c.args.folder.now) c.requires
    (looks_of g.F.Folder.told g.F.Folder.left_since c.args.folder.now c.kids.new.self e.stays e.unsynced e.untouched e.time)
