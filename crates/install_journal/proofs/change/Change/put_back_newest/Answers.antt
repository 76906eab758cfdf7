use Rattle.install_journal.proofs.Backs.{damaged_each, newest_room, newest_undamaged, newest_done, newest_failed, newest_restores, newest_tells}
use Rattle.install_journal.proofs.change.Change.put_back_newest.Goals as goal

pub put_back-requires : goal.put_back-requires
put_back-requires g c =
    newest_room g.F.Folder.told g.F.Folder.left_since c.args.self.now c.requires.some c.args.folder.now c.requires.«open» (g.met.F.Folder.image_now c.args.folder.now) (g.met.F.Folder.only_now c.args.folder.now)

pub returns-in-Ok-clause-tells : goal.returns-in-Ok-clause-tells
returns-in-Ok-clause-tells g c =
    newest_tells g.F.Folder.told g.F.Folder.left_since c.args.self.now c.requires.some c.args.folder.now c.requires.«open» (g.met.F.Folder.image_now c.args.folder.now) (g.met.F.Folder.only_now c.args.folder.now)
    c.put_back.new.folder c.put_back.ensures.crash

pub returns-in-Ok-clause-restores : goal.returns-in-Ok-clause-restores
returns-in-Ok-clause-restores g c =
    newest_restores g.F.Folder.told g.F.Folder.left_since c.args.self.now c.requires.some c.args.folder.now c.requires.«open» (g.met.F.Folder.image_now c.args.folder.now) (g.met.F.Folder.only_now c.args.folder.now)
    c.put_back.new.folder c.put_back.ensures.crash c.put_back.ensures.time

pub returns-in-Err-clause-tells : goal.returns-in-Err-clause-tells
returns-in-Err-clause-tells g c =
    newest_tells g.F.Folder.told g.F.Folder.left_since c.args.self.now c.requires.some c.args.folder.now c.requires.«open» (g.met.F.Folder.image_now c.args.folder.now) (g.met.F.Folder.only_now c.args.folder.now)
    c.put_back.new.folder c.put_back.ensures.crash

pub returns-in-Err-clause-restores : goal.returns-in-Err-clause-restores
returns-in-Err-clause-restores g c =
    newest_restores g.F.Folder.told g.F.Folder.left_since c.args.self.now c.requires.some c.args.folder.now c.requires.«open» (g.met.F.Folder.image_now c.args.folder.now) (g.met.F.Folder.only_now c.args.folder.now)
    c.put_back.new.folder c.put_back.ensures.crash c.put_back.ensures.time

pub returns-in-Ok-clause-open : goal.returns-in-Ok-clause-open
returns-in-Ok-clause-open g c =
    newest_done g.F.Folder.told g.F.Folder.left_since c.args.self.now c.requires.some c.args.folder.now c.requires.«open» (g.met.F.Folder.image_now c.args.folder.now) (g.met.F.Folder.only_now c.args.folder.now)
    c.put_back.new.folder c.put_back.ensures.crash c.in-Ok.ensures.puts

pub returns-in-Err-clause-open : goal.returns-in-Err-clause-open
returns-in-Err-clause-open g c =
    newest_failed g.F.Folder.told g.F.Folder.left_since c.args.self.now c.requires.some c.args.folder.now c.requires.«open» (g.met.F.Folder.image_now c.args.folder.now) (g.met.F.Folder.only_now c.args.folder.now)
    c.put_back.new.folder c.put_back.ensures.crash c.put_back.ensures.elsewhere

pub returns-in-Err-clause-never_damaged : goal.returns-in-Err-clause-never_damaged
returns-in-Err-clause-never_damaged g c =
    damaged_each c.in-Err.fault _ _ (λ at damaged. newest_undamaged g.F.Folder.told g.F.Folder.left_since c.args.self.now c.requires.some c.args.folder.now c.requires.«open» (g.met.F.Folder.image_now c.args.folder.now) (g.met.F.Folder.only_now c.args.folder.now) damaged) c.in-Err.ensures.damaged
