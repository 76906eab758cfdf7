use Rattle.std.proofs.Common.{subst, sym}
use Rattle.folder_core.specs.Step.{OnTold}
use Rattle.install_journal.specs.Open.{IsOpen}
use Rattle.install_journal.specs.declared.change.Change.{Change}
use Rattle.install_journal.proofs.TouchingsAll.{all_room, all_failed, all_same, all_restores, all_ahead, all_hold}
use Rattle.install_journal.proofs.change.Change.keep_entries.Goals as goal

pub keep_all-requires-clause-room : goal.keep_all-requires-clause-room
keep_all-requires-clause-room g c =
    all_room g.F.Folder.told g.F.Folder.left_since c.args.self.now c.args.touches.now c.requires.ready.ready c.requires.touches c.requires.few c.args.folder.now c.requires.«open» c.requires.places
    (g.met.F.Folder.image_now c.args.folder.now) (g.met.F.Folder.only_now c.args.folder.now)

pub returns-in-Ok-clause-ahead : goal.returns-in-Ok-clause-ahead
returns-in-Ok-clause-ahead g c =
    all_ahead g.F.Folder.told g.F.Folder.left_since c.args.self.now c.args.touches.now c.requires.ready.ready c.requires.touches c.requires.few c.args.folder.now c.requires.«open» c.requires.places
    (g.met.F.Folder.image_now c.args.folder.now) (g.met.F.Folder.only_now c.args.folder.now) c.keep_all.new.folder c.keep_all.ensures.come c.keep_all.ensures.leaves c.in-Ok.ensures.kept c.in-Ok.ensures.counted (g.met.F.Folder.image_now c.keep_all.new.folder)

pub returns-in-Ok-clause-entries : goal.returns-in-Ok-clause-entries
returns-in-Ok-clause-entries g c =
    all_hold g.F.Folder.told g.F.Folder.left_since c.args.self.now c.args.touches.now c.requires.ready.ready c.requires.touches c.requires.few c.args.folder.now c.requires.«open» c.requires.places
    (g.met.F.Folder.image_now c.args.folder.now) (g.met.F.Folder.only_now c.args.folder.now) c.keep_all.new.folder c.keep_all.ensures.come c.keep_all.ensures.leaves c.in-Ok.ensures.kept c.in-Ok.ensures.counted (g.met.F.Folder.image_now c.keep_all.new.folder)

pub returns-in-Ok-clause-same : goal.returns-in-Ok-clause-same
returns-in-Ok-clause-same g c =
    all_same g.F.Folder.told g.F.Folder.left_since c.args.self.now c.args.touches.now c.requires.ready.ready c.requires.touches c.requires.few c.args.folder.now c.requires.«open» c.requires.places
    (g.met.F.Folder.image_now c.args.folder.now) (g.met.F.Folder.only_now c.args.folder.now) c.keep_all.new.folder c.keep_all.ensures.come c.keep_all.ensures.leaves

pub returns-in-Ok-clause-restores : goal.returns-in-Ok-clause-restores
returns-in-Ok-clause-restores g c =
    all_restores g.F.Folder.told g.F.Folder.left_since c.args.self.now c.args.touches.now c.requires.ready.ready c.requires.touches c.requires.few c.args.folder.now c.requires.«open» c.requires.places
    (g.met.F.Folder.image_now c.args.folder.now) (g.met.F.Folder.only_now c.args.folder.now) c.keep_all.new.folder c.keep_all.ensures.come c.keep_all.ensures.leaves

pub returns-in-Err-NoMemory-clause-same : goal.returns-in-Err-NoMemory-clause-same
returns-in-Err-NoMemory-clause-same g c =
    all_same g.F.Folder.told g.F.Folder.left_since c.args.self.now c.args.touches.now c.requires.ready.ready c.requires.touches c.requires.few c.args.folder.now c.requires.«open» c.requires.places
    (g.met.F.Folder.image_now c.args.folder.now) (g.met.F.Folder.only_now c.args.folder.now) c.keep_all.new.folder c.keep_all.ensures.come c.keep_all.ensures.leaves

pub returns-in-Err-NoMemory-clause-open : goal.returns-in-Err-NoMemory-clause-open
returns-in-Err-NoMemory-clause-open g c =
    subst (λ (x : Change). OnTold (g.F.Folder.told c.keep_all.new.folder) (IsOpen x)) (sym c.refuse.ensures.change) (all_failed g.F.Folder.told g.F.Folder.left_since c.args.self.now c.args.touches.now c.requires.ready.ready c.requires.touches c.requires.few c.args.folder.now c.requires.«open» c.requires.places
    (g.met.F.Folder.image_now c.args.folder.now) (g.met.F.Folder.only_now c.args.folder.now) c.keep_all.new.folder c.keep_all.ensures.come c.keep_all.ensures.leaves)

pub returns-in-Err-NoMemory-clause-restores : goal.returns-in-Err-NoMemory-clause-restores
returns-in-Err-NoMemory-clause-restores g c =
    all_restores g.F.Folder.told g.F.Folder.left_since c.args.self.now c.args.touches.now c.requires.ready.ready c.requires.touches c.requires.few c.args.folder.now c.requires.«open» c.requires.places
    (g.met.F.Folder.image_now c.args.folder.now) (g.met.F.Folder.only_now c.args.folder.now) c.keep_all.new.folder c.keep_all.ensures.come c.keep_all.ensures.leaves

pub returns-in-Err-Failed-clause-same : goal.returns-in-Err-Failed-clause-same
returns-in-Err-Failed-clause-same g c =
    all_same g.F.Folder.told g.F.Folder.left_since c.args.self.now c.args.touches.now c.requires.ready.ready c.requires.touches c.requires.few c.args.folder.now c.requires.«open» c.requires.places
    (g.met.F.Folder.image_now c.args.folder.now) (g.met.F.Folder.only_now c.args.folder.now) c.keep_all.new.folder c.keep_all.ensures.come c.keep_all.ensures.leaves

pub returns-in-Err-Failed-clause-open : goal.returns-in-Err-Failed-clause-open
returns-in-Err-Failed-clause-open g c =
    subst (λ (x : Change). OnTold (g.F.Folder.told c.keep_all.new.folder) (IsOpen x)) (sym c.refuse-in-Err-Failed.ensures.change) (all_failed g.F.Folder.told g.F.Folder.left_since c.args.self.now c.args.touches.now c.requires.ready.ready c.requires.touches c.requires.few c.args.folder.now c.requires.«open» c.requires.places
    (g.met.F.Folder.image_now c.args.folder.now) (g.met.F.Folder.only_now c.args.folder.now) c.keep_all.new.folder c.keep_all.ensures.come c.keep_all.ensures.leaves)

pub returns-in-Err-Failed-clause-restores : goal.returns-in-Err-Failed-clause-restores
returns-in-Err-Failed-clause-restores g c =
    all_restores g.F.Folder.told g.F.Folder.left_since c.args.self.now c.args.touches.now c.requires.ready.ready c.requires.touches c.requires.few c.args.folder.now c.requires.«open» c.requires.places
    (g.met.F.Folder.image_now c.args.folder.now) (g.met.F.Folder.only_now c.args.folder.now) c.keep_all.new.folder c.keep_all.ensures.come c.keep_all.ensures.leaves
