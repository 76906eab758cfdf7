use Rattle.std.proofs.Common.{true, false, arith, subst, sym}
use Rattle.folder_core.specs.Step.{OnTold}
use Rattle.install_journal.specs.Open.{IsOpen}
use Rattle.install_journal.specs.declared.change.Change.{Change}
use Rattle.install_journal.proofs.Finishings.{same_restores}
use Rattle.install_journal.proofs.Touchings.{room, no_mark, failed_open, failed_restores, outside_same, elsewhere_same, can_still, set_open, set_restores, set_holds}
use Rattle.install_journal.proofs.change.Change.touch.Goals as goal

pub returns-then-self-ge-MOST_ENTRIES-clause-restores : goal.returns-then-self-ge-MOST_ENTRIES-clause-restores
returns-then-self-ge-MOST_ENTRIES-clause-restores g c =
    same_restores g.F.Folder.told g.F.Folder.left_since c.args.self.now c.args.folder.now c.requires.«open» (g.met.F.Folder.image_now c.args.folder.now) (g.met.F.Folder.only_now c.args.folder.now)

pub keep-requires-clause-room : goal.keep-requires-clause-room
keep-requires-clause-room g c =
    room g.F.Folder.told g.F.Folder.left_since c.args.self.now c.args.path.now c.requires.ready.ready c.requires.outside c.args.folder.now c.requires.«open» c.requires.place (omega arith) (g.met.F.Folder.image_now c.args.folder.now) (g.met.F.Folder.only_now c.args.folder.now)

pub keep-requires-clause-no_mark : goal.keep-requires-clause-no_mark
keep-requires-clause-no_mark g c =
    no_mark g.F.Folder.told g.F.Folder.left_since c.args.self.now c.args.path.now c.requires.ready.ready c.requires.outside c.args.folder.now c.requires.«open» c.requires.place (omega arith) (g.met.F.Folder.image_now c.args.folder.now) (g.met.F.Folder.only_now c.args.folder.now)

pub returns-in-Err-NoMemory-clause-elsewhere : goal.returns-in-Err-NoMemory-clause-elsewhere
returns-in-Err-NoMemory-clause-elsewhere g c =
    elsewhere_same g.F.Folder.told g.F.Folder.left_since c.args.self.now c.args.path.now c.requires.ready.ready c.requires.outside c.args.folder.now c.requires.«open» c.requires.place (omega arith) (g.met.F.Folder.image_now c.args.folder.now) (g.met.F.Folder.only_now c.args.folder.now)
    c.keep.new.folder c.keep.ensures.elsewhere c.keep.ensures.come c.keep.ensures.leaves

pub returns-in-Err-NoMemory-clause-open : goal.returns-in-Err-NoMemory-clause-open
returns-in-Err-NoMemory-clause-open g c =
    subst (λ (x : Change). OnTold (g.F.Folder.told c.keep.new.folder) (IsOpen x)) (sym c.refuse.ensures.change)
    (failed_open g.F.Folder.told g.F.Folder.left_since c.args.self.now c.args.path.now c.requires.ready.ready c.requires.outside c.args.folder.now c.requires.«open» c.requires.place (omega arith) (g.met.F.Folder.image_now c.args.folder.now) (g.met.F.Folder.only_now c.args.folder.now)
    c.keep.new.folder c.keep.ensures.elsewhere c.keep.ensures.come c.keep.ensures.leaves)

pub returns-in-Err-NoMemory-clause-restores : goal.returns-in-Err-NoMemory-clause-restores
returns-in-Err-NoMemory-clause-restores g c =
    failed_restores g.F.Folder.told g.F.Folder.left_since c.args.self.now c.args.path.now c.requires.ready.ready c.requires.outside c.args.folder.now c.requires.«open» c.requires.place (omega arith) (g.met.F.Folder.image_now c.args.folder.now) (g.met.F.Folder.only_now c.args.folder.now)
    c.keep.new.folder c.keep.ensures.elsewhere c.keep.ensures.come c.keep.ensures.leaves

pub returns-in-Err-Failed-clause-elsewhere : goal.returns-in-Err-Failed-clause-elsewhere
returns-in-Err-Failed-clause-elsewhere g c =
    elsewhere_same g.F.Folder.told g.F.Folder.left_since c.args.self.now c.args.path.now c.requires.ready.ready c.requires.outside c.args.folder.now c.requires.«open» c.requires.place (omega arith) (g.met.F.Folder.image_now c.args.folder.now) (g.met.F.Folder.only_now c.args.folder.now)
    c.keep.new.folder c.keep.ensures.elsewhere c.keep.ensures.come c.keep.ensures.leaves

pub returns-in-Err-Failed-clause-open : goal.returns-in-Err-Failed-clause-open
returns-in-Err-Failed-clause-open g c =
    subst (λ (x : Change). OnTold (g.F.Folder.told c.keep.new.folder) (IsOpen x)) (sym c.refuse-in-Err-Failed.ensures.change)
    (failed_open g.F.Folder.told g.F.Folder.left_since c.args.self.now c.args.path.now c.requires.ready.ready c.requires.outside c.args.folder.now c.requires.«open» c.requires.place (omega arith) (g.met.F.Folder.image_now c.args.folder.now) (g.met.F.Folder.only_now c.args.folder.now)
    c.keep.new.folder c.keep.ensures.elsewhere c.keep.ensures.come c.keep.ensures.leaves)

pub returns-in-Err-Failed-clause-restores : goal.returns-in-Err-Failed-clause-restores
returns-in-Err-Failed-clause-restores g c =
    failed_restores g.F.Folder.told g.F.Folder.left_since c.args.self.now c.args.path.now c.requires.ready.ready c.requires.outside c.args.folder.now c.requires.«open» c.requires.place (omega arith) (g.met.F.Folder.image_now c.args.folder.now) (g.met.F.Folder.only_now c.args.folder.now)
    c.keep.new.folder c.keep.ensures.elsewhere c.keep.ensures.come c.keep.ensures.leaves

pub returns-in-Err-NoMemory-clause-untouched : goal.returns-in-Err-NoMemory-clause-untouched
returns-in-Err-NoMemory-clause-untouched g c =
    λ _. outside_same g.F.Folder.told g.F.Folder.left_since c.args.self.now c.args.path.now c.requires.ready.ready c.requires.outside c.args.folder.now c.requires.«open» c.requires.place (omega arith) (g.met.F.Folder.image_now c.args.folder.now) (g.met.F.Folder.only_now c.args.folder.now)
    c.keep.new.folder c.keep.ensures.elsewhere c.keep.ensures.come c.keep.ensures.leaves

pub set-requires-clause-place : goal.set-requires-clause-place
set-requires-clause-place g c =
    can_still g.F.Folder.told g.F.Folder.left_since c.args.self.now c.args.path.now c.requires.ready.ready c.requires.outside c.args.folder.now c.requires.«open» c.requires.place (omega arith) (g.met.F.Folder.image_now c.args.folder.now) (g.met.F.Folder.only_now c.args.folder.now)
    c.keep.new.folder c.keep.ensures.elsewhere c.keep.ensures.come c.keep.ensures.leaves

pub returns-in-Ok-set-clause-entry : goal.returns-in-Ok-set-clause-entry
returns-in-Ok-set-clause-entry g c =
    set_holds g.F.Folder.told g.F.Folder.left_since c.args.self.now c.args.path.now c.requires.ready.ready c.requires.outside c.args.folder.now c.requires.«open» c.requires.place (omega arith) (g.met.F.Folder.image_now c.args.folder.now) (g.met.F.Folder.only_now c.args.folder.now)
    c.keep.new.folder c.keep.ensures.elsewhere c.keep.ensures.come c.keep.ensures.leaves
    c.in-Ok.ensures.kept c.in-Ok.ensures.counted (g.met.F.Folder.image_now c.keep.new.folder) c.set.new.self c.set.ensures.crash c.set.ensures.elsewhere c.set.ensures.time

pub returns-in-Ok-set-clause-open : goal.returns-in-Ok-set-clause-open
returns-in-Ok-set-clause-open g c =
    set_open g.F.Folder.told g.F.Folder.left_since c.args.self.now c.args.path.now c.requires.ready.ready c.requires.outside c.args.folder.now c.requires.«open» c.requires.place (omega arith) (g.met.F.Folder.image_now c.args.folder.now) (g.met.F.Folder.only_now c.args.folder.now)
    c.keep.new.folder c.keep.ensures.elsewhere c.keep.ensures.come c.keep.ensures.leaves
    c.in-Ok.ensures.kept c.in-Ok.ensures.counted (g.met.F.Folder.image_now c.keep.new.folder) c.set.new.self c.set.ensures.crash c.set.ensures.elsewhere c.set.ensures.time c.args.self.now.ready c.args.self.now.failed

pub returns-in-Ok-set-clause-restores : goal.returns-in-Ok-set-clause-restores
returns-in-Ok-set-clause-restores g c =
    set_restores g.F.Folder.told g.F.Folder.left_since c.args.self.now c.args.path.now c.requires.ready.ready c.requires.outside c.args.folder.now c.requires.«open» c.requires.place (omega arith) (g.met.F.Folder.image_now c.args.folder.now) (g.met.F.Folder.only_now c.args.folder.now)
    c.keep.new.folder c.keep.ensures.elsewhere c.keep.ensures.come c.keep.ensures.leaves
    c.in-Ok.ensures.kept c.in-Ok.ensures.counted (g.met.F.Folder.image_now c.keep.new.folder) c.set.new.self c.set.ensures.crash c.set.ensures.elsewhere c.set.ensures.time

pub returns-in-Err-NoMemory-set-clause-open : goal.returns-in-Err-NoMemory-set-clause-open
returns-in-Err-NoMemory-set-clause-open g c =
    subst (λ (x : Change). OnTold (g.F.Folder.told c.set.new.self) (IsOpen x)) (sym c.refuse-in-Err-NoMemory-set.ensures.change)
    (set_open g.F.Folder.told g.F.Folder.left_since c.args.self.now c.args.path.now c.requires.ready.ready c.requires.outside c.args.folder.now c.requires.«open» c.requires.place (omega arith) (g.met.F.Folder.image_now c.args.folder.now) (g.met.F.Folder.only_now c.args.folder.now)
    c.keep.new.folder c.keep.ensures.elsewhere c.keep.ensures.come c.keep.ensures.leaves
    c.in-Ok.ensures.kept c.in-Ok.ensures.counted (g.met.F.Folder.image_now c.keep.new.folder) c.set.new.self c.set.ensures.crash c.set.ensures.elsewhere c.set.ensures.time false true)

pub returns-in-Err-NoMemory-set-clause-restores : goal.returns-in-Err-NoMemory-set-clause-restores
returns-in-Err-NoMemory-set-clause-restores g c =
    set_restores g.F.Folder.told g.F.Folder.left_since c.args.self.now c.args.path.now c.requires.ready.ready c.requires.outside c.args.folder.now c.requires.«open» c.requires.place (omega arith) (g.met.F.Folder.image_now c.args.folder.now) (g.met.F.Folder.only_now c.args.folder.now)
    c.keep.new.folder c.keep.ensures.elsewhere c.keep.ensures.come c.keep.ensures.leaves
    c.in-Ok.ensures.kept c.in-Ok.ensures.counted (g.met.F.Folder.image_now c.keep.new.folder) c.set.new.self c.set.ensures.crash c.set.ensures.elsewhere c.set.ensures.time

pub returns-in-Err-Failed-set-clause-open : goal.returns-in-Err-Failed-set-clause-open
returns-in-Err-Failed-set-clause-open g c =
    subst (λ (x : Change). OnTold (g.F.Folder.told c.set.new.self) (IsOpen x)) (sym c.refuse-in-Err-Failed-set.ensures.change)
    (set_open g.F.Folder.told g.F.Folder.left_since c.args.self.now c.args.path.now c.requires.ready.ready c.requires.outside c.args.folder.now c.requires.«open» c.requires.place (omega arith) (g.met.F.Folder.image_now c.args.folder.now) (g.met.F.Folder.only_now c.args.folder.now)
    c.keep.new.folder c.keep.ensures.elsewhere c.keep.ensures.come c.keep.ensures.leaves
    c.in-Ok.ensures.kept c.in-Ok.ensures.counted (g.met.F.Folder.image_now c.keep.new.folder) c.set.new.self c.set.ensures.crash c.set.ensures.elsewhere c.set.ensures.time false true)

pub returns-in-Err-Failed-set-clause-restores : goal.returns-in-Err-Failed-set-clause-restores
returns-in-Err-Failed-set-clause-restores g c =
    set_restores g.F.Folder.told g.F.Folder.left_since c.args.self.now c.args.path.now c.requires.ready.ready c.requires.outside c.args.folder.now c.requires.«open» c.requires.place (omega arith) (g.met.F.Folder.image_now c.args.folder.now) (g.met.F.Folder.only_now c.args.folder.now)
    c.keep.new.folder c.keep.ensures.elsewhere c.keep.ensures.come c.keep.ensures.leaves
    c.in-Ok.ensures.kept c.in-Ok.ensures.counted (g.met.F.Folder.image_now c.keep.new.folder) c.set.new.self c.set.ensures.crash c.set.ensures.elsewhere c.set.ensures.time

pub returns-in-Err-Failed-set-clause-newest : goal.returns-in-Err-Failed-set-clause-newest
returns-in-Err-Failed-set-clause-newest g c =
    λ _. set_holds g.F.Folder.told g.F.Folder.left_since c.args.self.now c.args.path.now c.requires.ready.ready c.requires.outside c.args.folder.now c.requires.«open» c.requires.place (omega arith) (g.met.F.Folder.image_now c.args.folder.now) (g.met.F.Folder.only_now c.args.folder.now)
    c.keep.new.folder c.keep.ensures.elsewhere c.keep.ensures.come c.keep.ensures.leaves
    c.in-Ok.ensures.kept c.in-Ok.ensures.counted (g.met.F.Folder.image_now c.keep.new.folder) c.set.new.self c.set.ensures.crash c.set.ensures.elsewhere c.set.ensures.time
