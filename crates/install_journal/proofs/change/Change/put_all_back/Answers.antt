use Rattle.std.specs.Bool.{⊤}
use Rattle.std.proofs.Common.{ap}
use Rattle.install_journal.specs.declared.change.Change.{Change}
use Rattle.install_journal.proofs.Abandonings.{like_now, settles_then}
use Rattle.install_journal.proofs.Backs.{open_may_be, restores_and_then}
use Rattle.install_journal.proofs.Finishings.{same_restores}
use Rattle.install_journal.proofs.change.Change.put_all_back.Goals as goal

pub returns-in_default-clause-restores : goal.returns-in_default-clause-restores
returns-in_default-clause-restores g c =
    same_restores g.F.Folder.told g.F.Folder.left_since c.args.self.now c.args.folder.now c.requires (g.met.F.Folder.image_now c.args.folder.now) (g.met.F.Folder.only_now c.args.folder.now)

pub returns-in_default-clause-open_gate : goal.returns-in_default-clause-open_gate
returns-in_default-clause-open_gate g c =
    open_may_be g.F.Folder.told g.F.Folder.left_since c.args.self.now c.args.folder.now c.requires (g.met.F.Folder.image_now c.args.folder.now)

pub returns-in-Err-Failed-clause-open_gate : goal.returns-in-Err-Failed-clause-open_gate
returns-in-Err-Failed-clause-open_gate g c =
    open_may_be g.F.Folder.told g.F.Folder.left_since c.undo_down_to.new.self c.undo_down_to.new.folder c.undo_down_to.ensures.«open» (g.met.F.Folder.image_now c.undo_down_to.new.folder)

pub returns-in-Err-Damaged-clause-open_gate : goal.returns-in-Err-Damaged-clause-open_gate
returns-in-Err-Damaged-clause-open_gate g c =
    open_may_be g.F.Folder.told g.F.Folder.left_since c.undo_down_to.new.self c.undo_down_to.new.folder c.undo_down_to.ensures.«open» (g.met.F.Folder.image_now c.undo_down_to.new.folder)

pub returns-in-Err-NoMemory-clause-open_gate : goal.returns-in-Err-NoMemory-clause-open_gate
returns-in-Err-NoMemory-clause-open_gate g c =
    open_may_be g.F.Folder.told g.F.Folder.left_since c.undo_down_to.new.self c.undo_down_to.new.folder c.undo_down_to.ensures.«open» (g.met.F.Folder.image_now c.undo_down_to.new.folder)

pub close_old-requires-clause-none_left : goal.close_old-requires-clause-none_left
close_old-requires-clause-none_left g c =
    ap (λ (x : Change). x.left) c.in-Ok-undo_down_to.ensures.ok

pub returns-in-Ok-close_old-clause-restores : goal.returns-in-Ok-close_old-clause-restores
returns-in-Ok-close_old-clause-restores g c =
    restores_and_then g.F.Folder.told g.F.Folder.left_since c.args.folder.now c.undo_down_to.new.folder c.close_old.new.folder (g.met.F.Folder.image_now c.undo_down_to.new.folder) (g.met.F.Folder.counts_now c.undo_down_to.new.folder)
    c.undo_down_to.ensures.restores (λ s t. ⊤) c.close_old.ensures.tells c.close_old.ensures.restores

pub returns-in-Ok-close_old-clause-abandoned : goal.returns-in-Ok-close_old-clause-abandoned
returns-in-Ok-close_old-clause-abandoned g c =
    settles_then g.F.Folder.told g.F.Folder.left_since c.args.folder.now c.undo_down_to.new.folder c.close_old.new.folder
    (like_now g.F.Folder.told g.F.Folder.left_since c.args.folder.now c.undo_down_to.new.folder (g.met.F.Folder.image_now c.undo_down_to.new.folder) (g.met.F.Folder.counts_now c.undo_down_to.new.folder)
    c.undo_down_to.ensures.restores c.undo_down_to.ensures.tells)
    c.in-Ok-close_old.ensures.settled

pub returns-in-Err-Failed-close_old-clause-restores : goal.returns-in-Err-Failed-close_old-clause-restores
returns-in-Err-Failed-close_old-clause-restores g c =
    restores_and_then g.F.Folder.told g.F.Folder.left_since c.args.folder.now c.undo_down_to.new.folder c.close_old.new.folder (g.met.F.Folder.image_now c.undo_down_to.new.folder) (g.met.F.Folder.counts_now c.undo_down_to.new.folder)
    c.undo_down_to.ensures.restores (λ s t. ⊤) c.close_old.ensures.tells c.close_old.ensures.restores

pub returns-clause-restores : goal.returns-clause-restores
returns-clause-restores g c =
    restores_and_then g.F.Folder.told g.F.Folder.left_since c.args.folder.now c.undo_down_to.new.folder c.close_old.new.folder (g.met.F.Folder.image_now c.undo_down_to.new.folder) (g.met.F.Folder.counts_now c.undo_down_to.new.folder)
    c.undo_down_to.ensures.restores (λ s t. ⊤) c.close_old.ensures.tells c.close_old.ensures.restores
