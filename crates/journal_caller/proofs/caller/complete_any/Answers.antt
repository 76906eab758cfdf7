use Rattle.std.proofs.Common.{subst}
use Rattle.install_journal.specs.Closing.{HandsBack}
use Rattle.install_journal.specs.Restored.{RestoresSame}
use Rattle.journal_caller.proofs.Calls.{old_at_most, restores_then}
use Rattle.journal_caller.proofs.caller.complete_any.Goals as goal

pub returns-in-Err-Before-clause-leaves : goal.returns-in-Err-Before-clause-leaves
returns-in-Err-Before-clause-leaves g c =
    old_at_most g.F.Folder.told g.F.Folder.left_since c.args.folder.now c.give_up_any.new.folder
    (restores_then g.F.Folder.told g.F.Folder.left_since c.args.folder.now c.finish.new.folder c.give_up_any.new.folder (subst (HandsBack (λ change. RestoresSame g.F.Folder.told g.F.Folder.left_since c.args.folder.now c.finish.new.folder)) c.in-Err-Before.field-0-is c.in-Err-Before.ensures.restores) (g.met.F.Folder.image_now c.finish.new.folder) (g.met.F.Folder.counts_now c.finish.new.folder) c.give_up_any.ensures.tells c.give_up_any.ensures.restores)

pub returns-in-Err-Before-clause-old : goal.returns-in-Err-Before-clause-old
returns-in-Err-Before-clause-old g c =
    λ is. restores_then g.F.Folder.told g.F.Folder.left_since c.args.folder.now c.finish.new.folder c.give_up_any.new.folder (subst (HandsBack (λ change. RestoresSame g.F.Folder.told g.F.Folder.left_since c.args.folder.now c.finish.new.folder)) c.in-Err-Before.field-0-is c.in-Err-Before.ensures.restores) (g.met.F.Folder.image_now c.finish.new.folder) (g.met.F.Folder.counts_now c.finish.new.folder) c.give_up_any.ensures.tells c.give_up_any.ensures.restores

pub returns-in-Err-NoMemory-clause-leaves : goal.returns-in-Err-NoMemory-clause-leaves
returns-in-Err-NoMemory-clause-leaves g c =
    old_at_most g.F.Folder.told g.F.Folder.left_since c.args.folder.now c.give_up_any-in-Err-NoMemory.new.folder
    (restores_then g.F.Folder.told g.F.Folder.left_since c.args.folder.now c.finish.new.folder c.give_up_any-in-Err-NoMemory.new.folder (subst (HandsBack (λ change. RestoresSame g.F.Folder.told g.F.Folder.left_since c.args.folder.now c.finish.new.folder)) c.in-Err-NoMemory.field-0-is c.in-Err-NoMemory.ensures.restores) (g.met.F.Folder.image_now c.finish.new.folder) (g.met.F.Folder.counts_now c.finish.new.folder) c.give_up_any-in-Err-NoMemory.ensures.tells c.give_up_any-in-Err-NoMemory.ensures.restores)

pub returns-in-Err-NoMemory-clause-old : goal.returns-in-Err-NoMemory-clause-old
returns-in-Err-NoMemory-clause-old g c =
    λ is. restores_then g.F.Folder.told g.F.Folder.left_since c.args.folder.now c.finish.new.folder c.give_up_any-in-Err-NoMemory.new.folder (subst (HandsBack (λ change. RestoresSame g.F.Folder.told g.F.Folder.left_since c.args.folder.now c.finish.new.folder)) c.in-Err-NoMemory.field-0-is c.in-Err-NoMemory.ensures.restores) (g.met.F.Folder.image_now c.finish.new.folder) (g.met.F.Folder.counts_now c.finish.new.folder) c.give_up_any-in-Err-NoMemory.ensures.tells c.give_up_any-in-Err-NoMemory.ensures.restores
