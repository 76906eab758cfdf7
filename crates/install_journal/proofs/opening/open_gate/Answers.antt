use Rattle.std.proofs.Common.{Some, ap}
use Rattle.folder_core.specs.declared.node.Node.{Node}
use Rattle.install_journal.proofs.Openings.{gate_can, set_restores, sync_restores, set_may_open, is_begun, is_opened}
use Rattle.install_journal.proofs.opening.open_gate.Goals as goal

pub set-requires-clause-place : goal.set-requires-clause-place
set-requires-clause-place g c =
    gate_can g.F.Folder.told g.F.Folder.left_since c.args.folder.now c.args.gate.now c.requires.gate c.requires.fresh (g.met.F.Folder.image_now c.args.folder.now) (g.met.F.Folder.only_now c.args.folder.now)

pub returns-in-Err-NoMemory-clause-leaves : goal.returns-in-Err-NoMemory-clause-leaves
returns-in-Err-NoMemory-clause-leaves g c =
    set_restores g.F.Folder.told g.F.Folder.left_since c.args.folder.now c.args.gate.now c.requires.gate c.requires.fresh (g.met.F.Folder.image_now c.args.folder.now) (g.met.F.Folder.only_now c.args.folder.now) c.set.new.self c.set.ensures.crash c.set.ensures.time

pub returns-in-Err-Failed-clause-leaves : goal.returns-in-Err-Failed-clause-leaves
returns-in-Err-Failed-clause-leaves g c =
    set_restores g.F.Folder.told g.F.Folder.left_since c.args.folder.now c.args.gate.now c.requires.gate c.requires.fresh (g.met.F.Folder.image_now c.args.folder.now) (g.met.F.Folder.only_now c.args.folder.now) c.set.new.self c.set.ensures.crash c.set.ensures.time

pub returns-in-Err-Failed-clause-may_be_open : goal.returns-in-Err-Failed-clause-may_be_open
returns-in-Err-Failed-clause-may_be_open g c = λ _.
    set_may_open g.F.Folder.told g.F.Folder.left_since c.args.folder.now c.args.gate.now c.requires.gate c.requires.fresh (g.met.F.Folder.image_now c.args.folder.now) (g.met.F.Folder.only_now c.args.folder.now) c.set.new.self c.set.ensures.unsynced (c.in-Err-Failed.ensures.touched (λ is. let f : ⊥ = cc (is, c.in-Err-Failed.field-0-is) in f))

pub returns-in-Ok-sync-clause-is_open : goal.returns-in-Ok-sync-clause-is_open
returns-in-Ok-sync-clause-is_open g c =
    is_begun g.F.Folder.told g.F.Folder.left_since c.args.folder.now c.args.gate.now c.requires.gate c.requires.fresh (g.met.F.Folder.image_now c.args.folder.now) (g.met.F.Folder.only_now c.args.folder.now) c.set.new.self c.sync.new.self (Some c.args.opened.now) (ap (λ (n : Node). Some n) c.requires.node) c.in-Ok.ensures.ok c.sync.ensures.stays c.in-Ok-sync.ensures.synced c.in-Ok-sync.ensures.settled

pub returns-in-Ok-sync-clause-leaves : goal.returns-in-Ok-sync-clause-leaves
returns-in-Ok-sync-clause-leaves g c =
    sync_restores g.F.Folder.told g.F.Folder.left_since c.args.folder.now c.args.gate.now c.requires.gate c.requires.fresh (g.met.F.Folder.image_now c.args.folder.now) (g.met.F.Folder.only_now c.args.folder.now) c.set.new.self c.sync.new.self c.set.ensures.crash c.set.ensures.time c.sync.ensures.crash c.sync.ensures.time

pub returns-in-Err-clause-leaves : goal.returns-in-Err-clause-leaves
returns-in-Err-clause-leaves g c =
    sync_restores g.F.Folder.told g.F.Folder.left_since c.args.folder.now c.args.gate.now c.requires.gate c.requires.fresh (g.met.F.Folder.image_now c.args.folder.now) (g.met.F.Folder.only_now c.args.folder.now) c.set.new.self c.sync.new.self c.set.ensures.crash c.set.ensures.time c.sync.ensures.crash c.sync.ensures.time

pub returns-in-Err-clause-may_be_open : goal.returns-in-Err-clause-may_be_open
returns-in-Err-clause-may_be_open g c =
    λ _. is_opened g.F.Folder.told g.F.Folder.left_since c.args.folder.now c.args.gate.now c.requires.gate c.requires.fresh (g.met.F.Folder.image_now c.args.folder.now) (g.met.F.Folder.only_now c.args.folder.now) c.set.new.self c.sync.new.self (Some c.args.opened.now) (ap (λ (n : Node). Some n) c.requires.node) c.in-Ok.ensures.ok c.sync.ensures.stays (g.met.F.Folder.image_now c.sync.new.self)
