use Rattle.std.proofs.Common.{sym, ap, ◌∙◌, subst, List, Err}
use Rattle.folder_core.specs.Step.{OnTold}
use Rattle.folder_core.proofs.Moments.{formed_now}
use Rattle.folder_core.specs.declared.fault.FolderError.{FolderError}
use Rattle.folder_core.specs.declared.node.Touch.{Touch}
use Rattle.director_core.specs.Laid.{CanLay, AreNodes}
use Rattle.director_core.proofs.Layings.{first_elsewhere, first_begun, synced_elsewhere}
use Rattle.director_core.proofs.Maps.{can_lay_first, first_nodes, put_leaves, durable_now}
use Rattle.director_core.proofs.performing.put.Goals as goal

pub lay-requires-clause-can_lay : goal.lay-requires-clause-can_lay
lay-requires-clause-can_lay g c =
    let P : List Touch → Type 0 = λ touches. OnTold (g.F.Folder.told c.args.folder.now) (λ s. CanLay touches s.now) in
    subst P (sym c.in_ok-touches.ensures) (can_lay_first (g.F.Folder.told c.args.folder.now) c.args.plan.now.profile c.args.plan.now.unit (formed_now (g.F.Folder.told c.args.folder.now) (g.met.F.Folder.image_now c.args.folder.now)) c.requires.bare)

pub lay-requires-clause-nodes : goal.lay-requires-clause-nodes
lay-requires-clause-nodes g c =
    subst AreNodes (sym c.in_ok-touches.ensures) (first_nodes c.args.plan.now.profile c.args.plan.now.unit c.requires.ready.fits)

pub returns-in-Ok-sync-clause-leaves : goal.returns-in-Ok-sync-clause-leaves
returns-in-Ok-sync-clause-leaves g c =
    put_leaves (g.F.Folder.told c.args.folder.now) (g.F.Folder.told c.lay.new.folder) (g.F.Folder.told c.sync.new.self) c.in_ok-touches.touches c.args.plan.now.profile c.args.plan.now.unit
    c.in_ok-touches.ensures (formed_now (g.F.Folder.told c.args.folder.now) (g.met.F.Folder.image_now c.args.folder.now)) c.requires.bare c.in-Ok.ensures.ok c.in-Ok-sync.ensures.stays

pub returns-in-Ok-sync-clause-durable : goal.returns-in-Ok-sync-clause-durable
returns-in-Ok-sync-clause-durable g c =
    durable_now (g.F.Folder.told c.lay.new.folder) (g.F.Folder.told c.sync.new.self) c.in-Ok-sync.ensures.synced c.in-Ok-sync.ensures.settled c.in-Ok-sync.ensures.stays

pub returns-in-Err-Failed-clause-leaves : goal.returns-in-Err-Failed-clause-leaves
returns-in-Err-Failed-clause-leaves g c =
    first_elsewhere (g.F.Folder.told c.args.folder.now) (g.F.Folder.told c.lay.new.folder) c.in_ok-touches.touches c.args.plan.now.profile c.args.plan.now.unit
    c.in_ok-touches.ensures c.lay.ensures.elsewhere

pub returns-in-Err-NoMemory-clause-leaves : goal.returns-in-Err-NoMemory-clause-leaves
returns-in-Err-NoMemory-clause-leaves g c =
    first_begun (g.F.Folder.told c.args.folder.now) (g.F.Folder.told c.lay.new.folder) c.in_ok-touches.touches c.args.plan.now.profile c.args.plan.now.unit
    c.in_ok-touches.ensures (formed_now (g.F.Folder.told c.args.folder.now) (g.met.F.Folder.image_now c.args.folder.now)) c.requires.bare (c.lay.ensures.no_memory (c.in-Err-NoMemory.is ∙ ap (λ (e : FolderError). Err e) c.in-Err-NoMemory.field-0-is))

pub returns-clause-leaves : goal.returns-clause-leaves
returns-clause-leaves g c =
    synced_elsewhere (g.F.Folder.told c.args.folder.now) (g.F.Folder.told c.lay.new.folder) (g.F.Folder.told c.sync.new.self) c.in_ok-touches.touches c.args.plan.now.profile c.args.plan.now.unit
    c.in_ok-touches.ensures c.lay.ensures.elsewhere c.sync.ensures.stays
