use Rattle.folder_core.specs.Folder.{SameBut}
use Rattle.backup_store.specs.Places.{gate_path}
use Rattle.install_journal.proofs.Abandonings.{end_settles, end_old, end_tells, end_may_be, on_ok_each, on_err_each}
use Rattle.install_journal.proofs.Backs.{open_may_be}
use Rattle.install_journal.proofs.Finishings.{mid_opens, mid_synced, closed_gone}
use Rattle.install_journal.proofs.Opens.{looks_of, looked_open, looked_restores}
use Rattle.install_journal.proofs.change.Change.close_old.Goals as goal

pub close-requires-clause-open : goal.close-requires-clause-open
close-requires-clause-open g c =
    mid_opens g.F.Folder.told g.F.Folder.left_since c.args.self.now c.args.folder.now c.requires.«open» (g.met.F.Folder.image_now c.args.folder.now) (g.met.F.Folder.only_now c.args.folder.now)
    c.sync.new.self c.sync.ensures.stays c.in-Ok.ensures.synced c.in-Ok.ensures.settled c.sync.ensures.time (g.met.F.Folder.image_now c.sync.new.self)

pub close-requires-clause-synced : goal.close-requires-clause-synced
close-requires-clause-synced g c =
    mid_synced g.F.Folder.told g.F.Folder.left_since c.args.self.now c.args.folder.now c.requires.«open» (g.met.F.Folder.image_now c.args.folder.now) (g.met.F.Folder.only_now c.args.folder.now)
    c.sync.new.self c.sync.ensures.stays c.in-Ok.ensures.synced c.in-Ok.ensures.settled c.sync.ensures.time

pub returns-in-Ok-clause-settled : goal.returns-in-Ok-clause-settled
returns-in-Ok-clause-settled g c =
    on_ok_each c.close.result _ _ (λ closed. end_settles g.F.Folder.told g.F.Folder.left_since c.args.self.now c.args.folder.now c.requires.«open» (g.met.F.Folder.image_now c.args.folder.now) (g.met.F.Folder.only_now c.args.folder.now) c.requires.none_left
    c.sync.new.self c.sync.ensures.stays c.in-Ok.ensures.synced c.in-Ok.ensures.settled c.sync.ensures.time c.close.new.folder closed) c.close.ensures.closed

pub returns-in-Ok-clause-tells : goal.returns-in-Ok-clause-tells
returns-in-Ok-clause-tells g c =
    end_tells g.F.Folder.told g.F.Folder.left_since c.args.self.now c.args.folder.now c.requires.«open» (g.met.F.Folder.image_now c.args.folder.now) (g.met.F.Folder.only_now c.args.folder.now) c.requires.none_left
    c.sync.new.self c.sync.ensures.stays c.in-Ok.ensures.synced c.in-Ok.ensures.settled c.sync.ensures.time c.close.new.folder (λ s t. SameBut gate_path s.now t.now) c.close.ensures.elsewhere

pub returns-in-Ok-clause-restores : goal.returns-in-Ok-clause-restores
returns-in-Ok-clause-restores g c =
    end_old g.F.Folder.told g.F.Folder.left_since c.args.self.now c.args.folder.now c.requires.«open» (g.met.F.Folder.image_now c.args.folder.now) (g.met.F.Folder.only_now c.args.folder.now) c.requires.none_left
    c.sync.new.self c.sync.ensures.stays c.in-Ok.ensures.synced c.in-Ok.ensures.settled c.sync.ensures.time c.close.new.folder (λ s t. SameBut gate_path s.now t.now) c.close.ensures.elsewhere c.close.ensures.leaves

pub returns-in-Ok-clause-open_gate : goal.returns-in-Ok-clause-open_gate
returns-in-Ok-clause-open_gate g c =
    on_err_each c.close.result _ _ (λ touches. end_may_be g.F.Folder.told g.F.Folder.left_since c.args.self.now c.args.folder.now c.requires.«open» (g.met.F.Folder.image_now c.args.folder.now) (g.met.F.Folder.only_now c.args.folder.now) c.requires.none_left
    c.sync.new.self c.sync.ensures.stays c.in-Ok.ensures.synced c.in-Ok.ensures.settled c.sync.ensures.time c.close.new.folder (g.met.F.Folder.image_now c.sync.new.self) touches) c.close.ensures.touches

pub returns-in-Err-clause-restores : goal.returns-in-Err-clause-restores
returns-in-Err-clause-restores g c =
    looked_restores g.F.Folder.told g.F.Folder.left_since c.args.self.now c.args.folder.now c.sync.new.self (g.met.F.Folder.image_now c.args.folder.now) (g.met.F.Folder.only_now c.args.folder.now) c.requires.«open»
    (looks_of g.F.Folder.told g.F.Folder.left_since c.args.folder.now c.sync.new.self c.sync.ensures.stays c.in-Err.ensures.failed c.in-Err.ensures.untouched c.sync.ensures.time)

pub returns-in-Err-clause-open_gate : goal.returns-in-Err-clause-open_gate
returns-in-Err-clause-open_gate g c =
    open_may_be g.F.Folder.told g.F.Folder.left_since c.args.self.now c.sync.new.self
    (looked_open g.F.Folder.told g.F.Folder.left_since c.args.self.now c.args.folder.now c.sync.new.self c.requires.«open»
    (looks_of g.F.Folder.told g.F.Folder.left_since c.args.folder.now c.sync.new.self c.sync.ensures.stays c.in-Err.ensures.failed c.in-Err.ensures.untouched c.sync.ensures.time))
    (g.met.F.Folder.image_now c.sync.new.self)

pub returns-in-Ok-clause-gate_gone : goal.returns-in-Ok-clause-gate_gone
returns-in-Ok-clause-gate_gone g c =
    on_ok_each c.close.result _ _ (λ closed. closed_gone (g.F.Folder.told c.sync.new.self) (g.F.Folder.told c.close.new.folder) closed) c.close.ensures.closed
