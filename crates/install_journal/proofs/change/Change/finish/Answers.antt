use Rattle.install_journal.proofs.Finishings.{same_restores, old_or_new, mid_synced, mid_opens, end_restores, end_leaves, end_open, end_settled, closed_gone, none_synced}
use Rattle.install_journal.proofs.Opens.{open_spoiled, looks_of, looked_open, looked_restores}
use Rattle.install_journal.proofs.Runs.{on_each}
use Rattle.install_journal.specs.Open.{IsOpen, spoiled}
use Rattle.backup_store.specs.Places.{gate_path}
use Rattle.folder_core.specs.Folder.{SameBut}
use Rattle.std.proofs.Common.{rules, inl, inr, refl}
use Rattle.install_journal.proofs.change.Change.finish.Goals as goal

pub returns-in_default-clause-restores : goal.returns-in_default-clause-restores
returns-in_default-clause-restores g c =
    same_restores g.F.Folder.told g.F.Folder.left_since c.args.self c.args.folder.now c.requires.«open» (g.met.F.Folder.image_now c.args.folder.now) (g.met.F.Folder.only_now c.args.folder.now)

pub returns-in_default-clause-leaves : goal.returns-in_default-clause-leaves
returns-in_default-clause-leaves g c =
    old_or_new g.F.Folder.told g.F.Folder.left_since c.args.self c.args.folder.now c.requires.«open» (g.met.F.Folder.image_now c.args.folder.now) (g.met.F.Folder.only_now c.args.folder.now)
    c.args.folder.now
    (same_restores g.F.Folder.told g.F.Folder.left_since c.args.self c.args.folder.now c.requires.«open» (g.met.F.Folder.image_now c.args.folder.now) (g.met.F.Folder.only_now c.args.folder.now))

pub returns-in_default-clause-open : goal.returns-in_default-clause-open
returns-in_default-clause-open g c = on_each (g.F.Folder.told c.args.folder.now) (IsOpen c.args.self) (IsOpen (spoiled c.args.self)) (λ s. open_spoiled c.args.self s) c.requires.«open»

pub returns-in-Err-clause-restores : goal.returns-in-Err-clause-restores
returns-in-Err-clause-restores g c =
    looked_restores g.F.Folder.told g.F.Folder.left_since c.args.self c.args.folder.now c.sync.new.self
    (g.met.F.Folder.image_now c.args.folder.now) (g.met.F.Folder.only_now c.args.folder.now) c.requires.«open»
    (looks_of g.F.Folder.told g.F.Folder.left_since c.args.folder.now c.sync.new.self c.sync.ensures.stays c.in-Err.ensures.failed c.in-Err.ensures.untouched c.sync.ensures.time)

pub returns-in-Err-clause-leaves : goal.returns-in-Err-clause-leaves
returns-in-Err-clause-leaves g c =
    old_or_new g.F.Folder.told g.F.Folder.left_since c.args.self c.args.folder.now c.requires.«open» (g.met.F.Folder.image_now c.args.folder.now) (g.met.F.Folder.only_now c.args.folder.now)
    c.sync.new.self
    (looked_restores g.F.Folder.told g.F.Folder.left_since c.args.self c.args.folder.now c.sync.new.self
    (g.met.F.Folder.image_now c.args.folder.now) (g.met.F.Folder.only_now c.args.folder.now) c.requires.«open»
    (looks_of g.F.Folder.told g.F.Folder.left_since c.args.folder.now c.sync.new.self c.sync.ensures.stays c.in-Err.ensures.failed c.in-Err.ensures.untouched c.sync.ensures.time))

pub returns-in-Err-clause-open : goal.returns-in-Err-clause-open
returns-in-Err-clause-open g c =
    on_each (g.F.Folder.told c.sync.new.self) (IsOpen c.args.self) (IsOpen (spoiled c.args.self)) (λ s. open_spoiled c.args.self s)
    (looked_open g.F.Folder.told g.F.Folder.left_since c.args.self c.args.folder.now c.sync.new.self c.requires.«open»
    (looks_of g.F.Folder.told g.F.Folder.left_since c.args.folder.now c.sync.new.self c.sync.ensures.stays c.in-Err.ensures.failed c.in-Err.ensures.untouched c.sync.ensures.time))

pub close-requires-clause-open : goal.close-requires-clause-open
close-requires-clause-open g c =
    mid_opens g.F.Folder.told g.F.Folder.left_since c.args.self c.args.folder.now c.requires.«open» (g.met.F.Folder.image_now c.args.folder.now) (g.met.F.Folder.only_now c.args.folder.now)
    c.sync.new.self c.sync.ensures.stays c.in-Ok-sync.ensures.synced c.in-Ok-sync.ensures.settled c.sync.ensures.time (g.met.F.Folder.image_now c.sync.new.self)

pub close-requires-clause-synced : goal.close-requires-clause-synced
close-requires-clause-synced g c =
    mid_synced g.F.Folder.told g.F.Folder.left_since c.args.self c.args.folder.now c.requires.«open» (g.met.F.Folder.image_now c.args.folder.now) (g.met.F.Folder.only_now c.args.folder.now)
    c.sync.new.self c.sync.ensures.stays c.in-Ok-sync.ensures.synced c.in-Ok-sync.ensures.settled c.sync.ensures.time

pub returns-in-Ok-close-clause-leaves : goal.returns-in-Ok-close-clause-leaves
returns-in-Ok-close-clause-leaves g c =
    end_leaves g.F.Folder.told g.F.Folder.left_since c.args.self c.args.folder.now c.requires.«open» (g.met.F.Folder.image_now c.args.folder.now) (g.met.F.Folder.only_now c.args.folder.now)
    c.sync.new.self c.sync.ensures.stays c.in-Ok-sync.ensures.synced c.in-Ok-sync.ensures.settled c.sync.ensures.time
    c.close.new.folder (λ s t. SameBut gate_path s.now t.now) c.close.ensures.elsewhere c.close.ensures.leaves

pub returns-in-Ok-close-clause-finished : goal.returns-in-Ok-close-clause-finished
returns-in-Ok-close-clause-finished g c =
    end_settled g.F.Folder.told g.F.Folder.left_since c.args.self c.args.folder.now c.requires.«open» (g.met.F.Folder.image_now c.args.folder.now) (g.met.F.Folder.only_now c.args.folder.now)
    c.sync.new.self c.sync.ensures.stays c.in-Ok-sync.ensures.synced c.in-Ok-sync.ensures.settled c.sync.ensures.time
    c.close.new.folder c.in-Ok-close.ensures.closed

pub returns-in-Err-NoMemory-clause-leaves : goal.returns-in-Err-NoMemory-clause-leaves
returns-in-Err-NoMemory-clause-leaves g c =
    end_leaves g.F.Folder.told g.F.Folder.left_since c.args.self c.args.folder.now c.requires.«open» (g.met.F.Folder.image_now c.args.folder.now) (g.met.F.Folder.only_now c.args.folder.now)
    c.sync.new.self c.sync.ensures.stays c.in-Ok-sync.ensures.synced c.in-Ok-sync.ensures.settled c.sync.ensures.time
    c.close.new.folder (λ s t. SameBut gate_path s.now t.now) c.close.ensures.elsewhere c.close.ensures.leaves

pub returns-in-Err-NoMemory-clause-open : goal.returns-in-Err-NoMemory-clause-open
returns-in-Err-NoMemory-clause-open g c =
    on_each (g.F.Folder.told c.close.new.folder) (IsOpen c.args.self) (IsOpen (spoiled c.args.self)) (λ s. open_spoiled c.args.self s)
    (end_open g.F.Folder.told g.F.Folder.left_since c.args.self c.args.folder.now c.requires.«open» (g.met.F.Folder.image_now c.args.folder.now) (g.met.F.Folder.only_now c.args.folder.now)
    c.sync.new.self c.sync.ensures.stays c.in-Ok-sync.ensures.synced c.in-Ok-sync.ensures.settled c.sync.ensures.time
    c.close.new.folder (c.in-Err-NoMemory.ensures.no_memory (search (rules, c.in-Err-NoMemory.field-0-is))) (g.met.F.Folder.image_now c.sync.new.self))

pub returns-in-Err-NoMemory-clause-restores : goal.returns-in-Err-NoMemory-clause-restores
returns-in-Err-NoMemory-clause-restores g c =
    end_restores g.F.Folder.told g.F.Folder.left_since c.args.self c.args.folder.now c.requires.«open» (g.met.F.Folder.image_now c.args.folder.now) (g.met.F.Folder.only_now c.args.folder.now)
    c.sync.new.self c.sync.ensures.stays c.in-Ok-sync.ensures.synced c.in-Ok-sync.ensures.settled c.sync.ensures.time
    c.close.new.folder (λ s t. SameBut gate_path s.now t.now) c.close.ensures.elsewhere (c.in-Err-NoMemory.ensures.unchanged (search (rules, c.in-Err-NoMemory.field-0-is)))

pub returns-clause-leaves : goal.returns-clause-leaves
returns-clause-leaves g c =
    end_leaves g.F.Folder.told g.F.Folder.left_since c.args.self c.args.folder.now c.requires.«open» (g.met.F.Folder.image_now c.args.folder.now) (g.met.F.Folder.only_now c.args.folder.now)
    c.sync.new.self c.sync.ensures.stays c.in-Ok-sync.ensures.synced c.in-Ok-sync.ensures.settled c.sync.ensures.time
    c.close.new.folder (λ s t. SameBut gate_path s.now t.now) c.close.ensures.elsewhere c.close.ensures.leaves

pub returns-in-Ok-close-clause-gate_gone : goal.returns-in-Ok-close-clause-gate_gone
returns-in-Ok-close-clause-gate_gone g c =
    closed_gone (g.F.Folder.told c.sync.new.self) (g.F.Folder.told c.close.new.folder) c.in-Ok-close.ensures.closed

pub returns-in_default-clause-no_memory : goal.returns-in_default-clause-no_memory
returns-in_default-clause-no_memory g c = inl refl

pub returns-in-Err-NoMemory-clause-no_memory : goal.returns-in-Err-NoMemory-clause-no_memory
returns-in-Err-NoMemory-clause-no_memory g c =
    inr (none_synced (g.F.Folder.told c.sync.new.self) (g.F.Folder.told c.close.new.folder) (c.in-Err-NoMemory.ensures.no_memory (search (rules, c.in-Err-NoMemory.field-0-is))))
