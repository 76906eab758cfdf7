use Rattle.std.proofs.Common.{subst, sym, rules}
use Rattle.folder_core.specs.Folder.{CanSet}
use Rattle.folder_core.specs.Crash.{IsImage}
use Rattle.backup_store.specs.Held.{IsOpen as OpensGate}
use Rattle.install_journal.proofs.Closings.{can_close, on_err, gate_touched, gate_touched_on, none_leaves, set_leaves, sync_leaves}
use Rattle.install_journal.proofs.Runs.{on_each, on_both}
use Rattle.install_journal.proofs.closing.close.Goals as goal

pub set-requires-clause-place : goal.set-requires-clause-place
set-requires-clause-place g c =
    on_each (g.F.Folder.told c.args.folder.now) (λ s. IsImage s s.now × OpensGate s.now) (λ s. CanSet s.now c.args.gate.now)
    (λ s both. subst (CanSet s.now) (sym c.requires.gate) (can_close s.now both.0.formed both.1))
    (on_both (g.F.Folder.told c.args.folder.now) (λ s. IsImage s s.now) (λ s. OpensGate s.now) (g.met.F.Folder.image_now c.args.folder.now) c.requires.open)

pub returns-in_err-set-clause-leaves : goal.returns-in_err-set-clause-leaves
returns-in_err-set-clause-leaves g c =
    set_leaves g.F.Folder.told g.F.Folder.left_since c.args.folder.now c.requires.synced (g.met.F.Folder.only_now c.args.folder.now)
    c.set.new.self c.args.gate.now c.requires.gate c.set.ensures.crash c.set.ensures.time

pub returns-in_err-sync-clause-leaves : goal.returns-in_err-sync-clause-leaves
returns-in_err-sync-clause-leaves g c =
    sync_leaves g.F.Folder.told g.F.Folder.left_since c.args.folder.now c.requires.synced (g.met.F.Folder.only_now c.args.folder.now)
    c.set.new.self c.sync.new.self c.args.gate.now c.requires.gate c.set.ensures.crash c.set.ensures.time c.sync.ensures.crash c.sync.ensures.time

pub returns-clause-leaves : goal.returns-clause-leaves
returns-clause-leaves g c =
    sync_leaves g.F.Folder.told g.F.Folder.left_since c.args.folder.now c.requires.synced (g.met.F.Folder.only_now c.args.folder.now)
    c.set.new.self c.sync.new.self c.args.gate.now c.requires.gate c.set.ensures.crash c.set.ensures.time c.sync.ensures.crash c.sync.ensures.time

pub returns-in_err-set-clause-touches : goal.returns-in_err-set-clause-touches
returns-in_err-set-clause-touches g c =
    on_err _ _ (gate_touched g.F.Folder.told g.F.Folder.left_since c.args.folder.now c.requires.synced (g.met.F.Folder.only_now c.args.folder.now)
    c.set.new.self c.args.gate.now c.requires.gate c.set.ensures.crash)

pub returns-in_err-sync-clause-touches : goal.returns-in_err-sync-clause-touches
returns-in_err-sync-clause-touches g c =
    on_err _ _ (gate_touched_on g.F.Folder.told g.F.Folder.left_since c.args.folder.now c.requires.synced (g.met.F.Folder.only_now c.args.folder.now)
    c.set.new.self c.sync.new.self c.args.gate.now c.requires.gate c.set.ensures.crash c.in_err-sync.ensures.failed c.in_err-sync.ensures.untouched)

pub returns-in_err-set-clause-unchanged : goal.returns-in_err-set-clause-unchanged
returns-in_err-set-clause-unchanged g c = λ is.
    none_leaves g.F.Folder.told g.F.Folder.left_since c.args.folder.now c.requires.synced (g.met.F.Folder.only_now c.args.folder.now)
    c.set.new.self c.set.ensures.unsynced (c.in_err-set.ensures.no_memory (search rules)) c.set.ensures.time
