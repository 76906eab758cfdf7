use Rattle.std.proofs.Common.{None}
use Rattle.folder_core.specs.Folder.{Map}
use Rattle.install_journal.specs.Overlay.{SameOutside}
use Rattle.install_journal.specs.Firsts.{Finds, IsFirst}
use Rattle.install_journal.specs.Preparing.{IsDamage}
use Rattle.install_journal.proofs.Beginnings.{on_ok, unchanged_each, damage_each, none_left, looks_left, looks_shut, mid_prepared, mid_back, then_left, then_restores, then_stays, then_shut, then_same, recover_of, ok_each}
use Rattle.install_journal.proofs.Opens.{looks_of}
use Rattle.install_journal.proofs.change.Change.begin.Goals as goal

pub returns-in_default-clause-leaves : goal.returns-in_default-clause-leaves
returns-in_default-clause-leaves g c =
    none_left g.F.Folder.told g.F.Folder.left_since c.args.folder.now c.requires (g.met.F.Folder.only_now c.args.folder.now)

pub begin_synced-requires-clause-prepared : goal.begin_synced-requires-clause-prepared
begin_synced-requires-clause-prepared g c =
    mid_prepared g.F.Folder.told g.F.Folder.left_since c.args.folder.now c.requires (g.met.F.Folder.only_now c.args.folder.now)
    c.sync.new.self c.sync.ensures.stays c.in-Ok-sync.ensures.synced c.in-Ok-sync.ensures.settled c.sync.ensures.crash c.sync.ensures.time

pub returns-clause-leaves : goal.returns-clause-leaves
returns-clause-leaves g c =
    looks_left g.F.Folder.told g.F.Folder.left_since c.args.folder.now c.requires (g.met.F.Folder.only_now c.args.folder.now) c.sync.new.self (looks_of g.F.Folder.told g.F.Folder.left_since c.args.folder.now c.sync.new.self c.sync.ensures.stays c.in-Err.ensures.failed c.in-Err.ensures.untouched c.sync.ensures.time)

pub returns-clause-shut : goal.returns-clause-shut
returns-clause-shut g c =
    λ _. looks_shut g.F.Folder.told g.F.Folder.left_since c.args.folder.now c.requires (g.met.F.Folder.only_now c.args.folder.now) c.sync.new.self (looks_of g.F.Folder.told g.F.Folder.left_since c.args.folder.now c.sync.new.self c.sync.ensures.stays c.in-Err.ensures.failed c.in-Err.ensures.untouched c.sync.ensures.time)

pub returns-in-Ok-sync-clause-leaves : goal.returns-in-Ok-sync-clause-leaves
returns-in-Ok-sync-clause-leaves g c =
    then_left g.F.Folder.told g.F.Folder.left_since c.args.folder.now c.requires (g.met.F.Folder.only_now c.args.folder.now)
    c.sync.new.self c.sync.ensures.stays c.in-Ok-sync.ensures.synced c.in-Ok-sync.ensures.settled c.sync.ensures.crash c.sync.ensures.time c.begin_synced.new.folder (λ s t. SameOutside t.now s.now) c.begin_synced.ensures.stays c.begin_synced.ensures.leaves

pub returns-in-Ok-sync-clause-stays : goal.returns-in-Ok-sync-clause-stays
returns-in-Ok-sync-clause-stays g c =
    then_stays g.F.Folder.told g.F.Folder.left_since c.args.folder.now c.requires (g.met.F.Folder.only_now c.args.folder.now)
    c.sync.new.self c.sync.ensures.stays c.in-Ok-sync.ensures.synced c.in-Ok-sync.ensures.settled c.sync.ensures.crash c.sync.ensures.time c.begin_synced.new.folder c.begin_synced.ensures.stays

pub returns-in-Ok-sync-clause-restores : goal.returns-in-Ok-sync-clause-restores
returns-in-Ok-sync-clause-restores g c =
    on_ok c.begin_synced.result _ (then_restores g.F.Folder.told g.F.Folder.left_since c.args.folder.now c.requires (g.met.F.Folder.only_now c.args.folder.now)
    c.sync.new.self c.sync.ensures.stays c.in-Ok-sync.ensures.synced c.in-Ok-sync.ensures.settled c.sync.ensures.crash c.sync.ensures.time c.begin_synced.new.folder c.begin_synced.ensures.leaves (g.met.F.Folder.counts_now c.begin_synced.new.folder))

pub returns-in-Ok-sync-clause-recover : goal.returns-in-Ok-sync-clause-recover
returns-in-Ok-sync-clause-recover g c =
    recover_of c.begin_synced.result _ (then_restores g.F.Folder.told g.F.Folder.left_since c.args.folder.now c.requires (g.met.F.Folder.only_now c.args.folder.now)
    c.sync.new.self c.sync.ensures.stays c.in-Ok-sync.ensures.synced c.in-Ok-sync.ensures.settled c.sync.ensures.crash c.sync.ensures.time c.begin_synced.new.folder c.begin_synced.ensures.leaves (g.met.F.Folder.counts_now c.begin_synced.new.folder))

pub returns-in-Ok-sync-clause-shut : goal.returns-in-Ok-sync-clause-shut
returns-in-Ok-sync-clause-shut g c =
    unchanged_each c.begin_synced.result _ _ (λ shut. then_shut g.F.Folder.told g.F.Folder.left_since c.args.folder.now c.requires (g.met.F.Folder.only_now c.args.folder.now)
    c.sync.new.self c.sync.ensures.stays c.in-Ok-sync.ensures.synced c.in-Ok-sync.ensures.settled c.sync.ensures.crash c.sync.ensures.time c.begin_synced.new.folder (λ s t. SameOutside t.now s.now) c.begin_synced.ensures.stays shut) c.begin_synced.ensures.shut

pub returns-in-Ok-sync-clause-undamaged : goal.returns-in-Ok-sync-clause-undamaged
returns-in-Ok-sync-clause-undamaged g c =
    ok_each c.begin_synced.result _ _ (λ none. mid_back g.F.Folder.told g.F.Folder.left_since c.args.folder.now c.requires (g.met.F.Folder.only_now c.args.folder.now)
    c.sync.new.self c.sync.ensures.stays c.in-Ok-sync.ensures.synced c.in-Ok-sync.ensures.settled c.sync.ensures.crash c.sync.ensures.time (λ (m : Map). Finds (IsDamage m) None) none) c.begin_synced.ensures.undamaged

pub returns-in-Ok-sync-clause-damaged : goal.returns-in-Ok-sync-clause-damaged
returns-in-Ok-sync-clause-damaged g c =
    damage_each c.begin_synced.result _ _ (λ at is. mid_back g.F.Folder.told g.F.Folder.left_since c.args.folder.now c.requires (g.met.F.Folder.only_now c.args.folder.now)
    c.sync.new.self c.sync.ensures.stays c.in-Ok-sync.ensures.synced c.in-Ok-sync.ensures.settled c.sync.ensures.crash c.sync.ensures.time (λ (m : Map). IsFirst (IsDamage m) at) is) c.begin_synced.ensures.damaged

pub returns-in-Ok-sync-clause-unchanged : goal.returns-in-Ok-sync-clause-unchanged
returns-in-Ok-sync-clause-unchanged g c =
    damage_each c.begin_synced.result _ _ (λ at same. then_same g.F.Folder.told g.F.Folder.left_since c.args.folder.now c.requires (g.met.F.Folder.only_now c.args.folder.now)
    c.sync.new.self c.sync.ensures.stays c.in-Ok-sync.ensures.synced c.in-Ok-sync.ensures.settled c.sync.ensures.crash c.sync.ensures.time c.begin_synced.new.folder same) c.begin_synced.ensures.unchanged
