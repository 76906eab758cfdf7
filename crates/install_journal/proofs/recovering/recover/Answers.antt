use Rattle.std.specs.Bool.{⊤}
use Rattle.folder_core.specs.Folder.{Map}
use Rattle.install_journal.specs.Broken.{IsBroken}
use Rattle.install_journal.proofs.Beginnings.{damage_each, unchanged_each}
use Rattle.install_journal.proofs.Recoverings.{back_now, broken_never, left_then, once_left, recovers_then, settles_ok, shut_once, shut_then, still_synced, synced_once, undamaged_ok}
use Rattle.install_journal.proofs.recovering.recover.Goals as goal

pub returns-in-Ok-clause-settles : goal.returns-in-Ok-clause-settles
returns-in-Ok-clause-settles g c =
    let told = g.F.Folder.told in
    let old = c.args.folder.now in
    let mid = c.sync.new.self in
    let new = c.recover_synced.new.folder in
    settles_ok c.recover_synced.result (told old) (told new)
    (recovers_then c.recover_synced.result (told old) (told mid) (told new) c.sync.ensures.stays c.recover_synced.ensures.recovers) c.recover_synced.ensures.synced

pub returns-in-Ok-clause-undamaged : goal.returns-in-Ok-clause-undamaged
returns-in-Ok-clause-undamaged g c =
    let told = g.F.Folder.told in
    let old = c.args.folder.now in
    let mid = c.sync.new.self in
    let new = c.recover_synced.new.folder in
    undamaged_ok c.recover_synced.result (told old) (told new)
    (settles_ok c.recover_synced.result (told old) (told new)
    (recovers_then c.recover_synced.result (told old) (told mid) (told new) c.sync.ensures.stays c.recover_synced.ensures.recovers) c.recover_synced.ensures.synced)

pub returns-in-Ok-clause-leaves : goal.returns-in-Ok-clause-leaves
returns-in-Ok-clause-leaves g c =
    let old = c.args.folder.now in
    left_then g.F.Folder.told g.F.Folder.left_since old (g.met.F.Folder.only_now old) c.sync.new.self c.sync.ensures.stays c.sync.ensures.crash c.sync.ensures.time
    c.recover_synced.new.folder (λ s t. ⊤) c.recover_synced.ensures.tells c.recover_synced.ensures.leaves

pub returns-in-Ok-clause-shut : goal.returns-in-Ok-clause-shut
returns-in-Ok-clause-shut g c =
    let told = g.F.Folder.told in
    unchanged_each c.recover_synced.result _ _
    (λ still. shut_then (told c.args.folder.now) (told c.sync.new.self) (told c.recover_synced.new.folder) c.sync.ensures.crash still)
    c.recover_synced.ensures.unchanged

pub returns-in-Ok-clause-never_damaged : goal.returns-in-Ok-clause-never_damaged
returns-in-Ok-clause-never_damaged g c =
    let told = g.F.Folder.told in
    damage_each c.recover_synced.result _ _
    (λ at broken. broken_never (told c.args.folder.now) at (back_now (told c.args.folder.now) (told c.sync.new.self) (λ (m : Map). IsBroken m at) c.sync.ensures.stays broken))
    c.recover_synced.ensures.damaged

pub returns-in-Err-clause-leaves : goal.returns-in-Err-clause-leaves
returns-in-Err-clause-leaves g c =
    let old = c.args.folder.now in
    once_left g.F.Folder.told g.F.Folder.left_since old (g.met.F.Folder.only_now old) c.sync.new.self c.sync.ensures.stays c.sync.ensures.crash c.sync.ensures.time

pub returns-in-Err-clause-shut : goal.returns-in-Err-clause-shut
returns-in-Err-clause-shut g c = λ _. shut_once (g.F.Folder.told c.args.folder.now) (g.F.Folder.told c.sync.new.self) c.sync.ensures.crash

pub returns-in-Ok-clause-no_memory : goal.returns-in-Ok-clause-no_memory
returns-in-Ok-clause-no_memory g c =
    let told = g.F.Folder.told in
    still_synced c.recover_synced.result (told c.sync.new.self) (told c.recover_synced.new.folder)
    (synced_once (told c.args.folder.now) (told c.sync.new.self) c.sync.ensures.stays c.in-Ok.ensures.synced c.in-Ok.ensures.settled) c.recover_synced.ensures.unchanged
