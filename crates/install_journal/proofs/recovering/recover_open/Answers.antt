use Rattle.std.specs.Bool.{⊤}
use Rattle.folder_core.specs.Crash.{AllImages}
use Rattle.folder_core.specs.Folder.{Map}
use Rattle.install_journal.specs.Recovering.{RestoresToo}
use Rattle.install_journal.proofs.Damages.{looks_back}
use Rattle.install_journal.proofs.Preparings.{looked_on}
use Rattle.install_journal.specs.Plan.{IsPlan}
use Rattle.backup_store.specs.Held.{IsOpen as OpensGate}
use Rattle.install_journal.proofs.Recoverings.{looks_stay, looks_narrow, looks_time, once_left, left_then, restores_left, too_left, too_now}
use Rattle.install_journal.proofs.RecoveryFaults.{same_fault, recover_always}
use Rattle.install_journal.proofs.recovering.recover_open.Goals as goal

pub returns-in_err-plan-clause-leaves : goal.returns-in_err-plan-clause-leaves
returns-in_err-plan-clause-leaves g c =
    let told = g.F.Folder.told in
    let left = g.F.Folder.left_since in
    let old = c.args.folder.now in
    let mid = c.gather.new.folder in
    let looks = c.gather.ensures.looks in
    once_left told left old (g.met.F.Folder.only_now old) mid (looks_stay told left old mid looks) (looks_narrow told left old mid looks) (looks_time told left old mid looks)

pub returns-in_err-restore-clause-leaves : goal.returns-in_err-restore-clause-leaves
returns-in_err-restore-clause-leaves g c =
    let told = g.F.Folder.told in
    let left = g.F.Folder.left_since in
    let old = c.args.folder.now in
    let mid = c.gather.new.folder in
    let new = c.restore.new.folder in
    let plan = c.in_ok-plan.plan in
    let looks = c.gather.ensures.looks in
    left_then told left old (g.met.F.Folder.only_now old) mid (looks_stay told left old mid looks) (looks_narrow told left old mid looks) (looks_time told left old mid looks)
    new (λ s t. ⊤) c.restore.ensures.tells
    (too_left told left mid new (restores_left told left mid new plan
    (looked_on told left old mid (IsPlan plan) looks c.in_ok-plan.ensures.plan) (looked_on told left old mid OpensGate looks c.requires.open) c.restore.ensures.restores))

pub returns-clause-leaves : goal.returns-clause-leaves
returns-clause-leaves g c =
    let told = g.F.Folder.told in
    let left = g.F.Folder.left_since in
    let old = c.args.folder.now in
    let mid = c.gather.new.folder in
    let new = c.restore.new.folder in
    let plan = c.in_ok-plan.plan in
    let looks = c.gather.ensures.looks in
    left_then told left old (g.met.F.Folder.only_now old) mid (looks_stay told left old mid looks) (looks_narrow told left old mid looks) (looks_time told left old mid looks)
    new (λ s t. ⊤) c.restore.ensures.tells
    (too_left told left mid new (restores_left told left mid new plan
    (looked_on told left old mid (IsPlan plan) looks c.in_ok-plan.ensures.plan) (looked_on told left old mid OpensGate looks c.requires.open) c.restore.ensures.restores))

pub returns-in_err-restore-clause-recover : goal.returns-in_err-restore-clause-recover
returns-in_err-restore-clause-recover g c =
    let told = g.F.Folder.told in
    let left = g.F.Folder.left_since in
    let old = c.args.folder.now in
    let mid = c.gather.new.folder in
    let new = c.restore.new.folder in
    let plan = c.in_ok-plan.plan in
    let looks = c.gather.ensures.looks in
    same_fault c.from_residual-in_err-restore.result c.in_err-restore.field-0.0 _ c.from_residual-in_err-restore.ensures.1
    (recover_always c.in_err-restore.field-0.0 _
    (looks_back told left old mid (λ (m : Map). AllImages (RestoresToo m) (told new)) looks
    (too_now told left mid new (g.met.F.Folder.counts_now new)
    (restores_left told left mid new plan
    (looked_on told left old mid (IsPlan plan) looks c.in_ok-plan.ensures.plan) (looked_on told left old mid OpensGate looks c.requires.open) c.restore.ensures.restores))))
