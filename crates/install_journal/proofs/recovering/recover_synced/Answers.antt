use Rattle.std.proofs.Common.{subst}
use Rattle.std.specs.Bool.{⊤}
use Rattle.folder_core.specs.Folder.{Map}
use Rattle.folder_core.specs.Step.{OnTold}
use Rattle.install_journal.specs.Broken.{NamesDamage}
use Rattle.install_journal.specs.Gate.{Reads}
use Rattle.install_journal.specs.declared.gate.Gate.{Gate}
use Rattle.install_journal.proofs.Damages.{looks_back}
use Rattle.install_journal.proofs.Recoverings.{looks_stay, looks_narrow, looks_time, once_left, left_then, broken_of}
use Rattle.install_journal.proofs.RecoveryFaults.{same_fault, fault_damage}
use Rattle.install_journal.proofs.recovering.recover_synced.Goals as goal

pub returns-in_err-recover_open-in-Ok-IsOpen-clause-leaves : goal.returns-in_err-recover_open-in-Ok-IsOpen-clause-leaves
returns-in_err-recover_open-in-Ok-IsOpen-clause-leaves g c =
    let told = g.F.Folder.told in
    let left = g.F.Folder.left_since in
    let old = c.args.folder.now in
    let mid = c.read_gate.new.folder in
    let looks = c.read_gate.ensures.looks in
    left_then told left old (g.met.F.Folder.only_now old) mid (looks_stay told left old mid looks) (looks_narrow told left old mid looks) (looks_time told left old mid looks)
    c.recover_open.new.folder (λ s t. ⊤) c.recover_open.ensures.tells c.recover_open.ensures.leaves

pub returns-in_ok-recover_open-in-Ok-IsOpen-clause-leaves : goal.returns-in_ok-recover_open-in-Ok-IsOpen-clause-leaves
returns-in_ok-recover_open-in-Ok-IsOpen-clause-leaves g c =
    let told = g.F.Folder.told in
    let left = g.F.Folder.left_since in
    let old = c.args.folder.now in
    let mid = c.read_gate.new.folder in
    let looks = c.read_gate.ensures.looks in
    left_then told left old (g.met.F.Folder.only_now old) mid (looks_stay told left old mid looks) (looks_narrow told left old mid looks) (looks_time told left old mid looks)
    c.recover_open.new.folder (λ s t. ⊤) c.recover_open.ensures.tells c.recover_open.ensures.leaves

pub returns-in_err-recover_open-in-Ok-IsOpen-clause-damaged : goal.returns-in_err-recover_open-in-Ok-IsOpen-clause-damaged
returns-in_err-recover_open-in-Ok-IsOpen-clause-damaged g c =
    let told = g.F.Folder.told in
    let left = g.F.Folder.left_since in
    let old = c.args.folder.now in
    let mid = c.read_gate.new.folder in
    let reads = subst (λ (x : Gate). OnTold (told old) (λ s. Reads s.now x)) c.in-Ok-IsOpen.field-0-is c.in-Ok-IsOpen.ensures.gate in
    same_fault c.from_residual.result c.in_err-recover_open-in-Ok-IsOpen.field-0.0 _ c.from_residual.ensures.1
    (fault_damage c.in_err-recover_open-in-Ok-IsOpen.field-0.0 _ _
    (λ at names. broken_of (told old) at reads (looks_back told left old mid (λ (m : Map). NamesDamage m at) c.read_gate.ensures.looks names))
    c.in_err-recover_open-in-Ok-IsOpen.ensures.damaged)

pub returns-in-Ok-IsClosed-clause-leaves : goal.returns-in-Ok-IsClosed-clause-leaves
returns-in-Ok-IsClosed-clause-leaves g c =
    let told = g.F.Folder.told in
    let left = g.F.Folder.left_since in
    let old = c.args.folder.now in
    let mid = c.read_gate.new.folder in
    let looks = c.read_gate.ensures.looks in
    once_left told left old (g.met.F.Folder.only_now old) mid (looks_stay told left old mid looks) (looks_narrow told left old mid looks) (looks_time told left old mid looks)

pub returns-in-Err-Failed-clause-leaves : goal.returns-in-Err-Failed-clause-leaves
returns-in-Err-Failed-clause-leaves g c =
    let told = g.F.Folder.told in
    let left = g.F.Folder.left_since in
    let old = c.args.folder.now in
    let mid = c.read_gate.new.folder in
    let looks = c.read_gate.ensures.looks in
    once_left told left old (g.met.F.Folder.only_now old) mid (looks_stay told left old mid looks) (looks_narrow told left old mid looks) (looks_time told left old mid looks)

pub returns-in-Err-NoMemory-clause-leaves : goal.returns-in-Err-NoMemory-clause-leaves
returns-in-Err-NoMemory-clause-leaves g c =
    let told = g.F.Folder.told in
    let left = g.F.Folder.left_since in
    let old = c.args.folder.now in
    let mid = c.read_gate.new.folder in
    let looks = c.read_gate.ensures.looks in
    once_left told left old (g.met.F.Folder.only_now old) mid (looks_stay told left old mid looks) (looks_narrow told left old mid looks) (looks_time told left old mid looks)
