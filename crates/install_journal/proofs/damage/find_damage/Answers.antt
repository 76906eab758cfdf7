use Rattle.std.proofs.Common.{List, ℕ, subst}
use Rattle.folder_core.specs.Folder.{Map}
use Rattle.folder_core.specs.Step.{OnTold}
use Rattle.backup_store.specs.Places.{gate_path}
use Rattle.install_journal.specs.Firsts.{Finds}
use Rattle.install_journal.specs.Preparing.{IsChild, IsBelowEntry}
use Rattle.install_journal.proofs.Damages.{looks_then, looks_back, damage_told}
use Rattle.install_journal.proofs.damage.find_damage.Goals as goal

pub returns-clause-looks : goal.returns-clause-looks
returns-clause-looks g c =
    looks_then g.F.Folder.told g.F.Folder.left_since c.args.folder.now c.first_child.new.folder c.below_entries.new.folder
    (looks_then g.F.Folder.told g.F.Folder.left_since c.args.folder.now c.stray_child.new.folder c.first_child.new.folder c.stray_child.ensures.looks c.first_child.ensures.looks)
    c.below_entries.ensures.looks

pub returns-clause-found : goal.returns-clause-found
returns-clause-found g c =
    let first = looks_then g.F.Folder.told g.F.Folder.left_since c.args.folder.now c.stray_child.new.folder c.first_child.new.folder c.stray_child.ensures.looks c.first_child.ensures.looks in
    damage_told (g.F.Folder.told c.args.folder.now) c.in_ok-stray.stray c.in_ok-below_gate.below_gate c.in_ok-below.below c.earlier.result c.earlier-2.result
    (g.met.F.Folder.image_now c.args.folder.now) c.in_ok-stray.ensures.found
    (looks_back g.F.Folder.told g.F.Folder.left_since c.args.folder.now c.stray_child.new.folder (λ (m : Map). IsChild m gate_path c.in_ok-below_gate.below_gate) c.stray_child.ensures.looks
    (subst (λ (p : List (List ℕ)). OnTold (g.F.Folder.told c.stray_child.new.folder) (λ s. IsChild s.now p c.in_ok-below_gate.below_gate)) c.requires.gate c.in_ok-below_gate.ensures.found))
    (looks_back g.F.Folder.told g.F.Folder.left_since c.args.folder.now c.first_child.new.folder (λ (m : Map). Finds (IsBelowEntry m) c.in_ok-below.below) first c.in_ok-below.ensures.found)
    c.earlier-2.ensures c.earlier.ensures

pub returns-in_err-below_gate-clause-looks : goal.returns-in_err-below_gate-clause-looks
returns-in_err-below_gate-clause-looks g c =
    looks_then g.F.Folder.told g.F.Folder.left_since c.args.folder.now c.stray_child.new.folder c.first_child.new.folder c.stray_child.ensures.looks c.first_child.ensures.looks

pub returns-in_err-below-clause-looks : goal.returns-in_err-below-clause-looks
returns-in_err-below-clause-looks g c =
    looks_then g.F.Folder.told g.F.Folder.left_since c.args.folder.now c.first_child.new.folder c.below_entries.new.folder
    (looks_then g.F.Folder.told g.F.Folder.left_since c.args.folder.now c.stray_child.new.folder c.first_child.new.folder c.stray_child.ensures.looks c.first_child.ensures.looks)
    c.below_entries.ensures.looks
