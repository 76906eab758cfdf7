use Rattle.install_journal.proofs.Damages.{looks_then, looks_back}
use Rattle.install_journal.proofs.Gatherings.{IsTried, plan_told, unfit_told}
use Rattle.install_journal.proofs.gathering.gather.Goals as goal

pub returns-in-Ok-None-clause-plan : goal.returns-in-Ok-None-clause-plan
returns-in-Ok-None-clause-plan g c =
    let told = g.F.Folder.told in
    let old = c.args.folder.now in
    plan_told (told old) c.in_ok-plan.plan c.in-Ok-None.field-0 c.in-Ok-None.field-0-is c.in_ok-plan.ensures.gathered
    (looks_back told g.F.Folder.left_since old c.read_counted.new.folder (IsTried c.in-Ok-None.field-0) c.read_counted.ensures.looks c.in-Ok-None.ensures.found)

pub returns-in-Ok-Some-clause-damaged : goal.returns-in-Ok-Some-clause-damaged
returns-in-Ok-Some-clause-damaged g c =
    let told = g.F.Folder.told in
    let old = c.args.folder.now in
    let path = c.in-Ok-Some.path in
    unfit_told (told old) c.in_ok-plan.plan c.in-Ok-Some.field-0 path c.in-Ok-Some.field-0-is c.in_ok-plan.ensures.gathered
    (looks_back told g.F.Folder.left_since old c.read_counted.new.folder (IsTried c.in-Ok-Some.field-0) c.read_counted.ensures.looks c.in-Ok-Some.ensures.found)

pub returns-in-Ok-None-clause-looks : goal.returns-in-Ok-None-clause-looks
returns-in-Ok-None-clause-looks g c =
    looks_then g.F.Folder.told g.F.Folder.left_since c.args.folder.now c.read_counted.new.folder c.find_unfit.new.folder c.read_counted.ensures.looks c.find_unfit.ensures.looks

pub returns-in-Ok-Some-clause-looks : goal.returns-in-Ok-Some-clause-looks
returns-in-Ok-Some-clause-looks g c =
    looks_then g.F.Folder.told g.F.Folder.left_since c.args.folder.now c.read_counted.new.folder c.find_unfit.new.folder c.read_counted.ensures.looks c.find_unfit.ensures.looks

pub returns-in-Err-Failed-clause-looks : goal.returns-in-Err-Failed-clause-looks
returns-in-Err-Failed-clause-looks g c =
    looks_then g.F.Folder.told g.F.Folder.left_since c.args.folder.now c.read_counted.new.folder c.find_unfit.new.folder c.read_counted.ensures.looks c.find_unfit.ensures.looks

pub returns-clause-looks : goal.returns-clause-looks
returns-clause-looks g c =
    looks_then g.F.Folder.told g.F.Folder.left_since c.args.folder.now c.read_counted.new.folder c.find_unfit.new.folder c.read_counted.ensures.looks c.find_unfit.ensures.looks
